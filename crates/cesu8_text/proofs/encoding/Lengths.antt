-- How long an encoding is compared with UTF-8: at least as long, at most twice as long.
use Rattle.std.proofs.lemmas.Bool.Decides.{nat_tests}
use Rattle.std.proofs.Common.{◌≡◌, ℕ, ◌*◌, ◌<◌, ◌≤◌, List, [], ◌∷◌, arith, length, length-append}
use Rattle.std.specs.Str.{chars, IsUtf8}
use Rattle.cesu8_text.specs.Text.{IsScalarValue, IsText, utf8_of, utf8}
use Rattle.cesu8_text.specs.Utf16.{units_of}
use Rattle.cesu8_text.specs.Encoding.{Flavor, form, encoding, IsEncodedOtherwise}
use Rattle.cesu8_text.proofs.StdUtf8.{IsUtf8Of_chars}
use Rattle.cesu8_text.proofs.encoding.Encodings.{encoding_nil, encoding_cons}

-- Either a scalar value is encoded as its UTF-8, or its encoding is longer, but at most twice as
-- long.
pub data Change (f : Flavor) (c : ℕ) : Type 0 where
  same : (IsEncodedOtherwise f c → ⊥) → encoding f (c ∷ []) ≡ utf8_of c → Change f c
  longer : IsEncodedOtherwise f c → length (utf8_of c) < length (encoding f (c ∷ [])) →
      length (encoding f (c ∷ [])) ≤ 2 * length (utf8_of c) → Change f c

-- Scalar values from 10000 (hexadecimal) on are encoded otherwise than in UTF-8.
pub otherwise : (f : Flavor) (c : ℕ) → 0x10000 ≤ c → IsEncodedOtherwise f c
otherwise f c high = grind arith

-- Each scalar value is one of the two cases of `Change`.
pub change : (f : Flavor) (c : ℕ) → IsScalarValue c → Change f c
unfolding encoding form units_of utf8_of
change f c scalar = grind (arith, nat_tests)

-- The encoding is at least as long as the UTF-8, and at most twice as long.
pub record LengthBounds (f : Flavor) (text : List ℕ) : Type 0 where
  pub low : length (utf8 text) ≤ length (encoding f text)
  pub high : length (encoding f text) ≤ 2 * length (utf8 text)

-- `LengthBounds` holds for each text.
pub length_bounds : (f : Flavor) (text : List ℕ) → IsText text → LengthBounds f text
length_bounds f [] is_text = grind (arith, encoding_nil)
length_bounds f (c ∷ text) is_text =
    grind (arith, encoding_cons, length-append, change f c is_text.0, length_bounds f text is_text.1)

-- The encoding of a string in std is at most twice as long.
pub length_encoding_chars : (f : Flavor) (bytes : List ℕ) → IsUtf8 bytes → length (encoding f (chars bytes)) ≤ 2 * length bytes
length_encoding_chars f bytes is_utf8 = grind (arith, IsUtf8Of_chars, length_bounds)

-- A character's UTF-8 has at least one byte, and at most as many as its encoding.
pub record CharacterLengths (f : Flavor) (c : ℕ) : Type 0 where
  pub some : 0 < length (utf8_of c)
  pub fits : length (utf8_of c) ≤ length (encoding f (c ∷ []))

-- `CharacterLengths` holds for each scalar value.
pub length_of_character : (f : Flavor) (c : ℕ) → IsScalarValue c → CharacterLengths f c
unfolding encoding form units_of utf8_of
length_of_character f c scalar = grind (arith, nat_tests)
