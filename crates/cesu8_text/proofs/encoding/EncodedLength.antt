-- The length of an encoding, from the text's UTF-8: each four-byte character takes two bytes more,
-- and in MUTF-8 each U+0000 one more.
use Rattle.std.proofs.Common.{◌≡◌, ℕ, ◌+◌, ◌*◌, ◌≤◌, List, [], ◌∷◌, arith, length, length-append, sum_by}
use Rattle.std.specs.Str.{chars, IsUtf8}
use Rattle.std.proofs.lemmas.Bool.Decides.{nat_tests}
use Rattle.std.proofs.lemmas.List.Sums.{sum_by-append}
use Rattle.cesu8_text.specs.Text.{IsScalarValue, IsText, utf8_of, utf8}
use Rattle.cesu8_text.specs.Utf16.{units_of}
use Rattle.cesu8_text.specs.Encoding.{Flavor, form, encoding}
use Rattle.cesu8_text.specs.Class.{is_null, weight_of}
use Rattle.cesu8_text.proofs.StdUtf8.{IsUtf8Of_chars}
use Rattle.cesu8_text.proofs.encoding.Encodings.{encoding_nil, encoding_cons}
use Rattle.cesu8_text.proofs.encoding.Lengths.{length_bounds}

-- How many bytes longer the encoding is because of one byte of the UTF-8: two for F0 to F7, which
-- leads four bytes that become six, and in MUTF-8 one for 00.
abbrev pub growth_of : Flavor → ℕ → ℕ
growth_of f b = weight_of (is_null f) b

-- The encoding of a character is longer than its UTF-8 by the growth of its bytes.
grows : (f : Flavor) (c : ℕ) → IsScalarValue c →
    length (encoding f (c ∷ [])) ≡ length (utf8_of c) + sum_by (growth_of f) (utf8_of c)
unfolding encoding form units_of utf8_of
grows f c scalar = grind (arith, nat_tests)

-- The encoding of a text is longer than its UTF-8 by the growth of its bytes.
length_encoding : (f : Flavor) (text : List ℕ) → IsText text →
    length (encoding f text) ≡ length (utf8 text) + sum_by (growth_of f) (utf8 text)
length_encoding f [] is_text = grind (arith, encoding_nil)
length_encoding f (c ∷ text) is_text =
    grind (
      arith,
      encoding_cons f c text,
      length-append,
      sum_by-append (growth_of f) (utf8_of c) (utf8 text),
      grows f c is_text.0,
      length_encoding f text is_text.1,
    )

-- For a string in std, the length of the encoding is a sum over the string's bytes, and at most
-- twice their number.
pub record LengthByBytes (f : Flavor) (text bytes : List ℕ) : Type 0 where
  pub sum : length bytes + sum_by (growth_of f) bytes ≡ length (encoding f (chars text))
  pub bound : length (encoding f (chars text)) ≤ 2 * length bytes

-- `LengthByBytes` holds for each string in std. `bytes` is what `as_bytes` returns for it.
pub length_by_bytes : (f : Flavor) (text bytes : List ℕ) → bytes ≡ text → IsUtf8 text → LengthByBytes f text bytes
length_by_bytes f text bytes same is_utf8 = grind (arith, IsUtf8Of_chars, length_bounds, length_encoding)
