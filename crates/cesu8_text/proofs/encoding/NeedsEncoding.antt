-- A text needs encoding if and only if its UTF-8 has a byte that changes, and if and only if its
-- encoding is longer than its UTF-8.
use Rattle.std.proofs.lemmas.Bool.Decides.{nat_tests}
use Rattle.std.proofs.Common.{◌≡◌, ◌≢◌, ℕ, ◌<◌, ◌↔◌, List, [], ◌∷◌, ap, ⊎_elim, arith, length, length-append, get_or}
use Rattle.std.specs.Str.{chars, IsUtf8}
use Rattle.std.specs.List.{Any}
use Rattle.cesu8_text.specs.Text.{IsScalarValue, IsText, utf8_of, utf8}
use Rattle.cesu8_text.specs.Encoding.{Flavor, Mutf8, encoding, IsEncodedOtherwise, NeedsEncoding}
pub use Rattle.cesu8_text.specs.Class.{IsChangedByte}
use Rattle.cesu8_text.proofs.StdUtf8.{IsUtf8Of_chars}
use Rattle.cesu8_text.proofs.encoding.Encodings.{encoding_nil, encoding_cons}
use Rattle.cesu8_text.proofs.encoding.Lengths.{change, length_bounds}
use Rattle.cesu8_text.proofs.lists.Elements.{any_nil, any_here, any_there, any_cons, any_left, any_right, any_append}

-- A byte below F0 (hexadecimal) is unchanged, except 0 in MUTF-8.
pub unchanged : (f : Flavor) (b : ℕ) → b < 0xF0 → (f ≡ Mutf8 → b ≢ 0) → IsChangedByte f b → ⊥
unchanged f b low not_null changed = grind (arith, nat_tests)

-- A scalar value is encoded otherwise than in UTF-8 if and only if its UTF-8 has a byte that
-- changes.
shows : (f : Flavor) (c : ℕ) → IsScalarValue c → Any (IsChangedByte f) (utf8_of c) ↔ IsEncodedOtherwise f c
unfolding utf8_of
shows f c scalar =
    (grind (arith, nat_tests), λ needs. (0, get_or (utf8_of c) 0 0, grind (arith, nat_tests), grind (arith, nat_tests), grind (arith, nat_tests)))

-- A text needs encoding if and only if its UTF-8 has a byte that changes.
pub needs_by_changed_byte : (f : Flavor) (text : List ℕ) → IsText text → Any (IsChangedByte f) (utf8 text) ↔ NeedsEncoding f text
needs_by_changed_byte f [] is_text = grind (arith, any_nil (IsChangedByte f), any_nil (IsEncodedOtherwise f))
needs_by_changed_byte f (c ∷ text) is_text =
    let here = shows f c is_text.0 in
    let there = needs_by_changed_byte f text is_text.1 in (
      (λ changed. ⊎_elim (λ first. any_here _ c text (here.0 first)) (λ later. any_there _ c text (there.0 later))
          (any_append (IsChangedByte f) (utf8_of c) (utf8 text) changed)),
      (λ needs. ⊎_elim (λ first. any_left _ (utf8_of c) (utf8 text) (here.1 first))
          (λ later. any_right _ (utf8_of c) (utf8 text) (there.1 later))
          (any_cons (IsEncodedOtherwise f) c text needs)),
    )

-- A text that needs no encoding is encoded as its UTF-8.
pub encoding_same : (f : Flavor) (text : List ℕ) → IsText text → (NeedsEncoding f text → ⊥) → encoding f text ≡ utf8 text
encoding_same f [] is_text no_need = encoding_nil f
encoding_same f (c ∷ text) is_text no_need =
    grind (
      arith,
      encoding_cons,
      change f c is_text.0,
      any_here (IsEncodedOtherwise f) c text,
      any_there (IsEncodedOtherwise f) c text,
      encoding_same f text is_text.1,
    )

-- The encoding of a text that needs encoding is longer than its UTF-8.
pub encoding_longer : (f : Flavor) (text : List ℕ) → IsText text → NeedsEncoding f text →
    length (utf8 text) < length (encoding f text)
encoding_longer f [] is_text needs = absurd (any_nil _ needs)
encoding_longer f (c ∷ text) is_text needs =
    grind (
      arith,
      encoding_cons,
      length-append,
      any_cons (IsEncodedOtherwise f),
      change f c is_text.0,
      length_bounds f text is_text.1,
      encoding_longer f text is_text.1,
    )

-- What decides the encoding of a string in std, whose bytes are UTF-8.
module _ (f : Flavor) (bytes : List ℕ) (is_utf8 : IsUtf8 bytes) where
  -- The string's bytes decide whether it needs encoding.
  pub needs_by_bytes : Any (IsChangedByte f) bytes ↔ NeedsEncoding f (chars bytes)
  needs_by_bytes =
      let of_chars = IsUtf8Of_chars bytes is_utf8 in rw of_chars.1 at (needs_by_changed_byte f (chars bytes) of_chars.0)

  -- A test for a byte that changes decides whether the string needs encoding.
  pub needs_by_test : (R : Type 0) → R ↔ Any (IsChangedByte f) bytes → R ↔ NeedsEncoding f (chars bytes)
  needs_by_test R test = ((λ r. needs_by_bytes.0 (test.0 r)), (λ needs. test.1 (needs_by_bytes.1 needs)))

  -- If the string needs no encoding, its encoding is its bytes.
  pub encoding_is_bytes : (NeedsEncoding f (chars bytes) → ⊥) → encoding f (chars bytes) ≡ bytes
  encoding_is_bytes no_need = grind (arith, IsUtf8Of_chars, encoding_same)

  -- If the string needs encoding, its encoding is not its bytes.
  pub encoding_is_not_bytes : NeedsEncoding f (chars bytes) → encoding f (chars bytes) ≡ bytes → ⊥
  encoding_is_not_bytes needs equal =
      grind (arith, IsUtf8Of_chars bytes is_utf8, encoding_longer f (chars bytes), ap length equal)

  -- If the encoding is as long as the string's bytes, they are equal.
  pub encoding_as_long : length (encoding f (chars bytes)) ≡ length bytes → encoding f (chars bytes) ≡ bytes
  encoding_as_long as_long = grind (arith, IsUtf8Of_chars, encoding_is_bytes, encoding_longer)

-- Whether the encoding equals the bytes, by whether the string needs encoding.
pub ruleset encoding_by_need = (encoding_is_bytes, encoding_is_not_bytes)
