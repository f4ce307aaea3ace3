-- The lossy reading equals the input only if the input is UTF-8 in which no byte changes, because
-- every replaced byte of UTF-8 makes the result longer.
use Rattle.std.proofs.Common.{◌≡◌, ℕ, ◌+◌, ◌<◌, ◌≤◌, ◌⊎◌, ◌≢◌, List, [], ◌∷◌, ◌++◌, arith, length, length-append}
use Rattle.std.proofs.lemmas.Bool.Decides.{nat_tests}
use Rattle.std.specs.Str.{chars, IsUtf8}
use Rattle.cesu8_text.specs.Text.{IsScalarValue, IsText, utf8_of, utf8}
use Rattle.cesu8_text.specs.Utf16.{units_of}
use Rattle.cesu8_text.specs.Encoding.{Flavor, Mutf8, form, encoding, IsEncodedOtherwise, NeedsEncoding}
use Rattle.cesu8_text.specs.Reading.{reading, lossy_length}
use Rattle.cesu8_text.specs.Class.{IsUnchangedUtf8}
use Rattle.cesu8_text.proofs.StdUtf8.{IsUtf8Of_chars}
use Rattle.cesu8_text.proofs.encoding.Lengths.{change}
use Rattle.cesu8_text.proofs.reading.Borrowing.{unchanged_reading}
use Rattle.cesu8_text.proofs.lists.Elements.{any_cons, any_nil}
use Rattle.cesu8_text.proofs.encoding.NeedsEncoding.{needs_by_bytes}
use Rattle.cesu8_text.proofs.reading.EncodedTexts.{reading_encoding}
use Rattle.cesu8_text.proofs.reading.Decoding.{lossy_length_character, lossy_length_replaced}

-- A string whose characters are the lossy reading is as long as its UTF-8.
pub length_of_reading : (f : Flavor) (bytes text : List ℕ) → IsUtf8 text → chars text ≡ reading f bytes →
    length text ≡ lossy_length f bytes
unfolding lossy_length
length_of_reading f bytes text is_utf8 chars_are = grind (arith, IsUtf8Of_chars)

-- A byte of UTF-8 with which no encoded character begins: a continuation byte, the lead byte of
-- four, and in MUTF-8 the byte 0.
abbrev BeginsNone : Flavor → ℕ → Type 0
BeginsNone f b = ((f ≡ Mutf8) × (b ≡ 0)) ⊎ ((0x80 ≤ b) × ((b < 0xC0) ⊎ (0xF0 ≤ b)))

-- A byte of `BeginsNone` adds three to the lossy length.
replaced : (f : Flavor) (b : ℕ) (bytes : List ℕ) → BeginsNone f b → lossy_length f (b ∷ bytes) ≡ 3 + lossy_length f bytes
unfolding encoding form units_of
replaced f b bytes none = lossy_length_replaced f b bytes (λ c rest begins. grind (arith, nat_tests))

-- The lossy reading of a scalar value's UTF-8 is longer if the value is encoded otherwise than in
-- UTF-8, and else as long.
reading_longer : (f : Flavor) (c : ℕ) (bytes : List ℕ) → IsScalarValue c → IsEncodedOtherwise f c →
    length (utf8_of c) + lossy_length f bytes < lossy_length f (utf8_of c ++ bytes)
unfolding utf8_of
reading_longer f c bytes scalar otherwise = grind (arith, nat_tests, replaced)

-- A scalar value that is encoded as in UTF-8 adds the length of its UTF-8 to the lossy length.
as_long : (f : Flavor) (c : ℕ) (bytes : List ℕ) → IsScalarValue c → encoding f (c ∷ []) ≡ utf8_of c →
    lossy_length f (utf8_of c ++ bytes) ≡ length (utf8_of c) + lossy_length f bytes
as_long f c bytes scalar encoded = grind (arith, lossy_length_character)

-- The lossy reading of a text's UTF-8 is at least as long as it, and longer if the text needs
-- encoding.
record Sizes (f : Flavor) (text : List ℕ) : Type 0 where
  low : length (utf8 text) ≤ lossy_length f (utf8 text)
  needs : NeedsEncoding f text → length (utf8 text) < lossy_length f (utf8 text)

-- `Sizes` holds for each text.
sizes : (f : Flavor) (text : List ℕ) → IsText text → Sizes f text
sizes f [] is_text = record { low = omega arith; needs = λ needs. absurd (any_nil _ needs) }
sizes f (c ∷ text) is_text =
    grind (
      arith,
      length-append,
      as_long,
      reading_longer,
      any_cons (IsEncodedOtherwise f),
      change f c is_text.0,
      sizes f text is_text.1,
    )

-- If the input is not unchanged UTF-8, its lossy reading is not the input.
pub changed_reading : (f : Flavor) (bytes text : List ℕ) → ¬ (IsUnchangedUtf8 f bytes) → IsUtf8 text →
    chars text ≡ reading f bytes → text ≢ bytes
unfolding lossy_length
changed_reading f bytes text not_unchanged is_utf8 chars_are equal =
    let of_chars = IsUtf8Of_chars text is_utf8 in
    let needs_longer = (sizes f (chars text) of_chars.0).needs in
    not_unchanged (rw equal at is_utf8, λ changed. grind (arith, needs_longer, needs_by_bytes f text is_utf8, of_chars))

-- If the input is unchanged UTF-8, its lossy reading is its own characters.
pub unchanged_lossy : (f : Flavor) (bytes text : List ℕ) → text ≡ bytes → IsUnchangedUtf8 f bytes → chars text ≡ reading f bytes
unchanged_lossy f bytes text equal unchanged =
    grind (arith, unchanged_reading f bytes text equal unchanged, reading_encoding f (chars text))
