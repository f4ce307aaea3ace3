-- Characters that need conversion decode to the UTF-8 that the code computes for them. A prefix
-- shows whether one begins the bytes: the first eight bytes, and zeros for those that are missing
-- (`IsPrefixOf`). `append_to_next` of src/destinations/strict_append.rt tests such a prefix.
use Rattle.std.proofs.lemmas.Bool.Decides.{nat_tests}
use Rattle.std.proofs.Common.{◌≡◌, ℕ, ◌↔◌, ◌≤◌, List, [], ◌∷◌, ◌++◌, sym, ap, ◌∙◌, subst, true, arith, length, drop, get_or, append-nil}
use Rattle.cesu8_text.specs.Text.{utf8_of}
use Rattle.cesu8_text.specs.Utf16.{units_of}
use Rattle.cesu8_text.specs.Encoding.{Flavor, form, encoding}
use Rattle.cesu8_text.specs.Reading.{BeginsWith, width}
use Rattle.cesu8_decode.specs.DecodedOffsets.{first_width, IsPrefixOf, BeginsChanged}
use Rattle.cesu8_bytes.specs.Pairs.{null_at, IsUtf8OfDigits, second_third_fifth_sixth, HasPair}
use Rattle.cesu8_bytes.specs.TextChunks.{IsReadSoFar}
use Rattle.cesu8_bytes.specs.declared.strictness.Strictness.{Strictness}
use Rattle.cesu8_text.proofs.text.Shapes.{Shape, one, two, three, pair, shape}
use Rattle.cesu8_text.proofs.encoding.Forms.{encoding_two, encoding_three, encoding_pair}
use Rattle.cesu8_text.proofs.encoding.Found.{found_pair}
use Rattle.cesu8_decode.proofs.by_offset.WidthTests.{ascii_forms, wide, width_of_first, long_by, pair_by_prefix, same_digits}
use Rattle.cesu8_text.proofs.reading.Steps.{reading_character}

-- If the UTF-8 of the character that begins the bytes is appended, that character is decoded.
character_read : (f : Flavor) (which : Strictness) (bytes rest old new : List ℕ) (c : ℕ) → BeginsWith f bytes c rest →
    new ≡ old ++ utf8_of c → IsReadSoFar f which bytes rest old new
character_read f which bytes rest old new c begins new_is = record {
  text = c ∷ [];
  scalars = (begins.scalar, tt);
  lossy_reading = reading_character f bytes c rest begins;
  strict_reading = λ _. begins.bytes_are;
  written = new_is ∙ ap (λ bs. old ++ bs) (sym (append-nil (utf8_of c)));
}

-- C0 is the first byte of C0 80.
pub null_lead : (f : Flavor) (a b : ℕ) → null_at f a b ≡ true → a ≡ 0xC0
null_lead f a b null = grind (arith, nat_tests)

-- C0 80 is U+0000, in MUTF-8.
pub null_begins : (f : Flavor) (bytes : List ℕ) → null_at f (get_or bytes 0 0) (get_or bytes 1 0) ≡ true → BeginsWith f bytes 0 (drop 2 bytes)
unfolding encoding form units_of
null_begins f bytes null = grind (arith, nat_tests, long_by)

-- A character of six bytes is a surrogate pair, and the four bytes computed from its digits are its
-- UTF-8. Its digits are the bits that differ between pairs.
pub pair_utf8 : (f : Flavor) (bytes four : List ℕ) (c : ℕ) (rest : List ℕ) → BeginsWith f bytes c rest → width f c ≡ 6 → Shape c →
    IsUtf8OfDigits (second_third_fifth_sixth bytes) four → four ≡ utf8_of c
pair_utf8 f bytes four c rest begins six (one ascii) is_utf8 = absurd (grind (arith, ascii_forms f c ascii))
pair_utf8 f bytes four c rest begins six (two x y digits) is_utf8 = absurd (omega (arith, six, ap length (encoding_two f c x y digits)))
pair_utf8 f bytes four c rest begins six (three x y z digits) is_utf8 = absurd (omega (arith, six, ap length (encoding_three f c x y z digits)))
pair_utf8 f bytes four c rest begins six (pair w x y z digits) is_utf8 =
    is_utf8 c w x y z digits (ap second_third_fifth_sixth (begins.bytes_are ∙ ap (λ bs. bs ++ rest) (encoding_pair f c w x y z digits)))

-- Bytes that begin with a surrogate pair have width 6.
pub pair_width : (f : Flavor) (bytes : List ℕ) → 6 ≤ length bytes → HasPair bytes → first_width f bytes ≡ 6
pair_width f bytes long has_pair =
    let found = found_pair f bytes long has_pair.lead has_pair.high.0 has_pair.high.1 has_pair.ends in
    width_of_first f bytes found.character found.rest found.begins ∙ found.encoded

-- If the four bytes computed from its digits are appended for a surrogate pair, it is decoded.
pub pair_read : (f : Flavor) (which : Strictness) (bytes old four new : List ℕ) → first_width f bytes ≡ 6 →
    IsUtf8OfDigits (second_third_fifth_sixth bytes) four → new ≡ old ++ four → IsReadSoFar f which bytes (drop 6 bytes) old new
pair_read f which bytes old four new width_is is_utf8 new_is =
    let found = wide f bytes (omega arith) in
    let begins = subst (λ n. BeginsWith f bytes found.character (drop n bytes)) width_is found.begins in
    let is = pair_utf8 f bytes four found.character _ begins (sym found.wide ∙ width_is) (shape found.character begins.scalar) is_utf8 in
    character_read f which bytes (drop 6 bytes) old new found.character begins (new_is ∙ ap (λ bs. old ++ bs) is)

-- ---- by a prefix

-- A character that needs conversion is C0 80 if the first byte is C0, and otherwise a surrogate
-- pair.
pub changed_null : (f : Flavor) (bytes : List ℕ) → BeginsChanged f bytes → get_or bytes 0 0 ≡ 0xC0 →
    null_at f (get_or bytes 0 0) (get_or bytes 1 0) ≡ true
changed_null f bytes begins lead = grind arith

pub changed_pair : (f : Flavor) (bytes : List ℕ) → BeginsChanged f bytes → ¬ (get_or bytes 0 0 ≡ 0xC0) → HasPair bytes
changed_pair f bytes begins other = grind (arith, null_lead)

-- A surrogate pair at the start of the bytes is one at the start of the padded prefix.
pair_in_prefix : (bytes prefix : List ℕ) → IsPrefixOf bytes prefix → HasPair bytes → HasPair prefix
pair_in_prefix bytes prefix same has = (pair_by_prefix prefix bytes (λ i small. sym (same i small)) has).1

-- A character that needs conversion begins the bytes exactly if it begins the padded prefix.
pub begins_in_prefix : (f : Flavor) (bytes prefix : List ℕ) → IsPrefixOf bytes prefix → BeginsChanged f bytes ↔ BeginsChanged f prefix
begins_in_prefix f bytes prefix same = grind (arith, pair_in_prefix bytes prefix same, pair_by_prefix bytes prefix same)

-- If the UTF-8 of the character that begins the padded prefix is appended, that character is
-- decoded.
module _ (f : Flavor) (bytes prefix : List ℕ) (same : IsPrefixOf bytes prefix) (which : Strictness) (old new : List ℕ) where
  pub seen_pair_read : HasPair prefix → (utf8 : List ℕ) → IsUtf8OfDigits (second_third_fifth_sixth prefix) utf8 → new ≡ old ++ utf8 →
      IsReadSoFar f which bytes (drop 6 bytes) old new
  seen_pair_read has utf8 is new_is =
      let seen = pair_by_prefix bytes prefix same has in
      pair_read f which bytes old utf8 new (pair_width f bytes seen.0 seen.1) (rw (sym (same_digits bytes prefix same)) is) new_is

  pub seen_null_read : null_at f (get_or prefix 0 0) (get_or prefix 1 0) ≡ true → new ≡ old ++ 0 ∷ [] → IsReadSoFar f which bytes (drop 2 bytes) old new
  unfolding utf8_of
  seen_null_read has new_is =
      character_read f which bytes (drop 2 bytes) old new 0 (null_begins f bytes (rw (sym (same 0 (omega arith)), sym (same 1 (omega arith))) has)) new_is
