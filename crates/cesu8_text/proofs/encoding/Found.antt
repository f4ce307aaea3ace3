-- Bytes that match the pattern of an encoded character begin with one.
use Rattle.std.proofs.lemmas.Bool.Decides.{nat_tests}
use Rattle.std.proofs.Common.{◌≡◌, ℕ, ◌<◌, ◌≤◌, List, [], ◌∷◌, arith, length, drop, get_or}
use Rattle.std.proofs.Math.Seq.{drop-append_seam}
use Rattle.cesu8_text.specs.Text.{utf8_of}
use Rattle.cesu8_text.specs.Utf16.{units_of}
use Rattle.cesu8_text.specs.Encoding.{Flavor, Mutf8, form, encoding, short_form}
use Rattle.cesu8_text.specs.Reading.{BeginsWith, width, two_byte_value, three_byte_value, pair_value}
use Rattle.cesu8_text.specs.Patterns.{IsContinuation, EndsPair}

-- The bytes begin with a character whose encoding has m bytes and whose UTF-8 has n.
pub record BeginsInLengths (f : Flavor) (bytes : List ℕ) (m n : ℕ) : Type 0 where
  pub character : ℕ
  pub rest : List ℕ
  pub begins : BeginsWith f bytes character rest
  pub encoded : width f character ≡ m
  pub in_utf8 : length (utf8_of character) ≡ n

-- The rest is what follows the first m bytes.
pub rest_is : (f : Flavor) (bytes : List ℕ) (m n : ℕ) → (found : BeginsInLengths f bytes m n) → drop m bytes ≡ found.rest
rest_is f bytes m n found =
    grind (arith, drop-append_seam (encoding f (found.character ∷ [])) found.rest)

-- Bytes that begin with the m bytes of the character c begin with c.
begins_with : (f : Flavor) (bytes : List ℕ) (m n c : ℕ) →
    BeginsWith f bytes c (drop m bytes) × (width f c ≡ m) × (length (utf8_of c) ≡ n) → BeginsInLengths f bytes m n
begins_with f bytes m n c found =
    record { character = c; rest = drop m bytes; begins = found.0; encoded = found.1; in_utf8 = found.2 }

-- A byte below 80 (hexadecimal) is a character if the encoding leaves it unchanged.
pub found_one : (f : Flavor) (bytes : List ℕ) → 0 < length bytes → get_or bytes 0 0 < 0x80 →
    short_form f (get_or bytes 0 0) ≡ get_or bytes 0 0 ∷ [] → BeginsInLengths f bytes 1 1
unfolding encoding form units_of utf8_of
found_one f bytes long low same = begins_with f bytes 1 1 (get_or bytes 0 0) (grind (arith, nat_tests))

-- In MUTF-8, C0 80 (hexadecimal) is the null character.
pub found_null : (f : Flavor) (bytes : List ℕ) → f ≡ Mutf8 → 2 ≤ length bytes → get_or bytes 0 0 ≡ 0xC0 →
    get_or bytes 1 0 ≡ 0x80 → BeginsInLengths f bytes 2 1
unfolding encoding form units_of utf8_of
found_null f bytes mutf8 long lead continuation = begins_with f bytes 2 1 0 (grind (arith, nat_tests))

-- A lead byte of two and a continuation byte are a character.
pub found_two : (f : Flavor) (bytes : List ℕ) → 2 ≤ length bytes → 0xC2 ≤ get_or bytes 0 0 → get_or bytes 0 0 < 0xE0 →
    IsContinuation (get_or bytes 1 0) → BeginsInLengths f bytes 2 2
unfolding encoding form units_of utf8_of
found_two f bytes long low high continuation =
    begins_with f bytes 2 2 (two_byte_value (get_or bytes 0 0) (get_or bytes 1 0)) (grind (arith, nat_tests))

-- A lead byte of three and two continuation bytes are a character if their value needs three bytes
-- and is no surrogate.
pub found_three : (f : Flavor) (bytes : List ℕ) → 3 ≤ length bytes → 0xE0 ≤ get_or bytes 0 0 → get_or bytes 0 0 < 0xF0 →
    IsContinuation (get_or bytes 1 0) → IsContinuation (get_or bytes 2 0) →
    (get_or bytes 0 0 ≡ 0xE0 → 0xA0 ≤ get_or bytes 1 0) → (get_or bytes 0 0 ≡ 0xED → get_or bytes 1 0 < 0xA0) →
    BeginsInLengths f bytes 3 3
unfolding encoding form units_of utf8_of
found_three f bytes long low high middle last needs_three no_surrogate =
    begins_with f bytes 3 3 (three_byte_value (get_or bytes 0 0) (get_or bytes 1 0) (get_or bytes 2 0))
    (grind (arith, nat_tests))

-- Six bytes with the pattern of a surrogate pair are a character.
pub found_pair : (f : Flavor) (bytes : List ℕ) → 6 ≤ length bytes → get_or bytes 0 0 ≡ 0xED → 0xA0 ≤ get_or bytes 1 0 →
    get_or bytes 1 0 < 0xB0 → EndsPair (get_or bytes 2 0) (get_or bytes 3 0) (get_or bytes 4 0) (get_or bytes 5 0) →
    BeginsInLengths f bytes 6 4
unfolding encoding form units_of utf8_of
found_pair f bytes long lead low high ends =
    begins_with f bytes 6 4 (pair_value (get_or bytes 1 0) (get_or bytes 2 0) (get_or bytes 4 0) (get_or bytes 5 0))
    (grind (arith, nat_tests))
