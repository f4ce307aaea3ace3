-- What functions on masks return. A function cites these lemmas by `using`, so its proof names none
-- of its variables or branches, and a rewritten body keeps the proof.
use Rattle.std.proofs.Common.{◌≡◌, ℕ, ◌+◌, ◌-◌, ◌*◌, ◌/◌, ◌%◌, ◌^◌, ◌<◌, cond, ◌&&◌, eqb, ltb, List, ◌++◌, map, replicate, length, get_or, bit_and, sym, ap, ◌∙◌, refl}
use Rattle.std.specs.Int.{bit_at}
use Rattle.std.proofs.lemmas.Nat.{and_comm}
use lib.Lanes.{mask_l}
use Rattle.cesu8_text.specs.Class.{is_null}
use Rattle.cesu8_text.specs.Encoding.{Flavor, Mutf8}
use Rattle.cesu8_decode.specs.DecodedOffsets.{saved_between, total_saved}
use Rattle.cesu8_decode.specs.Masks.{HasBits, is_null_at}
use Rattle.cesu8_decode.proofs.decoder.MaskBits.{and_bits, by_equal_test, class_bits, class_within, dropped, first_have_bits, later_bits, no_bits, power_less_one}
use Rattle.cesu8_decode.proofs.decoder.MaskCounts.{saved_before_zeros}
use Rattle.cesu8_decode.proofs.decoder.MaskTests.{no_null_byte, null_byte, null_test}

-- ---- bits

pub lowest_bit : (n i : ℕ) → n < 64 → bit_at (1 * 2 ^ n % 2 ^ 64 - 1) i ≡ cond (ltb i n) 1 0
lowest_bit n i few = ap (λ a. bit_at a i) (power_less_one n few) ∙ (first_have_bits n).bit i

pub all_bits : (n i : ℕ) → n ≡ 64 → bit_at (2 ^ 64 - 1) i ≡ cond (ltb i n) 1 0
all_bits n i all = (first_have_bits 64).bit i ∙ ap (λ k. cond (ltb i k) 1 0) (sym all)

pub ruleset first_bits_returned = (lowest_bit, all_bits)

-- ---- null bytes

pub null_bit : (f : Flavor) (xs : List ℕ) (i : ℕ) → f ≡ Mutf8 →
    bit_at (mask_l (map (λ b. eqb b 0) xs)) i ≡ cond (ltb i (length xs) && is_null f (get_or xs i 0)) 1 0
null_bit f xs i mutf8 =
    (class_within (λ b. eqb b 0) xs refl).bit i ∙ ap (λ t. cond (ltb i (length xs) && t) 1 0) (null_byte f (get_or xs i 0) mutf8)

pub no_null_bytes : (f : Flavor) (xs : List ℕ) (n : ℕ) → (f ≡ Mutf8 → ⊥) → HasBits 0 (λ i. ltb i n && is_null f (get_or xs i 0))
no_null_bytes f xs n other =
    by_equal_test _ (λ i. sym (ap (λ t. ltb i n && t) (no_null_byte f (get_or xs i 0) other) ∙ dropped (ltb i n))) no_bits

pub ruleset null_bytes_returned = (null_bit, no_null_bytes)

pub nulls_are : (f : Flavor) (xs : List ℕ) (a b : ℕ) → a ≡ mask_l (map (λ b. eqb b 0xC0) xs) → b ≡ mask_l (map (λ b. eqb b 0x80) xs) → f ≡ Mutf8 →
    HasBits (bit_and a (b / 2 ^ 1)) (is_null_at f xs)
nulls_are f xs a b is_a is_b mutf8 =
    by_equal_test (is_null_at f xs) (λ i. null_test f (get_or xs i 0) (get_or xs (i + 1) 0) mutf8)
    (and_bits (class_bits (λ b. eqb b 0xC0) xs refl is_a) (later_bits 1 (class_bits (λ b. eqb b 0x80) xs refl is_b)))

pub ruleset nulls_returned = (nulls_are, and_comm)

-- ---- savings

pub saved_with_zeros : (f : Flavor) (bytes lanes : List ℕ) (m n : ℕ) → lanes ≡ bytes ++ replicate m 0 → n ≡ length bytes →
    saved_between f lanes 0 n ≡ total_saved f bytes
saved_with_zeros f bytes lanes m n is all =
    (λ i. saved_between f (is i) 0 (all i)) ∙ saved_before_zeros f bytes m
