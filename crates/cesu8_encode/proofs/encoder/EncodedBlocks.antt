-- The vectors of `encode_block` (src/blocks.rt) have, for each offset of a block, what the
-- definitions by offsets say. A block of 32 bytes is read with two bytes before it and one after
-- it, which are 35.
use Rattle.std.proofs.Common.{◌≡◌, ℕ, ◌+◌, ◌%◌, ◌^◌, ◌≤◌, ◌∙◌, List, map, length, get_or, replicate, arith, w8, Fits}
use Rattle.std.specs.List.{range_with_len}
use Rattle.std.proofs.lemmas.List.FromFn.{length-range_with_len}
use Rattle.std.proofs.lemmas.Simd.{length-chunk, zip2_of_maps}
use lib.Lanes.{zip2, mask_l, chunk, top, Each2}
use Rattle.cesu8_text.specs.Encoding.{Flavor}
use Rattle.cesu8_text.specs.Class.{is_at_least_f0, is_null}
use Rattle.cesu8_bytes.specs.Kernels.{mask}
use Rattle.cesu8_encode.specs.EncodedOffsets.{six_bits, changed_at, inserted_at, is_doubled_at}
use Rattle.cesu8_bytes.proofs.lists.Lanes.{equal}
use Rattle.cesu8_bytes.proofs.vectors.Loads.{loaded}
use Rattle.cesu8_encode.proofs.encoder.EncodedLanes.{six_bit_lanes, six_bits_are, high_starts, highs_fit, second_vector, second_lanes, first_vector, first_lanes, doubled_vector, eithers_fit, doubled_bits, lead_or_null}

module _ (window : List ℕ) (at : ℕ) (room : at + 35 ≤ length window) where
  -- Two loads give the six bits of each byte of a block.
  pub six_at : six_bit_lanes 32 (chunk (at + 2) 32 window) (chunk (at + 3) 32 window)
      ≡ map (λ i. six_bits (get_or window (i + 2) 0) (get_or window (i + 3) 0)) (range_with_len at 32)
  six_at =
      six_bits_are (chunk (at + 2) 32 window) (chunk (at + 3) 32 window)
      (length-chunk (at + 2) 32 window (omega arith)) (length-chunk (at + 3) 32 window (omega arith))
      ∙ zip2_of_maps six_bits (λ i. get_or window (i + 2) 0) (λ i. get_or window (i + 3) 0) (range_with_len at 32)
      (loaded window at 2 32 (omega arith)) (loaded window at 3 32 (omega arith))

  -- Adding the six bits to 80 or 9F (`high_starts`) does not overflow a lane.
  pub highs_fit_at : (lead : List ℕ) → lead ≡ map (λ i. mask (is_at_least_f0 (get_or window (i + 2) 0))) (range_with_len at 32) →
      Each2 (λ a b. Fits w8 (a + b)) (six_bit_lanes 32 (chunk (at + 2) 32 window) (chunk (at + 3) 32 window)) (high_starts 32 lead)
  highs_fit_at lead lead_is =
      rw (six_at, lead_is)
      (highs_fit (λ i. is_at_least_f0 (get_or window (i + 2) 0)) (λ i. get_or window (i + 2) 0) (λ i. get_or window (i + 3) 0) (range_with_len at 32))

-- No byte leads four bytes and is null, so the sum of both masks does not overflow a lane.
pub eithers_fit_at : (f : Flavor) (window : List ℕ) (at : ℕ) (lead null : List ℕ) →
    lead ≡ map (λ i. mask (is_at_least_f0 (get_or window (i + 2) 0))) (range_with_len at 32) →
    null ≡ map (λ i. mask (is_null f (get_or window (i + 2) 0))) (range_with_len at 32) →
    Each2 (λ a b. Fits w8 (a + b)) lead null
eithers_fit_at f window at lead null lead_is null_is =
    rw (lead_is, null_is)
    (eithers_fit (λ i. is_at_least_f0 (get_or window (i + 2) 0)) (λ i. is_null f (get_or window (i + 2) 0))
    (λ i. lead_or_null f (get_or window (i + 2) 0)) (range_with_len at 32))

-- The masks and the six bits from which the lanes of a block are computed.
pub record AreMarks (f : Flavor) (window : List ℕ) (at : ℕ) (lead before two_before null six : List ℕ) : Type 0 where
  pub room : at + 35 ≤ length window
  pub lead_is : lead ≡ map (λ i. mask (is_at_least_f0 (get_or window (i + 2) 0))) (range_with_len at 32)
  pub before_is : before ≡ map (λ i. mask (is_at_least_f0 (get_or window (i + 1) 0))) (range_with_len at 32)
  pub two_before_is : two_before ≡ map (λ i. mask (is_at_least_f0 (get_or window i 0))) (range_with_len at 32)
  pub null_is : null ≡ map (λ i. mask (is_null f (get_or window (i + 2) 0))) (range_with_len at 32)
  pub six_is : six ≡ map (λ i. six_bits (get_or window (i + 2) 0) (get_or window (i + 3) 0)) (range_with_len at 32)

module _ (f : Flavor) (window : List ℕ) (at : ℕ) (lead before two_before null six : List ℕ)
    (marks : AreMarks f window at lead before two_before null six) where
  -- The seconds are, for each offset, the last byte that is written for it.
  pub seconds_are : second_vector 32 lead before two_before null (chunk (at + 2) 32 window) six
      ≡ map (changed_at f window) (range_with_len at 32)
  seconds_are = rw (marks.lead_is, marks.before_is, marks.two_before_is, marks.null_is, marks.six_is, loaded window at 2 32 (omega arith))
      (second_lanes (λ i. is_at_least_f0 (get_or window (i + 2) 0)) (λ i. is_at_least_f0 (get_or window (i + 1) 0)) (λ i. is_at_least_f0 (get_or window i 0))
      (λ i. is_null f (get_or window (i + 2) 0)) (λ i. get_or window (i + 2) 0)
      (λ i. six_bits (get_or window (i + 2) 0) (get_or window (i + 3) 0)) (range_with_len at 32))

  -- The firsts are, for each offset whose byte becomes two, the first of the two.
  pub firsts_are : first_vector 32 null ≡ map (inserted_at f window) (range_with_len at 32)
  firsts_are = rw marks.null_is (first_lanes (λ i. is_null f (get_or window (i + 2) 0)) (range_with_len at 32))

  -- The bits of `doubled` say which bytes become two.
  pub doubled_are : mask_l (map (top 7) (zip2 equal (doubled_vector lead two_before null) (replicate 32 255))) % 2 ^ 64
      ≡ mask_l (map (is_doubled_at f window) (range_with_len at 32))
  doubled_are = rw (marks.lead_is, marks.two_before_is, marks.null_is)
      (doubled_bits (λ i. is_at_least_f0 (get_or window (i + 2) 0)) (λ i. is_at_least_f0 (get_or window i 0))
      (λ i. is_null f (get_or window (i + 2) 0)) (λ i. lead_or_null f (get_or window (i + 2) 0)) (range_with_len at 32) (length-range_with_len at 32))
