-- The masks of characters of three bytes and of surrogate pairs, from masks of classes of bytes,
-- for `threes_and_pairs` of `lanes/masks.rt`.
use Rattle.std.proofs.Common.{◌≡◌, ℕ, ◌+◌, ◌/◌, ◌^◌, ◌<◌, eqb, List, get_or, bit_and, bit_or, ap, sym, ◌∙◌, arith, w64}
use Rattle.std.specs.Int.{bit_not}
use Rattle.std.proofs.lemmas.Nat.{and_le_l, or_lt}
use Rattle.cesu8_decode.specs.DecodedOffsets.{continues, pair_at}
use Rattle.cesu8_decode.specs.Masks.{HasBits, has_bit_below, is_long_lead_at, is_three_at, is_six_at}
use Rattle.cesu8_decode.proofs.decoder.MaskBits.{by_equal_test, and_bits, or_bits, without_bits, later_bits, no_bits, none_set}
use Rattle.cesu8_decode.proofs.decoder.MaskTests.{whole_by, surrogate_by, pair_by, three_bits, pair_bits, no_surrogate, no_lead_no_three, no_lead_no_pair}

-- Masks that `threes_and_pairs` computes. `leads` marks the bytes from E0 on that a continuation
-- byte follows, and `second` any byte that one follows. `odd` marks the bytes with bit 10
-- (hexadecimal), `wide` those with bit 20, `led` the bytes ED, and `lowest` the bytes E0.
abbrev whole_of : (leads second odd : ℕ) → ℕ
whole_of leads second odd = bit_and (bit_and leads (second / 2)) (bit_not w64 odd)

abbrev surrogates_of : (leads second wide odd led : ℕ) → ℕ
surrogates_of leads second wide odd led = bit_and (bit_and (whole_of leads second odd) (wide / 2)) led

-- If a has at most 64 bits, so has a & b.
pub and_fits : (a b : ℕ) → a < 2 ^ 64 → bit_and a b < 2 ^ 64
and_fits a b fits = omega (arith, and_le_l a b)

module _ (xs : List ℕ) where
  abbrev x : ℕ → ℕ
  x i = get_or xs i 0

  -- If no lead byte precedes a continuation byte, no character of three bytes and no surrogate pair
  -- begins.
  pub none_are : {leads : ℕ} → leads ≡ 0 → HasBits leads (is_long_lead_at xs) → HasBits 0 (is_three_at xs) × HasBits 0 (is_six_at xs)
  none_are none of_leads = (
    by_equal_test (is_three_at xs) (λ i. sym (no_lead_no_three (x i) (x (i + 1)) (x (i + 2)) (none_set none of_leads i))) no_bits,
    by_equal_test (is_six_at xs) (λ i. sym (no_lead_no_pair (x i) (x (i + 1)) (x (i + 2)) (x (i + 3)) (x (i + 4)) (x (i + 5)) (none_set none of_leads i))) no_bits,
  )

  module _ (small : (i : ℕ) → get_or xs i 0 < 256) {leads second odd : ℕ} (of_leads : HasBits leads (is_long_lead_at xs))
      (of_second : HasBits second (λ i. continues (x (i + 1)))) (of_odd : HasBits odd (λ i. has_bit_below 3 (x i))) (leads_fit : leads < 2 ^ 64) (odd_fits : odd < 2 ^ 64) where
    -- `whole_of` marks the bytes from E0 to EF that two continuation bytes follow.
    of_whole : HasBits (whole_of leads second odd) (λ i. whole_by (x i) (x (i + 1)) (x (i + 2)) (has_bit_below 3 (x i)))
    of_whole =
        let third = by_equal_test (λ i. continues (x (i + 2))) (λ i. let offset : i + 1 + 1 ≡ i + 2 = omega arith in ap (λ j. continues (x j)) offset) (later_bits 1 of_second) in
        without_bits (and_fits leads (second / 2) leads_fit) odd_fits (and_bits of_leads third) of_odd

    whole_fits : whole_of leads second odd < 2 ^ 64
    whole_fits = and_fits (bit_and leads (second / 2)) (bit_not w64 odd) (and_fits leads (second / 2) leads_fit)

    module _ {wide led lowest : ℕ} (of_wide : HasBits wide (λ i. has_bit_below 2 (x i))) (of_led : HasBits led (λ i. eqb (x i) 0xED))
        (of_lowest : HasBits lowest (λ i. eqb (x i) 0xE0)) (wide_fits : wide < 2 ^ 64) (lowest_fits : lowest < 2 ^ 64) where
      -- `surrogates_of` marks the surrogates.
      surrogate_mask : HasBits (surrogates_of leads second wide odd led)
          (λ i. surrogate_by (x i) (x (i + 1)) (x (i + 2)) (has_bit_below 3 (x i)) (has_bit_below 2 (x (i + 1))))
      surrogate_mask = and_bits (and_bits of_whole (later_bits 1 of_wide)) of_led

      surrogates_fit : surrogates_of leads second wide odd led < 2 ^ 64
      surrogates_fit = and_fits (bit_and (whole_of leads second odd) (wide / 2)) led (and_fits (whole_of leads second odd) (wide / 2) whole_fits)

      -- This mask marks the characters of three bytes.
      pub threes_are : HasBits (bit_and (whole_of leads second odd) (bit_not w64 (bit_or (surrogates_of leads second wide odd led) (bit_and lowest (bit_not w64 (wide / 2)))))) (is_three_at xs)
      threes_are =
          by_equal_test (is_three_at xs) (λ i. three_bits (x i) (x (i + 1)) (x (i + 2)) (small i) (small (i + 1)))
          (without_bits whole_fits (or_lt 64 _ _ surrogates_fit (and_fits lowest (bit_not w64 (wide / 2)) lowest_fits)) of_whole
          (or_bits surrogate_mask (without_bits lowest_fits (omega arith) of_lowest (later_bits 1 of_wide))))

      -- If there is no surrogate, no surrogate pair begins.
      pub no_pairs_are : surrogates_of leads second wide odd led ≡ 0 → HasBits 0 (is_six_at xs)
      no_pairs_are none =
          by_equal_test (is_six_at xs) (λ i. sym (no_surrogate (x i) (x (i + 1)) (x (i + 2)) (small i) (small (i + 1)) (x (i + 3)) (x (i + 4)) (x (i + 5)) (none_set none surrogate_mask i))) no_bits

      -- This mask marks the surrogate pairs: a high surrogate, and three bytes later a low one
      -- (`low`).
      pub pairs_are :
          let surrogates = surrogates_of leads second wide odd led in
          let low = bit_and surrogates (odd / 2) in
          HasBits (bit_and (bit_and surrogates (bit_not w64 low)) (low / 8)) (is_six_at xs)
      pairs_are =
          let low = and_bits surrogate_mask (later_bits 1 of_odd) in
          by_equal_test (is_six_at xs) paired (and_bits (without_bits surrogates_fit (and_fits (surrogates_of leads second wide odd led) (odd / 2) surrogates_fit) surrogate_mask low) (later_bits 3 low))
        where
          paired : (i : ℕ) →
              pair_by (x i) (x (i + 1)) (x (i + 2)) (x (i + 3)) (x (i + 3 + 1)) (x (i + 3 + 2)) (has_bit_below 3 (x i)) (has_bit_below 2 (x (i + 1)))
              (has_bit_below 3 (x (i + 1))) (has_bit_below 3 (x (i + 3))) (has_bit_below 2 (x (i + 3 + 1))) (has_bit_below 3 (x (i + 3 + 1))) ≡ is_six_at xs i
          paired i =
              let fifth : x (i + 3 + 1) ≡ x (i + 4) = ap x (omega arith) in
              let sixth : x (i + 3 + 2) ≡ x (i + 5) = ap x (omega arith) in
              pair_bits (x i) (x (i + 1)) (x (i + 2)) (small i) (small (i + 1)) (x (i + 3)) (x (i + 3 + 1)) (x (i + 3 + 2)) (small (i + 3)) (small (i + 3 + 1))
              ∙ (λ k. pair_at (x i) (x (i + 1)) (x (i + 2)) (x (i + 3)) (fifth k) (sixth k))
