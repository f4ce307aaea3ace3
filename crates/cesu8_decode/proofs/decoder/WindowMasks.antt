-- The events of a window and its end, from the masks of the characters that begin in it, as
-- `window_of_lanes` (`lanes/windows.rt`) computes them.
use Rattle.std.proofs.Common.{◌≡◌, ℕ, ◌+◌, ◌-◌, ◌*◌, ◌/◌, ◌%◌, ◌^◌, ◌<◌, ◌≤◌, ◌⊎◌, ⊎_elim, inl, inr, Bool, true, false, not, ◌&&◌, ltb, List, length, get_or, bit_and, bit_or, refl, sym, ap, ◌∙◌, arith, mod-lt, w64, zero-add}
use Rattle.std.specs.Int.{bit_at, bit_not, trailing_ones}
use Rattle.std.proofs.lemmas.Bool.{cases_lt, cases_Bool, both_ways, le-ltb, eq-eqb}
use Rattle.std.proofs.lemmas.Nat.{or_lt}
use Rattle.std.proofs.lemmas.List.{get_or_past}
use Rattle.std.proofs.lemmas.Simd.{get_or-chunk, length-chunk}
use lib.Lanes.{chunk}
use Rattle.std.proofs.lemmas.Nat.Bits.{bit_at_above}
use Rattle.cesu8_text.specs.Encoding.{Flavor}
use Rattle.cesu8_decode.specs.DecodedOffsets.{one_at, width_at, window_of, is_ill_formed_at, is_boundary_at}
use Rattle.cesu8_decode.specs.Masks.{HasBits, Marks, AreMasks, IsWindow, is_other_at, is_two_at, is_three_at, is_pair_at, is_null_at}
use Rattle.cesu8_decode.specs.declared.lanes.masks.Masks.{Masks}
use Rattle.cesu8_decode.specs.declared.lanes.windows.Window.{Window}
use Rattle.cesu8_decode.proofs.by_offset.WindowOffsets.{follows_zeros, width_there}
use Rattle.cesu8_decode.proofs.by_offset.CharacterBoundaries.{boundary_ends, boundary_where, ends_before, ends_by_zero, width_bounds}
use Rattle.cesu8_decode.proofs.by_offset.WidthTests.{width_tells}
use Rattle.cesu8_decode.proofs.by_offset.IllFormed.{reached, not_reached}
use Rattle.cesu8_decode.proofs.decoder.MaskBits.{unset, set_true, run_ones, run_ends, marks_fit, by_equal_test, or_bits, without_bits, marks_from, bits_from}
use Rattle.cesu8_decode.proofs.decoder.FormMasks.{masks_moved}
use Rattle.cesu8_decode.proofs.decoder.CoveredMasks.{covered_by, threes_by, threes_mask, covered_mask, Part, formed, from_covered, to_covered}

-- Five zeros precede the bytes in `window_of`, so the width at an offset is found five bytes later.
width_at_place : (f : Flavor) (bytes : List ℕ) (p q : ℕ) → q ≡ p + 5 → width_at f (window_of bytes) q ≡ width_at f bytes p
width_at_place f bytes p q is = ap (width_at f (window_of bytes)) is ∙ width_there f bytes p

not_other : (one covered : Bool) → (one ≡ true) ⊎ (covered ≡ true) → (not one && not covered) ≡ false
not_other one covered h = grind arith

-- ---- windows

-- The window begins at offset `at`, and its masks are about the n offsets from there on. What
-- `is_ill_formed_at` and `is_boundary_at` say of `window_of` at offset i is about its byte i + 5,
-- so about byte i of the bytes.
module _ (f : Flavor) (bytes : List ℕ) (at n : ℕ) (boundary : is_boundary_at f (window_of bytes) at ≡ true) where
  -- The width of the character at the i-th offset, and whether the byte there is covered by a
  -- character of the window (of two bytes or more), is ill-formed, or is a character by itself.
  abbrev w : ℕ → ℕ
  w i = width_at f bytes (at + i)

  abbrev covered : ℕ → Bool
  covered = covered_by f bytes at n

  abbrev ill : ℕ → Bool
  ill i = is_ill_formed_at f (window_of bytes) (at + i)

  abbrev one : ℕ → Bool
  one i = one_at f (get_or bytes (at + i) 0)

  -- No character reaches an ill-formed byte.
  ill_apart : (i s : ℕ) → ill i ≡ true → s ≤ i → s < 6 → w (i - s) ≤ s
  ill_apart i s set near small =
      let place : at + i + (5 - s) ≡ at + (i - s) + 5 = omega arith in
      omega (arith, not_reached f (window_of bytes) (at + i) set (5 - s) (omega arith), width_at_place f bytes (at + (i - s)) (at + i + (5 - s)) place)

  reach_fits : (i : ℕ) → Part f bytes at n 1 i → (s : ℕ) × (s ≤ i) × (i - s < n) × (s < w (i - s)) × (s < 6)
  reach_fits i part = grind (arith, width_bounds)

  not_ill : (i : ℕ) → covered i ≡ true → ill i ≡ false
  not_ill i set =
      let part = reach_fits i (from_covered f bytes at n i set) in
      ⊎_elim (λ (bad : ill i ≡ true). absurd (omega (arith, ill_apart i part.0 bad part.1 part.4, part.3))) (λ (fine : ill i ≡ false). fine) (cases_Bool (ill i))

  -- An offset that a character reaches is a character of one byte, or is covered.
  reaching : (i s q : ℕ) → i < n → i < 64 → s < 6 → q ≡ at + i + (5 - s) → s < width_at f (window_of bytes) q → (one i ≡ true) ⊎ (covered i ≡ true)
  reaching i s q inside small few is reach =
      ⊎_elim (λ (early : i < s).
      let place : q ≡ at + (i + 5 - s) = omega (arith, is) in
      absurd (omega (arith, reach, boundary_ends f (window_of bytes) at boundary (i + 5 - s) (omega arith), ap (width_at f (window_of bytes)) place)))
      (λ (later : s ≤ i).
      let place : q ≡ at + (i - s) + 5 = omega (arith, is) in
      let there = width_at_place f bytes (at + (i - s)) q place in
      ⊎_elim (λ (some : 0 < s). inr (to_covered f bytes at n (i - s) s i (omega arith) (omega (arith, there, reach)) (omega (arith, there, reach)) (omega arith) small))
      (λ (none : s ≤ 0).
      let same : i - s ≡ i = omega arith in
      ⊎_elim (λ (wide : 2 ≤ w i). inr (to_covered f bytes at n i 0 i inside (omega arith) wide (omega arith) small))
      (λ (narrow : w i < 2). inl (one_wide i (omega (arith, there, reach, ap w same))))
      (cases_lt' (w i)))
      (cases_lt 0 s))
      (cases_lt i s)
    where
      cases_lt' : (k : ℕ) → (2 ≤ k) ⊎ (k < 2)
      cases_lt' k = ⊎_elim (λ (low : k < 2). inr low) (λ (high : 2 ≤ k). inl high) (cases_lt k 2)

      one_wide : (i : ℕ) → w i ≡ 1 → one i ≡ true
      one_wide i is =
          let b = λ (k : ℕ). get_or bytes k 0 in
          sym ((width_tells f (b (at + i)) (b (at + i + 1)) (b (at + i + 2)) (b (at + i + 3)) (b (at + i + 4)) (b (at + i + 5))).1) ∙ eq-eqb (w i) 1 is

  abbrev v : ℕ → ℕ
  v q = width_at f (window_of bytes) q

  -- The ill-formed bytes are those that are no character of one byte and that no character covers.
  ill_is : (i : ℕ) → i < n → i < 64 → (not (one i) && not (covered i)) ≡ ill i
  ill_is i inside small =
      ⊎_elim (λ (bad : ill i ≡ true).
      let alone : one i ≡ false = ⊎_elim (λ (h : one i ≡ true). absurd (omega (arith, (formed f bytes at n i).is_one h, none bad))) (λ (h : one i ≡ false). h) (cases_Bool (one i)) in
      let free : covered i ≡ false = ⊎_elim (λ (h : covered i ≡ true). absurd (both_ways (ill i) (not_ill i h) bad)) (λ (h : covered i ≡ false). h) (cases_Bool (covered i)) in
      (λ k. not (alone k) && not (free k)) ∙ sym bad)
      (λ (fine : ill i ≡ false).
      let found = reached _ _ _ _ _ _ fine in
      not_other (one i) (covered i) (by_reach found) ∙ sym fine)
      (cases_Bool (ill i))
    where
      none : ill i ≡ true → w i ≤ 0
      none bad = let same : i - 0 ≡ i = omega arith in omega (arith, ill_apart i 0 bad (omega arith) (omega arith), ap w same)

      by_reach : (1 ≤ v (at + i + 5)) ⊎ ((2 ≤ v (at + i + 4)) ⊎ ((3 ≤ v (at + i + 3)) ⊎ ((v (at + i + 2) ≡ 6) ⊎ ((v (at + i + 1) ≡ 6) ⊎ (v (at + i) ≡ 6))))) →
          (one i ≡ true) ⊎ (covered i ≡ true)
      by_reach (inl h) = reaching i 0 (at + i + 5) inside small (omega arith) (omega arith) (omega (arith, h))
      by_reach (inr (inl h)) = reaching i 1 (at + i + 4) inside small (omega arith) (omega arith) (omega (arith, h))
      by_reach (inr (inr (inl h))) = reaching i 2 (at + i + 3) inside small (omega arith) (omega arith) (omega (arith, h))
      by_reach (inr (inr (inr (inl h)))) = reaching i 3 (at + i + 2) inside small (omega arith) (omega arith) (omega (arith, h))
      by_reach (inr (inr (inr (inr (inl h))))) = reaching i 4 (at + i + 1) inside small (omega arith) (omega arith) (omega (arith, h))
      by_reach (inr (inr (inr (inr (inr h))))) = reaching i 5 (at + i) inside small (omega arith) (omega arith) (omega (arith, h))

  ill_marks : (others mask : ℕ) → n ≤ 64 → others < 2 ^ 64 → mask < 2 ^ 64 →
      HasBits others (λ i. ltb i n && is_other_at f bytes (at + i)) → HasBits mask covered →
      Marks (bit_and others (bit_not w64 mask)) (is_ill_formed_at f (window_of bytes)) at n
  ill_marks others mask few others_fit mask_fits of_others of_mask =
      marks_from (is_ill_formed_at f (window_of bytes)) at n (by_equal_test (λ i. ltb i n && ill i) tested (without_bits others_fit mask_fits of_others of_mask))
    where
      grouped : (s t u : Bool) → ((s && t) && u) ≡ (s && (t && u))
      grouped s t u = grind arith

      tested : (i : ℕ) → ((ltb i n && not (one i)) && not (covered i)) ≡ (ltb i n && ill i)
      tested i =
          ⊎_elim (λ (inside : i < n).
          grouped (ltb i n) (not (one i)) (not (covered i)) ∙ ap (λ t. ltb i n && t) (ill_is i inside (omega arith)))
          (λ (past : n ≤ i).
          grouped (ltb i n) (not (one i)) (not (covered i))
          ∙ ap (λ t. t && (not (one i) && not (covered i))) (le-ltb i n past) ∙ ap (λ t. t && ill i) (sym (le-ltb i n past)))
          (cases_lt i n)

  -- ---- the end

  -- After the n offsets, exactly r more are covered by characters of the window.
  pub record Ends (r : ℕ) : Type 0 where
    pub inside : (i : ℕ) → n ≤ i → i < n + r → covered i ≡ true
    pub stop : n + r < 64 → covered (n + r) ≡ false
    pub few : r ≤ 5
    pub fits : n + r ≤ 64

  covered_near : (i : ℕ) → covered i ≡ true → i < n + 5
  covered_near i set = let part = reach_fits i (from_covered f bytes at n i set) in omega (arith, part.1, part.2, part.4)

  ends_of : (mask : ℕ) → n < 64 → mask < 2 ^ 64 → HasBits mask covered → Ends (trailing_ones w64 (mask / 2 ^ n))
  ends_of mask few fits of_mask =
      let r = trailing_ones w64 (mask / 2 ^ n) in
      let ones : (i : ℕ) → n ≤ i → i < n + r → covered i ≡ true = λ i from to. set_true (covered i) (bit_at mask i) (of_mask.bit i) (run_ones mask n fits i from to) in
      record {
        inside = ones;
        stop = λ within. unset (covered (n + r)) (bit_at mask (n + r)) (of_mask.bit (n + r)) (run_ends mask n fits);
        few = ⊎_elim (λ (more : 5 < r). absurd (omega (arith, covered_near (n + 5) (ones (n + 5) (omega arith) (omega arith))))) (λ (few : r ≤ 5). few) (cases_lt 5 r);
        fits = ⊎_elim (λ (more : 64 < n + r). absurd (omega (arith, run_ones mask n fits 64 (omega arith) more, bit_at_above mask 64 64 fits (omega arith))))
            (λ (fits : n + r ≤ 64). fits) (cases_lt 64 (n + r));
      }

  pub no_ends : n ≡ 64 → Ends 0
  no_ends all = record { inside = λ i from to. absurd (omega arith); stop = λ within. absurd (omega arith); few = omega arith; fits = omega arith }

  -- At the covered offsets after the first n no character begins, and no byte is ill-formed.
  module _ (r : ℕ) (ends : Ends r) where
    pub rest : (p : ℕ) → at + n ≤ p → p < at + (n + r) → (width_at f bytes p ≡ 0) × (is_ill_formed_at f (window_of bytes) p ≡ false)
    rest p from to =
        let i = p - at in
        let place : at + i ≡ p = omega arith in
        let set = ends.inside i (omega arith) (omega arith) in
        let fits = ends.fits in
        let part = reach_fits i (from_covered f bytes at n i set) in
        let s = part.0 in
        let there = width_at_place f bytes (at + (i - s)) (at + (i - s) + 5) refl in
        let here = width_at_place f bytes p (p + 5) refl in
        let inside : p < length bytes = ⊎_elim (λ (within : p < length bytes). within)
        (λ (past : length bytes ≤ p).
        absurd (omega (arith, ends_by_zero f bytes (at + (i - s)) p (omega (arith, part)) (get_or_past bytes p 0 past), part.3, part.1)))
        (cases_lt p (length bytes)) in (
          ⊎_elim (λ (some : 0 < width_at f bytes p).
              absurd (omega (arith, ends_before f (window_of bytes) bytes (at + (i - s)) p (follows_zeros bytes) (omega (arith, part)) inside (omega (arith, here, some)), there, part.3, part.1)))
              (λ (none : width_at f bytes p ≤ 0). omega arith) (cases_lt 0 (width_at f bytes p)),
          ap (is_ill_formed_at f (window_of bytes)) (sym place) ∙ not_ill i set,
        )

    -- No character crosses the end of the window, if all that begin in it end within 64 bytes.
    boundary_after : ((i : ℕ) → i < n → i + w i ≤ 64) → is_boundary_at f (window_of bytes) (at + (n + r)) ≡ true
    boundary_after whole = boundary_where f (window_of bytes) (at + (n + r)) (λ s small.
        ⊎_elim (λ (early : n + r + s < 5).
        let place : at + (n + r) + s ≡ at + (n + r + s) = omega arith in
        omega (arith, boundary_ends f (window_of bytes) at boundary (n + r + s) early, ap (width_at f (window_of bytes)) place))
        (λ (later : 5 ≤ n + r + s).
        let j = n + r + s - 5 in
        let place : at + (n + r) + s ≡ at + j + 5 = omega arith in
        let there = width_at_place f bytes (at + j) (at + (n + r) + s) place in
        ⊎_elim (λ (begun : j < n).
        ⊎_elim (λ (crosses : 5 - s < w j).
        let full : n + r ≡ j + (5 - s) = omega arith in
        absurd (⊎_elim (λ (within : n + r < 64). both_ways (covered (n + r)) (ends.stop within) (to_covered f bytes at n j (5 - s) (n + r) begun crosses (omega arith) full within))
        (λ (closed : 64 ≤ n + r). omega (arith, whole j begun, ends.fits)) (cases_lt (n + r) 64)))
        (λ (fine : w j ≤ 5 - s). omega (arith, there)) (cases_lt (5 - s) (w j)))
        (λ (past : n ≤ j). omega (arith, there, (rest (at + j) (omega arith) (omega arith)).0)) (cases_lt j n))
        (cases_lt (n + r + s) 5))

-- ---- the window of a vector

-- A vector of 64 bytes agrees with the bytes at n offsets and the five after these: it has them all
-- if n is at most 59, and otherwise the bytes after it are zeros.
pub loaded_alike : (bytes : List ℕ) (at n : ℕ) → at + 64 ≤ length bytes →
    (n ≤ 59) ⊎ ((n ≤ 64) × ((i : ℕ) → at + 64 ≤ i → i < at + 64 + 5 → get_or bytes i 0 ≡ 0)) →
    (i : ℕ) → i < n + 5 → get_or (chunk at 64 bytes) i 0 ≡ get_or bytes (at + i) 0
loaded_alike bytes at n long count k small =
    ⊎_elim (λ (inside : k < 64). get_or-chunk at 64 bytes k 0 inside)
    (λ (past : 64 ≤ k).
    get_or_past (chunk at 64 bytes) k 0 (omega (arith, length-chunk at 64 bytes long))
    ∙ sym (⊎_elim (λ (few : n ≤ 59). absurd (omega arith))
    (λ (ends : (n ≤ 64) × ((i : ℕ) → at + 64 ≤ i → i < at + 64 + 5 → get_or bytes i 0 ≡ 0)). ends.1 (at + k) (omega arith) (omega (arith, ends.0))) count))
    (cases_lt k 64)

module _ (f : Flavor) (lanes bytes : List ℕ) (at n r : ℕ) (masks : Masks) (short : length lanes ≤ 64) (few : n ≤ 64)
    (alike : (i : ℕ) → i < n + 5 → get_or lanes i 0 ≡ get_or bytes (at + i) 0) (boundary : is_boundary_at f (window_of bytes) at ≡ true)
    (given : AreMasks f lanes 0 n masks) where
  are : AreMasks f bytes at n masks
  are = masks_moved f lanes bytes at n masks (λ k small. ap (λ i. get_or lanes i 0) (zero-add k) ∙ alike k small) given

  -- Each character that begins at one of the offsets ends within 64 bytes.
  whole : (i : ℕ) → i < n → i + width_at f bytes (at + i) ≤ 64
  whole i inside =
      ⊎_elim (λ (less : n < 60). omega (arith, width_bounds f bytes (at + i)))
      (λ (many : 60 ≤ n).
      omega (arith, ends_by_zero f bytes (at + i) (at + 64) (omega arith) (sym (alike 64 (omega arith)) ∙ get_or_past lanes 64 0 short)))
      (cases_lt n 60)

  -- The masks `threes`, `begins` and `covered` of `window_of_lanes`. The last one is `mask` here.
  abbrev threes : ℕ
  threes = bit_or (bit_or masks.threes masks.pairs) (masks.pairs * 2 ^ 3 % 2 ^ 64)

  abbrev begins : ℕ
  begins = bit_or (bit_or masks.twos masks.nulls) threes

  abbrev mask : ℕ
  mask = bit_or (bit_or begins (begins * 2 ^ 1 % 2 ^ 64)) (threes * 2 ^ 2 % 2 ^ 64)

  fits : (test : ℕ → Bool) (a : ℕ) → Marks a test at n → a < 2 ^ 64
  fits test a is = marks_fit test at n few is

  shifted_fits : (a k : ℕ) → a * k % 2 ^ 64 < 2 ^ 64
  shifted_fits a k = mod-lt (a * k) (omega arith)

  threes_fit : threes < 2 ^ 64
  threes_fit =
      or_lt 64 (bit_or masks.threes masks.pairs) (masks.pairs * 2 ^ 3 % 2 ^ 64)
      (or_lt 64 masks.threes masks.pairs (fits (is_three_at bytes) masks.threes are.threes) (fits (is_pair_at f bytes) masks.pairs are.pairs))
      (shifted_fits masks.pairs (2 ^ 3))

  begins_fit : begins < 2 ^ 64
  begins_fit =
      or_lt 64 (bit_or masks.twos masks.nulls) threes
      (or_lt 64 masks.twos masks.nulls (fits (is_two_at bytes) masks.twos are.twos) (fits (is_null_at f bytes) masks.nulls are.nulls)) threes_fit

  mask_fits : mask < 2 ^ 64
  mask_fits =
      or_lt 64 (bit_or begins (begins * 2 ^ 1 % 2 ^ 64)) (threes * 2 ^ 2 % 2 ^ 64)
      (or_lt 64 begins (begins * 2 ^ 1 % 2 ^ 64) begins_fit (shifted_fits begins (2 ^ 1))) (shifted_fits threes (2 ^ 2))

  of_threes : HasBits threes (threes_by f bytes at n)
  of_threes = threes_mask f bytes at n (bits_from (is_three_at bytes) at n are.threes) (bits_from (is_pair_at f bytes) at n are.pairs)

  of_mask : HasBits mask (covered_by f bytes at n)
  of_mask =
      covered_mask f bytes at n
      (or_bits (or_bits (bits_from (is_two_at bytes) at n are.twos) (bits_from (is_null_at f bytes) at n are.nulls)) of_threes) of_threes

  -- The number of ones after the offsets is how many more bytes the last character has.
  pub by_ones : n < 64 → Ends f bytes at n boundary (trailing_ones w64 (mask / 2 ^ n))
  by_ones less = ends_of f bytes at n boundary mask less mask_fits of_mask

  -- The masks and this length are the window.
  pub window_is : Ends f bytes at n boundary r →
      let window : Window = record { ill_formed = bit_and masks.others (bit_not w64 mask); pairs = masks.pairs; nulls = masks.nulls; len = n + r } in
      (is : IsWindow f bytes at window) × (is.n ≡ n)
  window_is ends = (
    record {
      n = n;
      few = few;
      ill_formed = ill_marks f bytes at n boundary masks.others mask few (fits (is_other_at f bytes) masks.others are.others) mask_fits
          (bits_from (is_other_at f bytes) at n are.others) of_mask;
      pairs = are.pairs;
      nulls = are.nulls;
      len = (omega arith, omega (arith, ends.few));
      fits = ends.fits;
      rest = rest f bytes at n boundary r ends;
      boundary = boundary_after f bytes at n boundary r ends whole;
    },
    refl,
  )
