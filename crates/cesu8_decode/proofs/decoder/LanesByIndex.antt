-- What the bits of a mask say about the lanes of a vector, and that a vector is the list of its
-- lanes by index. The proofs about the vectors of `lanes/following.rt` cite these lemmas:
-- TableLookups, FollowingLanes, ErrorMasks and the answers of `two_follow`.
use Rattle.std.proofs.Common.{◌≡◌, ℕ, zero, suc, ◌+◌, ◌<◌, ◌≤◌, Bool, false, leb, List, refl, sym, ap, ◌∙◌, arith, map, length, get_or, take_all, Fits, w8}
use Rattle.std.specs.List.{range_with_len}
use Rattle.std.proofs.lemmas.Bool.{cases_Bool, leb-false}
use Rattle.std.proofs.lemmas.Simd.{Each1-get_or, map-map, pick_l-range_with_len}
use Rattle.cesu8_bytes.proofs.vectors.Loads.{loaded}
use lib.Lanes.{mask_l, Each1, chunk}

-- ---- the bits of tests

-- If all bits are 0, no lane passes the test.
pub no_lane : (p : ℕ → Bool) (a n : ℕ) → mask_l (map p (range_with_len a n)) ≡ 0 → (i : ℕ) → a ≤ i → i < a + n → p i ≡ false
no_lane p a zero none i from before = absurd (omega arith)
no_lane p a (suc n) none i from before = grind (arith, cases_Bool, no_lane p (a + 1) n)

-- If no lane reaches a number, all bytes of the window there are less than it.
pub all_below : (window : List ℕ) (least at n : ℕ) → at + n ≤ length window → mask_l (map (leb least) (chunk at n window)) ≡ 0 →
    (i : ℕ) → at ≤ i → i < at + n → get_or window i 0 < least
all_below window least at n room none i low inside =
    let lanes = sym (map-map (leb least) (λ i. get_or window i 0) (range_with_len at n)) ∙ ap (map (leb least)) (pick_l-range_with_len 0 window at n room) in
    leb-false least _ (no_lane (λ i. leb least (get_or window i 0)) at n (ap mask_l lanes ∙ none) i low inside)

-- Maps over a range agree if they agree at each offset.
pub on_range : {X : Type 0} (g h : ℕ → X) (a n : ℕ) → ((i : ℕ) → a ≤ i → i < a + n → g i ≡ h i) →
    map g (range_with_len a n) ≡ map h (range_with_len a n)
on_range g h a zero same = refl
on_range g h a (suc n) same = grind (arith, on_range g h (a + 1) n (λ i low inside. same i (omega arith) (omega arith)))

-- ---- the lanes of a vector

-- A vector is the list of its lanes by index.
pub lanes_are : (lanes : List ℕ) → length lanes ≡ 32 → lanes ≡ map (λ i. get_or lanes i 0) (range_with_len 0 32)
lanes_are lanes long = sym (take_all 32 lanes (omega (arith, long))) ∙ loaded lanes 0 0 32 (omega (arith, long))

-- Each lane is a byte.
pub lane_fits : (lanes : List ℕ) → length lanes ≡ 32 → Each1 (Fits w8) lanes → (i : ℕ) → i < 0 + 32 → get_or lanes i 0 < 0x100
lane_fits lanes long fits i inside = (Each1-get_or (Fits w8) lanes i 0 (omega (arith, long, inside)) fits).fits
