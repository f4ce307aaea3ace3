-- Eight lanes of a vector, which one row of a table packs: their bits in a mask, how they are
-- shuffled, and how they are stored. `writing/packing.rt` packs bytes by eights, and so does
-- `store_block` of `cesu8_encode`.
use Rattle.std.proofs.lemmas.Bool.Decides.{nat_tests}
use Rattle.std.proofs.lemmas.Grind.{common_steps}
use Rattle.std.proofs.Common.{◌≡◌, ℕ, zero, suc, ◌+◌, ◌*◌, ◌/◌, ◌%◌, ◌^◌, ◌<◌, ◌≤◌, Bool, cond, List, [], ◌∷◌, ◌++◌, map, length, take, drop, get_or, eqb, sym, ap, ◌∙◌, subst, arith, w8, length-append, bit_and}
use Rattle.std.specs.List.{range_with_len}
use Rattle.std.proofs.lemmas.List.{ext_get_or, get_or-map, length-map, length-take-le, length-drop, take_at, drop_at, drop-drop, take-append-le, drop-append-le}
use Rattle.std.proofs.lemmas.Nat.{and_mask}
use Rattle.std.proofs.Math.Nat.{mul-zero, mul_assoc, pow-succ', add-mul-div_left, add-mul-mod_self_left, div-eq_of_lt, mod-eq_of_lt, one-le-pow}
use Rattle.std.proofs.lemmas.Simd.{swz_l, length-swz_l, get_or-swz_l_below, pick_l-range_with_len, mask_l-lt, put_chunk_is, Each1-get_or}
use lib.Lanes.{mask_l, put_chunk, chunk, pick_l, Each1}

-- The lowest bit of a mask is its first test, and the other bits are the mask of the other tests.
pub lowest : (t : Bool) (m : ℕ) → (eqb ((cond t 1 0 + 2 * m) % 2) 1 ≡ t) × ((cond t 1 0 + 2 * m) / 2 ≡ m)
lowest t m = grind arith

-- A shuffle by indices below 16 selects the lanes at these indices.
pub shuffled : (lanes js : List ℕ) → length js ≡ 16 → Each1 (λ j. j < 16) js → swz_l w8 16 lanes 0 js ≡ map (λ j. get_or lanes j 0) js
shuffled lanes js long small =
    ext_get_or 0 _ _ (length-swz_l w8 16 lanes 0 js ∙ sym (length-map js (λ j. get_or lanes j 0))) (λ m l.
    let within : m < length js = omega (arith, length-swz_l w8 16 lanes 0 js) in
    let here : 16 * ((0 + m) / 16) + get_or js m 0 ≡ get_or js m 0 = omega arith in
    get_or-swz_l_below w8 16 lanes 0 js m within (Each1-get_or (λ j. j < 16) js m 0 within small)
    ∙ ap (λ k. get_or lanes k 0) here
    ∙ sym (get_or-map (λ j. get_or lanes j 0) js m 0 0 within))

-- Storing a vector writes each prefix of it, and leaves what precedes unchanged.
pub stored_prefix : (out prefix padding : List ℕ) (at m : ℕ) → at + (length prefix + length padding) ≤ length out → m ≡ at + length prefix →
    take m (put_chunk at out (prefix ++ padding)) ≡ take at out ++ prefix
stored_prefix out prefix padding at m room end = grind (arith, nat_tests, common_steps, length-take-le, put_chunk_is, take_at)

-- A mask is the mask of its first n tests, plus that of the others shifted up by n bits.
mask_parts : (n : ℕ) (ts : List Bool) → mask_l ts ≡ mask_l (take n ts) + 2 ^ n * mask_l (drop n ts)
mask_parts zero ts = omega arith
mask_parts (suc n) [] = omega (arith, mul-zero (2 ^ suc n))
mask_parts (suc n) (t ∷ ts) =
    let times : 2 ^ suc n * mask_l (drop n ts) ≡ 2 * (2 ^ n * mask_l (drop n ts)) =
    ap (λ k. k * mask_l (drop n ts)) (pow-succ' 2 n) ∙ mul_assoc 2 (2 ^ n) (mask_l (drop n ts)) in
    omega (arith, mask_parts n ts)

-- The mask of n tests is below 2 ^ n.
prefix_below : (n : ℕ) (ts : List Bool) → n ≤ length ts → mask_l (take n ts) < 2 ^ n
prefix_below n ts le = subst (λ k. mask_l (take n ts) < 2 ^ k) (length-take-le n ts le) (mask_l-lt (take n ts))

-- The lower bits of a mask are those of its first tests.
pub mask_prefix : (n : ℕ) (ts : List Bool) → n ≤ length ts → mask_l ts % 2 ^ n ≡ mask_l (take n ts)
mask_prefix n ts le =
    ap (λ m. m % 2 ^ n) (mask_parts n ts) ∙ add-mul-mod_self_left (mask_l (take n ts)) (2 ^ n) (mask_l (drop n ts))
    ∙ mod-eq_of_lt (prefix_below n ts le)

-- The upper bits of a mask are those of its other tests.
pub mask_rest : (n : ℕ) (ts : List Bool) → n ≤ length ts → mask_l ts / 2 ^ n ≡ mask_l (drop n ts)
mask_rest n ts le =
    let first : mask_l (take n ts) / 2 ^ n ≡ 0 = div-eq_of_lt (prefix_below n ts le) in
    ap (λ m. m / 2 ^ n) (mask_parts n ts)
    ∙ add-mul-div_left (mask_l (take n ts)) (mask_l (drop n ts)) (one-le-pow n 2 (omega arith))
    ∙ omega arith

-- The tests of the eight lanes from a on are eight bits of the mask.
pub row_mask : (a : ℕ) (ts : List Bool) (d : ℕ) → a + 8 ≤ length ts → d ≡ mask_l ts →
    bit_and (d / 2 ^ a) 0xFF ≡ mask_l (chunk a 8 ts)
row_mask a ts d le is =
    and_mask (d / 2 ^ a) 8
    ∙ ap (λ m. m % 0x100) (ap (λ m. m / 2 ^ a) is ∙ mask_rest a ts (omega arith))
    ∙ mask_prefix 8 (drop a ts) (omega (arith, length-drop a ts))

-- The tests of the first eight lanes are the lowest eight bits of the mask.
pub first_mask : (ts : List Bool) (d : ℕ) → 8 ≤ length ts → d ≡ mask_l ts → bit_and d 0xFF ≡ mask_l (chunk 0 8 ts)
first_mask ts d le is = and_mask d 8 ∙ ap (λ m. m % 0x100) is ∙ mask_prefix 8 ts le

-- A range of lanes of two concatenated vectors that is in the first is a range of the first.
pub lanes_of_first : (xs ys : List ℕ) (a n : ℕ) → a + n ≤ length xs → pick_l 0 (xs ++ ys) (range_with_len a n) ≡ chunk a n xs
lanes_of_first xs ys a n le =
    pick_l-range_with_len 0 (xs ++ ys) a n (omega (arith, length-append xs ys))
    ∙ ap (take n) (drop-append-le a xs ys (omega arith)) ∙ take-append-le n (drop a xs) ys (omega (arith, length-drop a xs))

-- A range of lanes of two concatenated vectors that is in the second is a range of the second.
pub lanes_of_second : (xs ys : List ℕ) (k a n : ℕ) → length xs ≡ k → a + n ≤ length ys → pick_l 0 (xs ++ ys) (range_with_len (k + a) n) ≡ chunk a n ys
lanes_of_second xs ys k a n e le =
    pick_l-range_with_len 0 (xs ++ ys) (k + a) n (omega (arith, length-append xs ys))
    ∙ ap (take n) (sym (drop-drop a k (xs ++ ys)) ∙ ap (drop a) (drop_at xs ys k e))
