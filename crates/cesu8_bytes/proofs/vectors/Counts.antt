-- The sum of the weights of bytes, from the sums of parts, and from the bits and lanes of masks.
-- The proofs of the functions of src/lanes/count.rt use these lemmas.
use Rattle.std.proofs.lemmas.Bool.Decides.{nat_tests}
use Rattle.std.proofs.lemmas.Grind.{common_steps}
use Rattle.std.proofs.Common.{◌≡◌, ℕ, ◌+◌, ◌*◌, ◌<◌, ◌≤◌, Bool, cond, List, [], ◌∷◌, length, map, take, drop, replicate, refl, sym, ap, ◌∙◌, subst, arith, count_by, sum_by, count_ones, ◌/◌, ◌^◌, Fits, w8, w32}
use lib.Lanes.{zip2, sel_l, top, mask_l, sum_l, fold_l, chunk, products, dots, Each1, Each2, Steps}
use mir.Val.{of_z}
use Rattle.std.specs.Prelude.{ℤ}
use Rattle.std.proofs.lemmas.List.{length-map, drop-drop, drop-map, take_all}
use Rattle.std.proofs.lemmas.Simd.{length-replicate, Each2-of, Each1-zip2, sum-zip2, length-zip2, length-chunk, sum_bound, sum_dots, sum_by-ones, sum_fits, fold-sum, bytes_below, ones-mask_l}
use Rattle.std.proofs.lemmas.List.Sums.{sum_by-cons, sum_by-take-drop}
use Rattle.cesu8_text.specs.Class.{is_four, weight_of}
use Rattle.cesu8_bytes.proofs.vectors.Rows.{mask_rest}
use Rattle.cesu8_bytes.proofs.lists.Classes.{marks_of, chosen_by_marks}

-- ---- what bytes add

-- The sum of the weights is the count of the class, plus twice the count of four-byte leads.
pub weight_by_counts : (class : ℕ → Bool) (bytes : List ℕ) → count_by class bytes + 2 * count_by is_four bytes ≡ sum_by (weight_of class) bytes
weight_by_counts class [] = refl
weight_by_counts class (b ∷ bytes) = grind (arith, nat_tests, common_steps, sum_by-cons, weight_by_counts class bytes)

-- If no byte weighs more than two, the sum is at most twice the length.
pub weight_bound : (class : ℕ → Bool) → ((b : ℕ) → weight_of class b ≤ 2) → (bytes : List ℕ) → sum_by (weight_of class) bytes ≤ 2 * length bytes
weight_bound class low [] = omega arith
weight_bound class low (b ∷ bytes) = omega (arith, sum_by-cons (weight_of class) b bytes, low b, weight_bound class low bytes)

-- ---- sums by parts

-- The sum so far and that of a chunk, plus the sum of what follows, is the sum of the whole.
pub sum_by_chunk : (f : ℕ → ℕ) (n : ℕ) (xs chunk after : List ℕ) (so_far here whole : ℕ) →
    chunk ≡ take n xs → after ≡ drop n xs → here ≡ sum_by f chunk → so_far + sum_by f xs ≡ whole →
    so_far + here + sum_by f after ≡ whole
sum_by_chunk f n xs chunk after so_far here whole front back summed known =
    omega (arith, sum_by-take-drop f xs n, summed ∙ ap (sum_by f) front, ap (sum_by f) back)

-- The sum of the first a elements and of the next n is the sum of the first a + n.
pub sum_by_next : (f : ℕ → ℕ) (xs : List ℕ) (a n : ℕ) → sum_by f (take a xs) + sum_by f (chunk a n xs) ≡ sum_by f (take (a + n) xs)
sum_by_next f xs a n = grind (arith, drop-drop, sum_by-take-drop)

-- ---- bits of marks

-- The number of bits that a mask has set, without its first n, is the number of later elements that
-- pass.
pub bits_after : (p : ℕ → Bool) (xs : List ℕ) (n bits : ℕ) → n ≤ length xs → bits ≡ mask_l (map p xs) → count_ones (bits / 2 ^ n) ≡ count_by p (drop n xs)
bits_after p xs n bits le is = grind (arith, drop-map, length-map, mask_rest, ones-mask_l)

-- ---- lanes that count their own bytes

-- One for each element that passes, and zero for the others.
abbrev pub ones : (ℕ → Bool) → List ℕ → List ℕ
ones p xs = map (λ x. cond (p x) 1 0) xs

-- Each element of `ones` is at most one.
ones_low : (p : ℕ → Bool) (xs : List ℕ) → Each1 (λ a. a ≤ 1) (ones p xs)
ones_low p [] = tt
ones_low p (x ∷ xs) = (grind arith, ones_low p xs)

-- The sum of `ones` is the number of elements that pass.
ones_total : (p : ℕ → Bool) (xs : List ℕ) → sum_l (ones p xs) ≡ count_by p xs
ones_total p [] = refl
ones_total p (x ∷ xs) = grind (arith, common_steps, ones_total p xs)

-- What holds after n rounds of the loop in `block_weight`, each for one vector of the block: each
-- lane has counted at most n bytes, and the sum of the lanes is the count of the class so far.
pub record HaveCounted (p : ℕ → Bool) (block : List ℕ) (n : ℕ) (lanes : List ℕ) : Type 0 where
  pub long : length lanes ≡ 64
  pub low : Each1 (λ a. a ≤ n) lanes
  pub total : sum_l lanes ≡ count_by p (take (64 * n) block)

module _ (p : ℕ → Bool) (block : List ℕ) (n : ℕ) (lanes : List ℕ) (marks : List ℤ) (have : HaveCounted p block n lanes)
    (marked : marks ≡ marks_of p (chunk (64 * n) 64 block)) (room : 64 * n + 64 ≤ length block) where
  abbrev more : List ℕ
  more = sel_l (map (top 7) (map (of_z w8) marks)) (replicate 64 1) (replicate 64 0)

  -- `more` is one for each byte of the class in the next vector.
  ones_of_next : more ≡ ones p (chunk (64 * n) 64 block)
  ones_of_next = chosen_by_marks p 64 1 0 (chunk (64 * n) 64 block) marks marked (length-chunk (64 * n) 64 block room)

  -- `more` has 64 lanes.
  more_long : length more ≡ 64
  more_long = ap length ones_of_next ∙ length-map (chunk (64 * n) 64 block) (λ x. cond (p x) 1 0) ∙ length-chunk (64 * n) 64 block room

  -- Each lane of `more` is at most one.
  more_low : Each1 (λ a. a ≤ 1) more
  more_low = subst (Each1 (λ a. a ≤ 1)) (sym ones_of_next) (ones_low p (chunk (64 * n) 64 block))

  -- Adding `more` overflows no lane.
  pub one_more_fits : n < 255 → Each2 (λ a b. Fits w8 (a + b)) lanes more
  one_more_fits few =
      Each2-of (λ a. a ≤ n) (λ b. b ≤ 1) (λ a b. Fits w8 (a + b)) (λ a b h k. record { fits = omega arith }) lanes more have.low more_low

  -- Adding `more` adds the count of the next 64 bytes.
  total_more : sum_l (zip2 (λ a b. a + b) lanes more) ≡ count_by p (take (64 * n + 64) block)
  total_more =
      let more_total : sum_l more ≡ count_by p (chunk (64 * n) 64 block) = ap sum_l ones_of_next ∙ ones_total p (chunk (64 * n) 64 block) in
      omega (arith, sum-zip2 lanes more (have.long ∙ sym more_long), sum_by_next (λ y. cond (p y) 1 0) block (64 * n) 64)

  -- After `more` is added, one more vector is counted.
  pub counted_more : HaveCounted p block (n + 1) (zip2 (λ a b. a + b) lanes more)
  counted_more = record {
    long = length-zip2 (λ a b. a + b) lanes more (have.long ∙ sym more_long) ∙ have.long;
    low = Each1-zip2 (λ a b. a + b) (λ a. a ≤ n + 1) lanes more
        (Each2-of (λ a. a ≤ n) (λ b. b ≤ 1) (λ a b. a + b ≤ n + 1) (λ a b h k. omega arith) lanes more have.low more_low);
    total = grind (arith, total_more);
  }

-- After all vectors of a block, the sums of the lanes give the sum of the weights.
pub block_counted : (class : ℕ → Bool) (block : List ℕ) (n : ℕ) (ones fours : List ℕ) →
    length block ≤ 64 * n → HaveCounted class block n ones → HaveCounted is_four block n fours →
    sum_l ones + 2 * sum_l fours ≡ sum_by (weight_of class) block
block_counted class block n ones fours whole of_class of_four = grind (arith, take_all, weight_by_counts)

-- Each of the n dot products with ones sums four lanes. Their sum is that of all lanes, and does
-- not overflow.
module _ (n : ℕ) (few : n ≤ 16) (lanes : List ℕ) (long : length lanes ≡ 4 * n) (fits : Each1 (Fits w8) lanes) where
  dots_total : sum_l (dots lanes (replicate (4 * n) 1)) ≡ sum_l lanes
  dots_total =
      (sum_dots n lanes (replicate (4 * n) 1) long (length-replicate (4 * n) 1)).0
      ∙ subst (λ k. sum_l (products lanes (replicate k 1)) ≡ sum_l lanes) long (sum_by-ones lanes)

  -- No partial sum of the dot products overflows 32 bits: all lanes together are at most 255 * 64.
  pub dots_sum_fits : Steps (λ s x. Fits w32 (s + x)) (λ s x. s + x) 0 (dots lanes (replicate (4 * n) 1))
  dots_sum_fits =
      let low = sum_bound 255 lanes (bytes_below lanes fits) in
      sum_fits w32 0 (dots lanes (replicate (4 * n) 1)) (omega (arith, dots_total, low, long))

  -- The sum of the dot products is the sum of the lanes.
  pub dots_sum : fold_l (λ s x. s + x) 0 (dots lanes (replicate (4 * n) 1)) ≡ sum_l lanes
  dots_sum = omega (arith, fold-sum 0 (dots lanes (replicate (4 * n) 1)), dots_total)
