-- Operations on masks, by the tests that their bits represent: `HasBits a p` says that bit i of the
-- number a is set exactly if i passes the test p. Other lemmas on masks of this crate cite these.
use Rattle.std.proofs.Common.{◌≡◌, ℕ, ◌+◌, ◌-◌, ◌*◌, ◌/◌, ◌%◌, ◌^◌, ◌<◌, ◌≤◌, min, max, Bool, cond, true, false, not, ◌&&◌, ◌||◌, leb, ltb, ⊎_elim, List, map, length, get_or, bit_and, bit_or, pow-add, add_comm, one-mul, zero-mul, zero-add, add-zero, mod-eq_of_lt, mod-lt, refl, sym, ap, ◌∙◌, arith, Fits, w8, w64, replicate}
use Rattle.std.specs.Int.{bit_at, bit_not, trailing_ones}
use Rattle.std.specs.Int.Count.{trailing_of_zero}
use Rattle.std.specs.List.{range_with_len}
use Rattle.std.proofs.Math.Nat.{div-div-eq-div-mul, div-le_self}
use Rattle.std.proofs.Math.Pow.{pow-lt, pow_mono}
use Rattle.std.proofs.lemmas.Bool.{and_parts, ltb-true, cases_lt, le-ltb, lt-ltb, le-leb, lt-leb}
use Rattle.std.proofs.lemmas.List.{get_or-map, get_or_past, length-map}
use Rattle.std.proofs.lemmas.List.FromFn.{get_or-map-range_with_len, length-map-range_with_len}
use Rattle.std.proofs.lemmas.Nat.{pow_pos, and_mask}
use Rattle.std.proofs.lemmas.Nat.Bits.{bit_at-trailing_ones, bit_at-zero, bit_at_and, bit_at_or, bit_at_not, bit_at_ones, bit_at_ones_above, bit_at_above, bit_at_cat_low, bit_at_cat_high, bit_at-lt, same_from_bits}
use Rattle.std.proofs.lemmas.Simd.{bit_mask_l, mask_l-lt, Each1-get_or, zip2_splat, map-map}
use lib.Lanes.{mask_l, zip2, Each1}
use Rattle.cesu8_decode.specs.Masks.{HasBits, has_bit_below}

-- ---- tests of a bit

both : (s t : Bool) → min (cond s 1 0) (cond t 1 0) ≡ cond (s && t) 1 0
both s t = grind arith

either : (s t : Bool) → max (cond s 1 0) (cond t 1 0) ≡ cond (s || t) 1 0
either s t = grind arith

one_without : (s t : Bool) → min (cond s 1 0) (1 - cond t 1 0) ≡ cond (s && not t) 1 0
one_without s t = grind arith

outside : (s t : Bool) (n : ℕ) → n ≡ cond s 1 0 → n ≡ 0 → n ≡ cond (s && not t) 1 0
outside s t n is none = grind arith

pub unset : (t : Bool) (n : ℕ) → n ≡ cond t 1 0 → n ≡ 0 → t ≡ false
unset t n is none = grind arith

pub set_true : (t : Bool) (n : ℕ) → n ≡ cond t 1 0 → n ≡ 1 → t ≡ true
set_true t n is one = grind arith

zero_min : (n m : ℕ) → n ≡ 0 → min n m ≡ n
zero_min n m none = omega arith

kept : (t : Bool) → (t && true) ≡ t
kept t = grind arith

pub dropped : (t : Bool) → (t && false) ≡ false
dropped t = grind arith

-- ---- operations

-- The bits of a & b pass both tests.
pub and_bits : {a b : ℕ} {p q : ℕ → Bool} → HasBits a p → HasBits b q → HasBits (bit_and a b) (λ i. p i && q i)
and_bits {a = a} {b = b} {p = p} {q = q} h k = record {
  bit = λ i. bit_at_and a b i ∙ (λ j. min (h.bit i j) (k.bit i j)) ∙ both (p i) (q i);
}

-- The bits of a | b pass one of the tests.
pub or_bits : {a b : ℕ} {p q : ℕ → Bool} → HasBits a p → HasBits b q → HasBits (bit_or a b) (λ i. p i || q i)
or_bits {a = a} {b = b} {p = p} {q = q} h k = record {
  bit = λ i. bit_at_or a b i ∙ (λ j. max (h.bit i j) (k.bit i j)) ∙ either (p i) (q i);
}

-- The bits of a & !b pass the first test and not the second.
pub without_bits : {a b : ℕ} {p q : ℕ → Bool} → a < 2 ^ 64 → b < 2 ^ 64 → HasBits a p → HasBits b q →
    HasBits (bit_and a (bit_not w64 b)) (λ i. p i && not (q i))
without_bits {a = a} {b = b} {p = p} {q = q} small_a small_b h k = record {
  bit = λ i. ⊎_elim (λ (inside : i < 64).
      bit_at_and a (bit_not w64 b) i
      ∙ ap (min (bit_at a i)) (bit_at_not w64 b i small_b inside ∙ ap (λ (n : ℕ). 1 - n) (k.bit i))
      ∙ ap (λ n. min n (1 - cond (q i) 1 0)) (h.bit i)
      ∙ one_without (p i) (q i))
      (λ (above : 64 ≤ i).
      bit_at_and a (bit_not w64 b) i
      ∙ zero_min (bit_at a i) (bit_at (bit_not w64 b) i) (bit_at_above a 64 i small_a above)
      ∙ outside (p i) (q i) (bit_at a i) (h.bit i) (bit_at_above a 64 i small_a above))
      (cases_lt i 64);
}

bit_shifted : (a k i : ℕ) → bit_at (a / 2 ^ k) i ≡ bit_at a (i + k)
bit_shifted a k i = grind (arith, pow-add, add_comm, div-div-eq-div-mul)

-- From an offset on, as many bits are set in a row as `trailing_ones` returns.
module _ (word next : ℕ) (fits : word < 2 ^ 64) where
  abbrev rest : ℕ
  rest = word / 2 ^ next

  pub rest_bit : (k : ℕ) → bit_at rest k ≡ bit_at word (next + k)
  rest_bit k = bit_shifted word next k ∙ ap (bit_at word) (add_comm k next)

  pub run_ones : (i : ℕ) → next ≤ i → i < next + trailing_ones w64 rest → bit_at word i ≡ 1
  run_ones i low inside =
      let there : next + (i - next) ≡ i = omega arith in
      ap (bit_at word) (sym there) ∙ sym (rest_bit (i - next))
      ∙ ⊎_elim (λ (some : rest + 1 < 2 ^ 64). (bit_at-trailing_ones w64 rest some).2 (i - next) (omega arith))
      (λ (all : 2 ^ 64 ≤ rest + 1).
      let is : rest ≡ 2 ^ 64 - 1 = omega (arith, div-le_self word (2 ^ next)) in
      ap (λ m. bit_at m (i - next)) is
      ∙ bit_at_ones 64 (i - next) (omega (arith, ap (trailing_ones w64) is, trailing_of_zero 64)))
      (cases_lt (rest + 1) (2 ^ 64))

  pub run_ends : bit_at word (next + trailing_ones w64 rest) ≡ 0
  run_ends =
      ⊎_elim (λ (some : rest + 1 < 2 ^ 64). sym (rest_bit (trailing_ones w64 rest)) ∙ (bit_at-trailing_ones w64 rest some).1)
      (λ (all : 2 ^ 64 ≤ rest + 1).
      let is : rest ≡ 2 ^ 64 - 1 = omega (arith, div-le_self word (2 ^ next)) in
      bit_at_above word 64 (next + trailing_ones w64 rest) fits (omega (arith, ap (trailing_ones w64) is, trailing_of_zero 64)))
      (cases_lt (rest + 1) (2 ^ 64))

-- The bits of a >> k pass the test k places later.
pub later_bits : {a : ℕ} {p : ℕ → Bool} (k : ℕ) → HasBits a p → HasBits (a / 2 ^ k) (λ i. p (i + k))
later_bits {a = a} k h = record { bit = λ i. bit_shifted a k i ∙ h.bit (i + k) }

pub bit_kept : (n i : ℕ) → i < 64 → bit_at (n % 2 ^ 64) i ≡ bit_at n i
bit_kept n i small =
    ap (λ m. bit_at m i) (sym (and_mask n 64)) ∙ bit_at_and n (2 ^ 64 - 1) i
    ∙ omega (arith, bit_at_ones 64 i small, bit_at-lt n i)

-- The bits of a << k pass the test k places earlier.
pub earlier_bits : {a : ℕ} {p : ℕ → Bool} (k : ℕ) → HasBits a p →
    HasBits (a * 2 ^ k % 2 ^ 64) (λ i. ltb i 64 && (leb k i && p (i - k)))
earlier_bits {a = a} {p = p} k h = record {
  bit = λ i. ⊎_elim (λ (small : i < 64).
      bit_kept (a * 2 ^ k) i small ∙ shifted i ∙ ap (λ t. cond (t && (leb k i && p (i - k))) 1 0) (sym (lt-ltb i 64 small)))
      (λ (large : 64 ≤ i).
      bit_at_above (a * 2 ^ k % 2 ^ 64) 64 i (mod-lt (a * 2 ^ k) (omega arith)) large
      ∙ ap (λ t. cond (t && (leb k i && p (i - k))) 1 0) (sym (le-ltb i 64 large)))
      (cases_lt i 64);
}
  where
    sum : a * 2 ^ k ≡ a * 2 ^ k + 0
    sum = sym (add-zero (a * 2 ^ k))

    shifted : (i : ℕ) → bit_at (a * 2 ^ k) i ≡ cond (leb k i && p (i - k)) 1 0
    shifted i =
        ⊎_elim (λ (low : i < k).
        ap (λ m. bit_at m i) sum ∙ bit_at_cat_low a k 0 i low ∙ bit_at-zero i ∙ ap (λ t. cond (t && p (i - k)) 1 0) (sym (lt-leb k i low)))
        (λ (high : k ≤ i).
        ap (λ m. bit_at m i) sum ∙ bit_at_cat_high a k 0 i (pow_pos k) high ∙ h.bit (i - k) ∙ ap (λ t. cond (t && p (i - k)) 1 0) (sym (le-leb k i high)))
        (cases_lt i k)

-- No bit of 0 is set.
pub no_bits : HasBits 0 (λ _. false)
no_bits = record { bit = λ i. bit_at-zero i }

-- In a power of two less one, the lowest bits are set.
pub first_have_bits : (n : ℕ) → HasBits (2 ^ n - 1) (λ i. ltb i n)
first_have_bits n = record {
  bit = λ i. ⊎_elim (λ (below : i < n). bit_at_ones n i below ∙ ap (λ t. cond t 1 0) (sym (lt-ltb i n below)))
      (λ (above : n ≤ i). bit_at_ones_above n i above ∙ ap (λ t. cond t 1 0) (sym (le-ltb i n above))) (cases_lt i n);
}

-- The code (`first_bits`) computes 2 ^ n - 1 by a shift of 64 bits.
pub power_less_one : (n : ℕ) → n < 64 → 1 * 2 ^ n % 2 ^ 64 - 1 ≡ 2 ^ n - 1
power_less_one n few = grind (arith, pow-lt, one-mul, mod-eq_of_lt)

-- A test can be replaced by one that agrees with it.
pub by_equal_test : {a : ℕ} {p : ℕ → Bool} (q : ℕ → Bool) → ((i : ℕ) → p i ≡ q i) → HasBits a p → HasBits a q
by_equal_test q same h = record { bit = λ i. h.bit i ∙ ap (λ t. cond t 1 0) (same i) }

-- ---- masks of lanes

-- The mask of a class has the bits of the lanes in it, and no others.
pub class_within : (class : ℕ → Bool) (xs : List ℕ) {a : ℕ} → a ≡ mask_l (map class xs) →
    HasBits a (λ i. ltb i (length xs) && class (get_or xs i 0))
class_within class xs is = record {
  bit = λ i. ap (λ n. bit_at n i) is ∙ bit_mask_l (map class xs) i ∙ ap (λ t. cond t 1 0) (tested i);
}
  where
    tested : (i : ℕ) → get_or (map class xs) i false ≡ (ltb i (length xs) && class (get_or xs i 0))
    tested i =
        ⊎_elim (λ (inside : i < length xs). get_or-map class xs i 0 false inside ∙ ap (λ t. t && class (get_or xs i 0)) (sym (lt-ltb i (length xs) inside)))
        (λ (past : length xs ≤ i).
        get_or_past (map class xs) i false (omega (arith, length-map xs class))
        ∙ ap (λ t. t && class (get_or xs i 0)) (sym (le-ltb i (length xs) past)))
        (cases_lt i (length xs))

-- If 0 is not in the class, the mask is also that of the lanes with zeros after them.
pub class_bits : (class : ℕ → Bool) (xs : List ℕ) {a : ℕ} → class 0 ≡ false → a ≡ mask_l (map class xs) →
    HasBits a (λ i. class (get_or xs i 0))
class_bits class xs none is = by_equal_test (λ i. class (get_or xs i 0)) same (class_within class xs is)
  where
    same : (i : ℕ) → (ltb i (length xs) && class (get_or xs i 0)) ≡ class (get_or xs i 0)
    same i =
        ⊎_elim (λ (inside : i < length xs). ap (λ t. t && class (get_or xs i 0)) (lt-ltb i (length xs) inside))
        (λ (past : length xs ≤ i).
        ap (λ t. t && class (get_or xs i 0)) (le-ltb i (length xs) past)
        ∙ sym none ∙ ap class (sym (get_or_past xs i 0 past)))
        (cases_lt i (length xs))

-- Entry i of the tests of n offsets is that of the i-th offset, and false from entry n on.
range_tested : (test : ℕ → Bool) (at n i : ℕ) → get_or (map test (range_with_len at n)) i false ≡ (ltb i n && test (at + i))
range_tested test at n i = grind (arith, get_or-map-range_with_len, lt-ltb, get_or_past, length-map-range_with_len, le-ltb)

-- A mask marks n offsets if bit i is set exactly if i is less than n and `at + i` passes the test.
pub marks_from : (test : ℕ → Bool) (at n : ℕ) {a : ℕ} → HasBits a (λ i. ltb i n && test (at + i)) →
    a ≡ mask_l (map test (range_with_len at n))
marks_from test at n {a = a} h =
    same_from_bits a (mask_l (map test (range_with_len at n)))
    (λ i. h.bit i ∙ ap (λ t. cond t 1 0) (sym (range_tested test at n i)) ∙ sym (bit_mask_l (map test (range_with_len at n)) i))

-- A mask that marks n offsets has the bits of those that pass.
pub bits_from : (test : ℕ → Bool) (at n : ℕ) {a : ℕ} → a ≡ mask_l (map test (range_with_len at n)) →
    HasBits a (λ i. ltb i n && test (at + i))
bits_from test at n is = record {
  bit = λ i. ap (λ m. bit_at m i) is ∙ bit_mask_l (map test (range_with_len at n)) i ∙ ap (λ t. cond t 1 0) (range_tested test at n i);
}

-- A mask of at most 64 offsets fits 64 bits.
pub marks_fit : (test : ℕ → Bool) (at n : ℕ) {a : ℕ} → n ≤ 64 → a ≡ mask_l (map test (range_with_len at n)) → a < 2 ^ 64
marks_fit test at n few marks =
    omega (arith, marks, mask_l-lt (map test (range_with_len at n)), ap (λ k. 2 ^ k) (length-map-range_with_len test at n), pow_mono few)

module _ (mask : ℕ) (test : ℕ → Bool) (at n : ℕ) (marks : mask ≡ mask_l (map test (range_with_len at n))) where
  -- A bit that is set marks an offset that passes the test.
  pub marked : (i : ℕ) → bit_at mask i ≡ 1 → (i < n) × (test (at + i) ≡ true)
  marked i set =
      let parts = and_parts (ltb i n) (test (at + i)) (set_true _ _ ((bits_from test at n marks).bit i) set) in
      (ltb-true i n parts.0, parts.1)

  -- A bit that is not set marks an offset that fails the test.
  pub unmarked : (i : ℕ) → bit_at mask i ≡ 0 → i < n → test (at + i) ≡ false
  unmarked i none inside = ap (λ t. t && test (at + i)) (sym (lt-ltb i n inside)) ∙ unset _ _ ((bits_from test at n marks).bit i) none

  -- If no offset from `at + n` to `end` passes the test, an offset before `end` whose bit is not
  -- set fails it.
  pub unmarked_in : (end : ℕ) → ((i : ℕ) → at + n ≤ i → i < end → test i ≡ false) → (i : ℕ) → at ≤ i → i < end → bit_at mask (i - at) ≡ 0 → test i ≡ false
  unmarked_in end later i low inside none =
      let there : at + (i - at) ≡ i = omega arith in
      ⊎_elim (λ (begins : i - at < n). ap test (sym there) ∙ unmarked (i - at) none begins)
      (λ (past : n ≤ i - at). later i (omega arith) inside)
      (cases_lt (i - at) n)

-- A mask limited to the first n bits marks the offsets among them that pass.
pub marks_first : (test : ℕ → Bool) (n : ℕ) {a b : ℕ} {p : ℕ → Bool} → HasBits a p → HasBits b (λ i. ltb i n) →
    ((i : ℕ) → i < n → p i ≡ test i) → bit_and a b ≡ mask_l (map test (range_with_len 0 n))
marks_first test n {p = p} h first same = marks_from test 0 n (by_equal_test (λ i. ltb i n && test (0 + i)) tested (and_bits h first))
  where
    tested : (i : ℕ) → (p i && ltb i n) ≡ (ltb i n && test (0 + i))
    tested i =
        ⊎_elim (λ (inside : i < n).
        ap (λ t. p i && t) (lt-ltb i n inside) ∙ kept (p i) ∙ same i inside ∙ ap test (sym (zero-add i))
        ∙ ap (λ t. t && test (0 + i)) (sym (lt-ltb i n inside)))
        (λ (past : n ≤ i). ap (λ t. p i && t) (le-ltb i n past) ∙ dropped (p i) ∙ ap (λ t. t && test (0 + i)) (sym (le-ltb i n past)))
        (cases_lt i n)

-- The mask is 0 if no offset passes.
pub no_marks : (test : ℕ → Bool) (at n : ℕ) → ((i : ℕ) → i < n → test (at + i) ≡ false) → 0 ≡ mask_l (map test (range_with_len at n))
no_marks test at n none = marks_from test at n (by_equal_test (λ i. ltb i n && test (at + i)) same no_bits)
  where
    same : (i : ℕ) → false ≡ (ltb i n && test (at + i))
    same i =
        ⊎_elim (λ (inside : i < n). sym (none i inside) ∙ ap (λ t. t && test (at + i)) (sym (lt-ltb i n inside)))
        (λ (past : n ≤ i). ap (λ t. t && test (at + i)) (sym (le-ltb i n past)))
        (cases_lt i n)

-- If the mask is 0, no offset passes.
pub none_set : {a : ℕ} {p : ℕ → Bool} → a ≡ 0 → HasBits a p → (i : ℕ) → p i ≡ false
none_set {a = a} {p = p} is h i = unset (p i) (bit_at a i) (h.bit i) (ap (λ n. bit_at n i) is ∙ bit_at-zero i)

-- ---- bytes

-- Each lane is less than 256, and so are the zeros after the lanes.
pub lanes_below : (xs : List ℕ) → Each1 (Fits w8) xs → (i : ℕ) → get_or xs i 0 < 256
lanes_below xs fit i = grind (arith, Each1-get_or, get_or_past)

-- A shift of each lane makes a lower bit the highest.
pub shifted_bits : (xs : List ℕ) (n below : ℕ) {a : ℕ} → length xs ≡ n →
    a ≡ mask_l (map (λ b. leb 0x80 b) (zip2 (λ x y. x * 2 ^ y % 2 ^ 8) xs (replicate n below))) →
    HasBits a (λ i. has_bit_below below (get_or xs i 0))
shifted_bits xs n below long is =
    class_bits (has_bit_below below) xs (zero_has_none below)
    (is ∙ ap (λ ys. mask_l (map (λ b. leb 0x80 b) ys)) (zip2_splat (λ x y. x * 2 ^ y % 2 ^ 8) xs n below long)
    ∙ ap mask_l (map-map (λ b. leb 0x80 b) (λ x. x * 2 ^ below % 2 ^ 8) xs))
  where
    zero_has_none : (below : ℕ) → has_bit_below below 0 ≡ false
    zero_has_none below = rw (zero-mul (2 ^ below)) refl
