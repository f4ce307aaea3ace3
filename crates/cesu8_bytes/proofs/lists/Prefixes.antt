-- The first difference of two lists: how it decides their order, and how the vectors of
-- src/order.rt find it.
use Rattle.std.proofs.Common.{◌≡◌, ◌≢◌, ℕ, Bool, false, not, cond, List, [], ◌∷◌, ◌++◌, map, take, length, get_or, eqb, min, zero, suc, refl, sym, ap, ◌∙◌, ◌+◌, ◌<◌, ◌≤◌, ◌^◌, ◌%◌, ◌-◌, ◌⊎◌, ⊎_elim, arith, w8, Fits}
use Rattle.std.specs.List.{prefix_len, All}
use Rattle.std.specs.Ordering.{nat_cmp}
use Rattle.std.specs.Cmp.Lexicographic.{slice_cmp}
use Rattle.std.specs.Str.{chars, IsUtf8}
use Rattle.std.proofs.Math.ListN.{get_or-eq_default}
use Rattle.std.proofs.lemmas.Bool.{cases_lt, not-true, not-false, eqb-true, eqb-false}
use Rattle.std.proofs.lemmas.Bool.Decides.{nat_tests}
use Rattle.std.proofs.lemmas.List.{get_or-take, get_or-append-add, length-take, map-id}
use Rattle.std.proofs.lemmas.List.Elements.{All-nil, All-append, All-get_or}
use Rattle.std.proofs.lemmas.List.Sums.{prefix_len-le-length, prefix_len_passes, prefix_len_stops}
use Rattle.std.proofs.lemmas.Simd.{length-chunk, get_or-chunk, length-zip2, get_or-zip2, tops_compared, mask_l-mod, first_set_mask_l}
use lib.Count.{count_trailing_zeros}
use lib.Lanes.{chunk, zip2, mask_l, top}
use Rattle.cesu8_text.specs.Order.{utf16_rank}
use Rattle.cesu8_text.specs.Text.{IsScalarValue, IsText, utf8, utf8_of}
use Rattle.cesu8_text.proofs.StdUtf8.{IsUtf8Of_chars}

-- If all bytes of a list are below 100 (hexadecimal), so are those of a word after a prefix. The
-- proof of `word_at` in src/words.rt cites this.
pub word_fits : (bytes prefix rest word : List ℕ) → ((i : ℕ) → Fits w8 (get_or bytes i 0)) → bytes ≡ prefix ++ rest → word ≡ take 8 rest →
    (i : ℕ) → get_or word i 0 < 0x100
word_fits bytes prefix rest word fits bytes_are word_is i = rw word_is (⊎_elim
    (λ (l : i < 8). (let e = get_or-take 8 rest i 0 l ∙ sym (get_or-append-add prefix rest i 0) ∙ ap (λ bs. get_or bs (length prefix + i) 0) (sym bytes_are) in
    omega (arith, (fits (length prefix + i)).fits)))
    (λ (l : 8 ≤ i). omega (arith, get_or-eq_default (take 8 rest) 0 {n = i} (omega (arith, length-take 8 rest))))
    (cases_lt i 8))

-- Lists compare as the values of f at the first elements that differ, if these values differ too.
pub compare_at : (f : ℕ → ℕ) (xs ys : List ℕ) (i : ℕ) → ((j : ℕ) → j < i → get_or xs j 0 ≡ get_or ys j 0) →
    i < length xs → i < length ys → f (get_or xs i 0) ≢ f (get_or ys i 0) →
    nat_cmp (f (get_or xs i 0)) (f (get_or ys i 0)) ≡ slice_cmp nat_cmp (map f xs) (map f ys)
compare_at f [] ys i same long other_long differ = absurd (omega arith)
compare_at f (x ∷ xs) [] i same long other_long differ = absurd (omega arith)
compare_at f (x ∷ xs) (y ∷ ys) zero same long other_long differ = grind (arith, nat_tests)
compare_at f (x ∷ xs) (y ∷ ys) (suc i) same long other_long differ =
    grind (arith, nat_tests, same 0 (omega arith), compare_at f xs ys i (λ j before. same (suc j) (omega arith)) (omega arith) (omega arith) differ)

-- If one list is a prefix of the other, the lengths decide.
pub compare_lengths : (f : ℕ → ℕ) (xs ys : List ℕ) (i : ℕ) → ((j : ℕ) → j < i → get_or xs j 0 ≡ get_or ys j 0) →
    (length xs ≤ i) ⊎ (length ys ≤ i) →
    nat_cmp (length xs) (length ys) ≡ slice_cmp nat_cmp (map f xs) (map f ys)
compare_lengths f [] [] i same ended = refl
compare_lengths f [] (y ∷ ys) i same ended = grind (arith, nat_tests)
compare_lengths f (x ∷ xs) [] i same ended = grind (arith, nat_tests)
compare_lengths f (x ∷ xs) (y ∷ ys) zero same ended = grind arith
compare_lengths f (x ∷ xs) (y ∷ ys) (suc i) same ended =
    grind (arith, nat_tests, same 0 (omega arith), compare_lengths f xs ys i (λ j before. same (suc j) (omega arith)) (grind arith))

-- At the length of the shorter list, one of the two has ended.
pub ended : (n m least i : ℕ) → least ≡ min n m → least ≤ i → (n ≤ i) ⊎ (m ≤ i)
ended n m least i is reached = grind arith

-- For each lane, whether two vectors differ in it.
abbrev pub differ : ℕ → ℕ → List ℕ → List ℕ → List Bool
differ at n xs ys = zip2 (λ a b. not (eqb a b)) (chunk at n xs) (chunk at n ys)

module _ (at n : ℕ) (xs ys : List ℕ) (long : at + n ≤ length xs) (other_long : at + n ≤ length ys) where
  -- `differ` has n lanes.
  differ_long : length (differ at n xs ys) ≡ n
  differ_long =
      length-zip2 (λ a b. not (eqb a b)) (chunk at n xs) (chunk at n ys) (length-chunk at n xs long ∙ sym (length-chunk at n ys other_long))
      ∙ length-chunk at n xs long

  -- A lane of `differ` compares the two bytes there.
  differ_at : (i : ℕ) → i < n → get_or (differ at n xs ys) i false ≡ not (eqb (get_or xs (at + i) 0) (get_or ys (at + i) 0))
  differ_at i inside =
      grind (arith, length-chunk, get_or-chunk, get_or-zip2 (λ a b. not (eqb a b)) (chunk at n xs) (chunk at n ys) i 0 0 false)

  -- The lanes before the first that differs are equal.
  pub same_before : (run : ℕ) → run ≡ prefix_len (λ b. not b) (differ at n xs ys) → (i : ℕ) → i < run →
      get_or xs (at + i) 0 ≡ get_or ys (at + i) 0
  same_before run is i before =
      let inside : i < n = omega (arith, prefix_len-le-length (λ b. not b) (differ at n xs ys), differ_long) in
      eqb-true _ _ (not-false _ (sym (differ_at i inside)
      ∙ not-true _ (prefix_len_passes (λ b. not b) (differ at n xs ys) i false (omega arith))))

  -- The first lane that differs is one in which the bytes differ.
  pub differs_there : (run : ℕ) → run ≡ prefix_len (λ b. not b) (differ at n xs ys) → run < n →
      get_or xs (at + run) 0 ≢ get_or ys (at + run) 0
  differs_there run is inside =
      eqb-false _ _ (not-true _ (sym (differ_at run inside) ∙ ap (λ k. get_or (differ at n xs ys) k false) is
      ∙ not-false _ (prefix_len_stops (λ b. not b) (differ at n xs ys) false (omega (arith, differ_long)))))

  -- The run of equal lanes has at most n.
  pub run_within : (run : ℕ) → run ≡ prefix_len (λ b. not b) (differ at n xs ys) → run ≤ n
  run_within run is = omega (arith, prefix_len-le-length (λ b. not b) (differ at n xs ys), differ_long)

  -- The bits of a comparison for inequality, as the code computes them.
  abbrev pub marks : ℕ
  marks = mask_l (map (top 7) (zip2 (λ a b. cond (not (eqb a b)) 255 0) (chunk at n xs) (chunk at n ys))) % 2 ^ 64

  -- The bits of the comparison are those of `differ`.
  marks_are : n ≤ 64 → marks ≡ mask_l (differ at n xs ys)
  marks_are few =
      ap (λ ms. mask_l ms % 2 ^ 64) (tops_compared w8 (λ a b. not (eqb a b)) (chunk at n xs) (chunk at n ys))
      ∙ mask_l-mod (differ at n xs ys) 64 (omega (arith, differ_long))

  -- The lowest bit that is set is the first lane that differs.
  pub first_of_marks : n ≤ 64 → cond (eqb marks 0) n (count_trailing_zeros 64 marks) ≡ prefix_len (λ b. not b) (differ at n xs ys)
  first_of_marks few =
      ap (λ m. cond (eqb m 0) n (count_trailing_zeros 64 m)) (marks_are few ∙ ap mask_l (sym (map-id (differ at n xs ys))))
      ∙ first_set_mask_l (λ (b : Bool). b) (differ at n xs ys) n differ_long few

-- If two lists are equal up to an index, and for some elements from an earlier index on, they are
-- equal up to the end of these.
pub same_further : (xs ys : List ℕ) (known at more : ℕ) → at ≤ known → ((i : ℕ) → i < known → get_or xs i 0 ≡ get_or ys i 0) →
    ((i : ℕ) → i < more → get_or xs (at + i) 0 ≡ get_or ys (at + i) 0) → (i : ℕ) → i < at + more → get_or xs i 0 ≡ get_or ys i 0
same_further xs ys known at more covered same later i before = grind (arith, same i, later (i - at))

-- The bytes of a character's UTF-8 are below F8 (hexadecimal).
low_of : (c : ℕ) → IsScalarValue c → All (λ b. b < 0xF8) (utf8_of c)
unfolding utf8_of
low_of c scalar = grind (arith, nat_tests)

-- The bytes of a text's UTF-8 are below F8.
low_in : (text : List ℕ) → IsText text → All (λ b. b < 0xF8) (utf8 text)
low_in [] is_text = All-nil (λ b. b < 0xF8)
low_in (c ∷ text) is_text =
    All-append (λ b. b < 0xF8) (utf8_of c) (utf8 text) (low_of c is_text.0) (low_in text is_text.1)

-- The bytes of a string in std are below F8.
pub low_bytes : (bytes : List ℕ) → IsUtf8 bytes → (i : ℕ) → i < length bytes → get_or bytes i 0 < 0xF8
low_bytes bytes is_utf8 i inside =
    let of_chars = IsUtf8Of_chars bytes is_utf8 in
    let low = low_in (chars bytes) of_chars.0 in
    All-get_or (λ b. b < 0xF8) bytes i 0 inside (rw of_chars.1 at low)

-- Different bytes below F8 have different ranks: EE and EF get FE and FF, and the others their own
-- value.
pub ranks_differ : (a b : ℕ) → a < 0xF8 → b < 0xF8 → a ≢ b → utf16_rank a ≢ utf16_rank b
ranks_differ a b low other_low differ same = grind (arith, nat_tests)
