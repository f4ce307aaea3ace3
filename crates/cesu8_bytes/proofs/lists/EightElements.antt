-- Eight bytes at an index of a longer list, as `test_word_any` of src/words.rt tests them.
use Rattle.std.proofs.Common.{◌≡◌, ℕ, Bool, false, IsTrue, ◌+◌, ◌-◌, ◌<◌, ◌≤◌, List, sym, ◌∙◌, subst, ⊎_elim, arith, length, take, drop, get_or, slice_range}
use Rattle.std.specs.List.{Any}
use Rattle.std.proofs.lemmas.Bool.{both_ways, cases_lt}
use Rattle.std.proofs.lemmas.List.{get_or_default, take-append-drop}
use Rattle.cesu8_text.proofs.lists.Elements.{any_left}
use Rattle.cesu8_bytes.specs.Kernels.{AnyIn}
use Rattle.cesu8_bytes.proofs.lists.Ends.{any_drop}
use Rattle.cesu8_bytes.proofs.lists.Lanes.{none_loaded}

module _ (class : ℕ → Bool) (xs : List ℕ) where
  -- No byte before the index is in the class.
  abbrev pub NoneUpTo : ℕ → Type 0
  NoneUpTo n = (i : ℕ) → i < n → class (get_or xs i 0) ≡ false

  -- If one of the eight bytes is in the class, some byte is.
  pub of_eight : (n : ℕ) → AnyIn class (slice_range xs n (n + 8)) → AnyIn class xs
  of_eight n any =
      let InClass : ℕ → Type 0 = λ b. IsTrue (class b) in
      any_drop InClass n xs (subst (Any InClass) (take-append-drop (n + 8 - n) (drop n xs))
      (any_left InClass (take (n + 8 - n) (drop n xs)) (drop (n + 8 - n) (drop n xs)) any))

  -- If no byte before the index is in the class, nor any of the eight there, none before their end
  -- is.
  pub none_further : (n : ℕ) → n + 8 ≤ length xs → NoneUpTo n → (AnyIn class (slice_range xs n (n + 8)) → ⊥) → NoneUpTo (n + 8)
  none_further n fits none eight i to =
      let many : n + 8 - n ≡ 8 = omega arith in
      ⊎_elim (λ before. none i before) (λ from. none_loaded class xs n 8 fits (rw many at eight) i from to) (cases_lt i n)

  -- If no byte before an index is in the class, nor any of the last eight, which begin there or
  -- before, none is.
  pub none_at_all : (n m : ℕ) → m ≤ n → m + 8 ≡ length xs → NoneUpTo n → (AnyIn class (slice_range xs m (m + 8)) → ⊥) → AnyIn class xs → ⊥
  none_at_all n m early last none eight any =
      let same : get_or xs any.0 0 ≡ any.1 = sym (get_or_default xs any.0 any.1 0 any.2) ∙ any.3 in
      both_ways (class any.1) (rw same at (none_further m (omega arith) (λ i before. none i (omega arith)) eight any.0 (omega (arith, any.2)))) any.4
