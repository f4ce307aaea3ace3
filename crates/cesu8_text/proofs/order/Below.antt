-- Dictionary order is a total order, and it is the order by which std compares slices.
use Rattle.std.proofs.Common.{◌≡◌, ℕ, List, [], ◌∷◌, ◌++◌, refl, inr, arith}
use Rattle.std.specs.Ordering.{nat_cmp}
use Rattle.std.specs.Cmp.Lexicographic.{slice_cmp}
use Rattle.std.proofs.lemmas.Bool.{cases_order}
use Rattle.std.proofs.lemmas.Bool.Decides.{nat_tests}
use Rattle.cesu8_text.specs.Order.{IsBelow, ComparesAs}
use Rattle.cesu8_text.specs.Laws.{Trichotomy, Transitivity, SliceOrder}

-- `IsBelow` is transitive.
pub transitive : Transitivity
transitive (x ∷ xs) (y ∷ ys) (z ∷ zs) first second = grind (arith, transitive xs ys zs)
transitive xs ys zs first second = grind arith

-- For two lists exactly one holds: the first is below, they are equal, or the second is below.
pub trichotomy : Trichotomy
trichotomy (x ∷ xs) (y ∷ ys) = grind (arith, cases_order x y, trichotomy xs ys)
trichotomy xs ys = grind arith

-- If each outcome of comparing the last two lists gives the same outcome for the first two,
-- `ComparesAs` holds.
pub compares_as : (xs ys us vs : List ℕ) → (IsBelow us vs → IsBelow xs ys) → (us ≡ vs → xs ≡ ys) → (IsBelow vs us → IsBelow ys xs) →
    ComparesAs xs ys us vs
compares_as xs ys us vs below equal above = grind (arith, trichotomy xs ys, trichotomy us vs)

-- Two lists with a common prefix compare by what follows it.
pub below_after : (front xs ys : List ℕ) → IsBelow xs ys → IsBelow (front ++ xs) (front ++ ys)
below_after [] xs ys h = h
below_after (x ∷ front) xs ys h = inr (refl, below_after front xs ys h)

-- std's `cmp` of two lists is dictionary order.
pub slice_order : SliceOrder
slice_order (x ∷ xs) (y ∷ ys) = grind (arith, nat_tests, cases_order x y, slice_order xs ys)
slice_order xs ys = grind arith

-- std's `cmp` returns the same value for lists that compare alike.
pub same_answer : (xs ys us vs : List ℕ) → ComparesAs xs ys us vs → slice_cmp nat_cmp xs ys ≡ slice_cmp nat_cmp us vs
same_answer xs ys us vs alike = grind (arith, slice_order xs ys, slice_order us vs, trichotomy xs ys)
