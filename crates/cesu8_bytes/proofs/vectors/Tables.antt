-- A table of 256 shuffles has the rows that it should have, by computation. The proofs of
-- `rows_of_eight` and of `doubling_rows` in `cesu8_encode` cite `rows_by`, and that of the rows of
-- sixteen in `cesu8_decode` cites `same_list_is`.
use Rattle.std.proofs.Common.{◌≡◌, ℕ, ◌<◌, Bool, true, false, ◌&&◌, List, [], ◌∷◌, refl, eqb, get_or, eqb-true}
use Rattle.std.proofs.lemmas.Bool.{agree_below, agree_below_at, and_parts}

-- Whether two lists are equal, as a computation.
unfoldable pub same_list : List ℕ → List ℕ → Bool
same_list [] [] = true
same_list [] (y ∷ ys) = false
same_list (x ∷ xs) [] = false
same_list (x ∷ xs) (y ∷ ys) = eqb x y && same_list xs ys

-- Lists for which the computation returns true are equal.
pub same_list_is : (xs ys : List ℕ) → same_list xs ys ≡ true → xs ≡ ys
unfolding same_list
same_list_is [] [] e = refl
same_list_is [] (y ∷ ys) e = absurd (let h = e in cc)
same_list_is (x ∷ xs) [] e = absurd (let h = e in cc)
same_list_is (x ∷ xs) (y ∷ ys) e =
    let parts = and_parts (eqb x y) (same_list xs ys) e in
    (λ i. eqb-true x y parts.0 i ∷ same_list_is xs ys parts.1 i)

-- Whether row d of a table is the given shuffle.
unfoldable pub same_rows : List (List ℕ) → (ℕ → List ℕ) → ℕ → Bool
same_rows rows shuffle d = same_list (get_or rows d []) (shuffle d)

-- If the computation returns true for all 256 rows, each row is the given shuffle.
pub rows_by : (rows : List (List ℕ)) (shuffle : ℕ → List ℕ) → agree_below (same_rows rows shuffle) (λ _. true) 0x100 ≡ true →
    (d : ℕ) → d < 0x100 → get_or rows d [] ≡ shuffle d
unfolding same_rows
rows_by rows shuffle e d l = same_list_is (get_or rows d []) (shuffle d) (agree_below_at (same_rows rows shuffle) (λ _. true) 0x100 d e l)
