-- Whether some element of a list has a property, from its parts.
use Rattle.std.proofs.Common.{zero, suc, ◌+◌, ◌⊎◌, ◌∙◌, List, [], ◌∷◌, ◌++◌, refl, sym, subst, inl, inr, ⊎_elim, arith, length}
use Rattle.std.specs.List.{Any}
use Rattle.std.proofs.lemmas.List.{length-append, get_or_append_left, get_or-append-add}

-- No element of the empty list has P.
pub any_nil : {X : Type 0} (P : X → Type 0) → Any P [] → ⊥
any_nil P h = omega (arith, h.2)

-- If the first element has P, some element has.
pub any_here : {X : Type 0} (P : X → Type 0) (x : X) (xs : List X) → P x → Any P (x ∷ xs)
any_here P x xs p = (0, x, omega arith, refl, p)

-- If an element after the first has P, some element has.
pub any_there : {X : Type 0} (P : X → Type 0) (x : X) (xs : List X) → Any P xs → Any P (x ∷ xs)
any_there P x xs any = (suc any.0, any.1, omega (arith, any.2), any.3, any.4)

-- If some element has P, the first has it or a later one.
pub any_cons : {X : Type 0} (P : X → Type 0) (x : X) (xs : List X) → Any P (x ∷ xs) → P x ⊎ Any P xs
any_cons P x xs (zero, y, inside, same, holds) = inl (subst P (sym same) holds)
any_cons P x xs (suc k, y, inside, same, holds) = inr (k, y, omega arith, same, holds)

-- If an element of the first list has P, an element of the concatenation has.
pub any_left : {X : Type 0} (P : X → Type 0) (xs ys : List X) → Any P xs → Any P (xs ++ ys)
any_left P xs ys (k, y, inside, same, holds) =
    (k, y, omega (arith, length-append xs ys), get_or_append_left xs ys y k inside ∙ same, holds)

-- If an element of the second list has P, an element of the concatenation has.
pub any_right : {X : Type 0} (P : X → Type 0) (xs ys : List X) → Any P ys → Any P (xs ++ ys)
any_right P xs ys (k, y, inside, same, holds) =
    (length xs + k, y, omega (arith, length-append xs ys), get_or-append-add xs ys k y ∙ same, holds)

-- If an element of the concatenation has P, an element of either list has.
pub any_append : {X : Type 0} (P : X → Type 0) (xs ys : List X) → Any P (xs ++ ys) → Any P xs ⊎ Any P ys
any_append P [] ys any = inr any
any_append P (x ∷ xs) ys any = grind (arith, any_cons, any_here, any_there, any_append P xs ys)

-- If neither the first element nor a later one has P, no element has.
pub none_cons : {X : Type 0} (P : X → Type 0) (x : X) (xs : List X) → (P x → ⊥) → (Any P xs → ⊥) → Any P (x ∷ xs) → ⊥
none_cons P x xs not_first not_later any = ⊎_elim not_first not_later (any_cons P x xs any)
