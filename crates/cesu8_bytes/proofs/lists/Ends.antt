-- The first and the last elements of a list, which may overlap, as `any_in_ends` tests them, and
-- what follows an index.
use Rattle.std.proofs.lemmas.Grind.{common_steps}
use Rattle.std.proofs.Common.{◌≡◌, ℕ, Bool, IsTrue, ◌||◌, ◌+◌, ◌-◌, ◌*◌, ◌≤◌, ◌↔◌, List, length, take, drop, sym, ap, ◌∙◌, subst, ⊎_elim, arith}
use Rattle.std.specs.List.{Any}
use Rattle.std.proofs.lemmas.Bool.{or_cases, or_left, or_right}
use Rattle.std.proofs.lemmas.List.{take-append-drop, drop-drop}
use Rattle.cesu8_text.proofs.lists.Elements.{any_left, any_right, any_append}

-- If an element from an index on has P, some element has.
pub any_drop : (P : ℕ → Type 0) (n : ℕ) (xs : List ℕ) → Any P (drop n xs) → Any P xs
any_drop P n xs any = subst (Any P) (take-append-drop n xs) (any_right P (take n xs) (drop n xs) any)

-- If an element from an index on has P, so has one from an earlier index on.
pub any_later : (P : ℕ → Type 0) (a b : ℕ) (xs : List ℕ) → a ≤ b → Any P (drop b xs) → Any P (drop a xs)
any_later P a b xs order any =
    let index : a + (b - a) ≡ b = omega arith in
    any_drop P (b - a) (drop a xs) (subst (Any P) (sym (drop-drop (b - a) a xs ∙ ap (λ i. drop i xs) index)) any)

-- Tests of the first n elements and of the last n decide for the whole, if together they cover it.
pub found_in_ends : (P : ℕ → Type 0) (n : ℕ) (xs : List ℕ) (front end : Bool) → n ≤ length xs → length xs ≤ 2 * n →
    (IsTrue front ↔ Any P (take n xs)) → (IsTrue end ↔ Any P (drop (length xs - n) xs)) → IsTrue (front || end) ↔ Any P xs
found_in_ends P n xs front end fits covers f e = (
  (λ t. ⊎_elim (λ p. subst (Any P) (take-append-drop n xs) (any_left P (take n xs) (drop n xs) (f.0 p)))
      (λ p. any_drop P (length xs - n) xs (e.0 p)) (or_cases front end t)),
  (λ any. ⊎_elim (λ p. or_left front end (f.1 p))
      (λ p. or_right front end (e.1 (any_later P (length xs - n) n xs (omega arith) p)))
      (any_append P (take n xs) (drop n xs) (subst (Any P) (sym (take-append-drop n xs)) any))),
)

-- If nothing from an index on changes, nothing from a later index on does.
pub same_after : (old new : List ℕ) (at end : ℕ) → at ≤ end → drop at new ≡ drop at old → drop end new ≡ drop end old
same_after old new at end later same =
    grind (arith, common_steps, drop-drop (end - at) at new, drop-drop (end - at) at old)
