-- Lists that are cut into chunks of one length, and what is left over.
use Rattle.std.proofs.Common.{◌≡◌, ℕ, Bool, true, false, IsTrue, ◌+◌, ◌*◌, ◌/◌, ◌↔◌, ◌⊎◌, List, [], ◌∷◌, ◌++◌, length, take, drop, refl, sym, ap, ◌∙◌, subst, zero, suc, inl, inr, ⊎_elim, arith}
use Rattle.std.specs.List.{Any}
use Rattle.std.specs.Simd.{first_chunks}
use Rattle.std.proofs.lemmas.Bool.{iff_false, false≢true}
use Rattle.std.proofs.lemmas.List.{take-append-drop, drop-drop}
use Rattle.cesu8_text.proofs.lists.Elements.{any_nil, any_here, any_there, any_cons, any_left, any_right, any_append}

-- P holds of an element of a list if and only if it holds of one in the first k chunks of n
-- elements or after these m elements. By induction over the number of chunks.
cut : {X : Type 0} (P : X → Type 0) (n k m : ℕ) (xs : List X) → m ≡ k * n → Any P xs ↔ (Any (Any P) (first_chunks n k xs) ⊎ Any P (drop m xs))
cut P n zero m xs e =
    let none : m ≡ 0 = omega arith in
    let all : drop m xs ≡ xs = ap (λ i. drop i xs) none in (
      (λ p. inr (subst (Any P) (sym all) p)),
      (λ s. ⊎_elim (λ p. absurd (any_nil (Any P) p)) (λ p. subst (Any P) all p) s),
    )
cut P n (suc k) m xs e =
    let rest = cut P n k (k * n) (drop n xs) refl in
    let whole = take-append-drop n xs in
    let chunks = first_chunks n k (drop n xs) in
    let past : n + k * n ≡ m = omega arith in
    let left : drop (k * n) (drop n xs) ≡ drop m xs = drop-drop (k * n) n xs ∙ ap (λ i. drop i xs) past in (
      (λ p. ⊎_elim (λ q. inl (any_here (Any P) (take n xs) chunks q))
          (λ q. ⊎_elim (λ r. inl (any_there (Any P) (take n xs) chunks r)) (λ r. inr (subst (Any P) left r)) (rest.0 q))
          (any_append P (take n xs) (drop n xs) (subst (Any P) (sym whole) p))),
      (λ s. let front = any_left P (take n xs) (drop n xs) in
          let back : Any (Any P) chunks ⊎ Any P (drop (k * n) (drop n xs)) → Any P (take n xs ++ drop n xs) =
          λ r. any_right P (take n xs) (drop n xs) (rest.1 r) in
          subst (Any P) whole
          (⊎_elim (λ q. ⊎_elim front (λ r. back (inl r)) (any_cons (Any P) (take n xs) chunks q)) (λ r. back (inr (subst (Any P) (sym left) r))) s)),
    )

-- P holds of an element of a list if and only if it holds of one in a chunk or in the rest.
chunked : {X : Type 0} (P : X → Type 0) (n : ℕ) (xs : List X) (chunks : List (List X)) (rest : List X) →
    chunks ≡ first_chunks n (length xs / n) xs → rest ≡ drop (length xs / n * n) xs → Any P xs ↔ (Any (Any P) chunks ⊎ Any P rest)
chunked P n xs chunks rest e f =
    rw (e, f) (cut P n (length xs / n) (length xs / n * n) xs refl)

module _ {X : Type 0} (P : X → Type 0) (n : ℕ) (xs : List X) (chunks : List (List X)) (rest : List X) (found : Bool)
    (front : chunks ≡ first_chunks n (length xs / n) xs) (back : rest ≡ drop (length xs / n * n) xs)
    (decides : IsTrue found ↔ Any (Any P) chunks) where
  -- If a test finds such an element in the chunks, the list has one.
  pub found_in_chunks : found ≡ true → Any P xs
  found_in_chunks t = (chunked P n xs chunks rest front back).1 (inl (decides.0 t))

  -- If a test finds none in the chunks, the rest decides.
  pub left_by_chunks : found ≡ false → Any P rest ↔ Any P xs
  left_by_chunks none =
      let cut = chunked P n xs chunks rest front back in
      ((λ p. cut.1 (inr p)), (λ p. ⊎_elim (λ q. absurd (iff_false decides none q)) (λ q. q) (cut.0 p)))

-- If the rest is empty, no element of it has P.
pub nothing_left : {X : Type 0} (P : X → Type 0) (rest : List X) → length rest ≡ 0 → IsTrue false ↔ Any P rest
nothing_left P rest none = ((λ t. absurd (false≢true t)), (λ h. absurd (omega (arith, none, h.2))))

-- P holds of one of four elements if and only if it holds of one of two pairs of them.
pub group_elements : {X : Type 0} (P : X → Type 0) (a b c d : X) → Any P (a ∷ b ∷ c ∷ d ∷ []) ↔ ((P a ⊎ P b) ⊎ (P c ⊎ P d))
group_elements P a b c d = (
  (λ h. ⊎_elim (λ p. inl (inl p)) (λ h. ⊎_elim (λ p. inl (inr p)) (λ h. ⊎_elim (λ p. inr (inl p)) (λ h. ⊎_elim (λ p. inr (inr p))
      (λ h. absurd (any_nil P h)) (any_cons P d [] h)) (any_cons P c (d ∷ []) h)) (any_cons P b (c ∷ d ∷ []) h)) (any_cons P a (b ∷ c ∷ d ∷ []) h)),
  (λ s. ⊎_elim (λ s. ⊎_elim (λ p. (0, a, omega arith, refl, p)) (λ p. (1, b, omega arith, refl, p)) s)
      (λ s. ⊎_elim (λ p. (2, c, omega arith, refl, p)) (λ p. (3, d, omega arith, refl, p)) s) s),
)
