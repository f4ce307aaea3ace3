-- Input can be cut at an offset that no character crosses, for `is_cut` of src/cut.rt. A character
-- has at most six bytes, so one that crosses an offset begins at most five before it.
use Rattle.std.proofs.Common.{◌≡◌, ℕ, ◌+◌, ◌-◌, ◌<◌, ◌≤◌, ◌⊎◌, List, [], ◌∷◌, ◌++◌, sym, ap, ◌∙◌, subst, inl, inr, arith, length, take, drop, append_assoc}
use Rattle.std.proofs.lemmas.List.{take-append-drop}
use Rattle.std.proofs.lemmas.Grind.{common_steps}
use Rattle.std.proofs.lemmas.Bool.{cases_lt}
use Rattle.cesu8_stream.specs.Written.{Begins, NoneCrosses}
use Rattle.cesu8_stream.proofs.First.{Sizes, begins_prefix}

-- No character begins at an offset below `start`, at most five before the place, and ends after the
-- place.
abbrev pub NoneFrom : (List ℕ → List ℕ) → List ℕ → ℕ → ℕ → Type 0
NoneFrom write bytes place start =
    (i c : ℕ) → i < start → place ≤ i + 5 → Begins write (drop i bytes) c → i + length (write (c ∷ [])) ≤ place

-- `NoneFrom` holds for one more offset if no character begins there and ends after the place.
pub one_more : (write : List ℕ → List ℕ) (bytes : List ℕ) (place start : ℕ) → start < place → NoneFrom write bytes place start →
    ((c : ℕ) → Begins write (drop start bytes) c → length (write (c ∷ [])) ≤ place - start) →
    NoneFrom write bytes place (start + 1)
one_more write bytes place start inside none here i c low near b = by (cases_lt i start)
  where
    by : (i < start) ⊎ (start ≤ i) → i + length (write (c ∷ [])) ≤ place
    by (inl less) = none i c less near b
    by (inr more) =
        let exact : i ≡ start = omega arith in
        let fits = here c (subst (λ k. Begins write (drop k bytes) c) exact b) in
        omega arith

-- If more bytes follow, dropping i of the first ones leaves the rest of these, and then the others.
drop_front : (i : ℕ) (bytes more : List ℕ) → i ≤ length bytes → drop i (bytes ++ more) ≡ drop i bytes ++ more
drop_front i bytes more low = grind (arith, common_steps)

-- `drop_front` for bytes that are cut at the place, as `NoneCrosses` has them.
drop_before : (i place : ℕ) (bytes more : List ℕ) → i < place → place ≤ length bytes →
    drop i (take place bytes ++ (drop place bytes ++ more)) ≡ drop i bytes ++ more
drop_before i place bytes more low within =
    ap (drop i) (sym (append_assoc (take place bytes) (drop place bytes) more)
    ∙ ap (λ bs. bs ++ more) (take-append-drop place bytes))
    ∙ drop_front i bytes more (omega arith)

-- If no character at the five offsets before the place crosses it, none does, whatever follows. The
-- five bytes after the place are known, so a character that crosses it would end in the bytes.
pub none_crosses : (write : List ℕ → List ℕ) (bytes more : List ℕ) (place : ℕ) → Sizes write → place + 5 ≤ length bytes →
    NoneFrom write bytes place place → NoneCrosses write (take place bytes) (drop place bytes ++ more)
none_crosses write bytes more place sizes within none i c low b =
    let size : length (take place bytes) ≡ place = grind (arith, common_steps) in
    let few = sizes.few c in
    let below : i < place = omega arith in
    let fits : i + length (write (c ∷ [])) ≤ place = by below (cases_lt (i + 5) place) in
    omega arith
  where
    by : i < place → (i + 5 < place) ⊎ (place ≤ i + 5) → i + length (write (c ∷ [])) ≤ place
    by below (inl far) = let few = sizes.few c in omega arith
    by below (inr near) =
        let n = length (drop i bytes) in
        let few = sizes.few c in
        let long : 6 ≤ n = grind (arith, common_steps) in
        let whole : Begins write (drop i bytes ++ more) c =
        subst (λ bs. Begins write bs c) (drop_before i place bytes more below (omega arith)) b in
        let front : take n (drop i bytes ++ more) ≡ drop i bytes = grind (arith, common_steps) in
        none i c below near
        (subst (λ bs. Begins write bs c) front (begins_prefix write (drop i bytes ++ more) n c whole (omega arith)))
