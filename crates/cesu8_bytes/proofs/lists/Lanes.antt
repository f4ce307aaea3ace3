-- Vectors of bytes, lane by lane: selection, maxima and minima, and the test whether a lane is set.
use Rattle.std.proofs.lemmas.Bool.Decides.{nat_tests}
use Rattle.std.proofs.Common.{◌≡◌, ℕ, Bool, not, cond, IsTrue, ◌↔◌, ◌⊎◌, List, [], ◌∷◌, map, length, replicate, true, false, zero, suc, w8, ◌+◌, ◌<◌, ◌≤◌, get_or, eqb, ltb, leb, refl, sym, ap, ◌∙◌, inl, inr, ⊎_elim, arith}
use Rattle.std.specs.List.{Any, list_any}
use Rattle.std.proofs.lemmas.Bool.{eqb-true, false_from_ne_true, not-false}
use Rattle.std.proofs.lemmas.Grind.{common_steps}
use Rattle.std.proofs.lemmas.List.Folds.{Any-from_list_any, list_any-from_Any}
use Rattle.std.proofs.lemmas.Simd.{length-zip2, none_from_empty_mask, tops_compared, zip2_splat}
use lib.Lanes.{chunk, zip2, sel_l, mask_l, top, Each1}
use Rattle.cesu8_bytes.specs.Kernels.{AnyIn}
use Rattle.cesu8_text.proofs.lists.Elements.{any_here, any_there, any_cons}
use Rattle.cesu8_bytes.proofs.lists.Chunks.{group_elements}

-- All ones if a test holds, and otherwise 0.
abbrev pub ones : Bool → ℕ
ones t = cond t 255 0

-- A lane of a comparison for equality.
abbrev pub equal : ℕ → ℕ → ℕ
equal a b = ones (eqb a b)

-- A lane of a comparison by `<`.
abbrev pub below : ℕ → ℕ → ℕ
below a b = ones (ltb a b)

-- Maps by functions that agree on each element are equal.
pub map_agree : {X Y : Type 0} (f g : X → Y) (xs : List X) → Each1 (λ x. f x ≡ g x) xs → map f xs ≡ map g xs
map_agree f g [] h = refl
map_agree f g (x ∷ xs) h = λ i. h.0 i ∷ map_agree f g xs h.1 i

-- ---- a choice by a comparison

-- Selecting one of two numbers by a test of each byte.
pub chosen_of : (p : ℕ → Bool) (size m n : ℕ) (xs : List ℕ) → length xs ≡ size →
    sel_l (map p xs) (replicate size m) (replicate size n) ≡ map (λ x. cond (p x) m n) xs
chosen_of p size m n [] long = refl
chosen_of p zero m n (x ∷ xs) long = absurd (omega arith)
chosen_of p (suc size) m n (x ∷ xs) long = ap (λ l. cond (p x) m n ∷ l) (chosen_of p size m n xs (omega arith))

-- Selecting one of two numbers by a comparison with one byte.
pub chosen_lanes : (size : ℕ) (t : ℕ → ℕ → Bool) (y m n : ℕ) (xs : List ℕ) → length xs ≡ size →
    sel_l (map (top 7) (zip2 (λ a b. ones (t a b)) xs (replicate size y))) (replicate size m) (replicate size n) ≡ map (λ x. cond (t x y) m n) xs
chosen_lanes size t y m n xs long =
    ap (λ ts. sel_l ts (replicate size m) (replicate size n)) (tops_compared w8 t xs (replicate size y) ∙ zip2_splat t xs size y long)
    ∙ chosen_of (λ x. t x y) size m n xs long

-- ---- the greater and the lesser of two lanes

-- If P holds of a lane of either vector, it holds of one of the combined vector, provided that f
-- preserves P.
kept : (P : ℕ → Type 0) (f : ℕ → ℕ → ℕ) → ((a b : ℕ) → P a ⊎ P b → P (f a b)) → (xs ys : List ℕ) → length xs ≡ length ys →
    Any P xs ⊎ Any P ys → Any P (zip2 f xs ys)
kept P f keeps [] [] e s = ⊎_elim (λ p. p) (λ p. p) s
kept P f keeps [] (y ∷ ys) e s = absurd (omega arith)
kept P f keeps (x ∷ xs) [] e s = absurd (omega arith)
kept P f keeps (x ∷ xs) (y ∷ ys) e s = grind (arith, any_cons, any_here, any_there, kept P f keeps xs ys)

-- The greater of two lanes, or the lesser.
abbrev lane : Bool → ℕ → ℕ → ℕ
lane greatest a b = cond (top 7 (below a b)) (cond greatest b a) (cond greatest a b)

-- The vector of the greater lanes of two, or of the lesser.
abbrev lanes : Bool → List ℕ → List ℕ → List ℕ
lanes greatest xs ys = sel_l (map (top 7) (zip2 below xs ys)) (cond greatest ys xs) (cond greatest xs ys)

-- Selecting by a comparison is the greater or the lesser, lane by lane.
lanes_are : (greatest : Bool) (xs ys : List ℕ) → lanes greatest xs ys ≡ zip2 (lane greatest) xs ys
lanes_are greatest [] ys = refl
lanes_are greatest (x ∷ xs) [] = refl
lanes_are greatest (x ∷ xs) (y ∷ ys) = grind (arith, lanes_are greatest xs ys)

-- If P holds of a lane of one of four vectors, it holds of a lane of their maximum, or minimum.
kept_of_four : (greatest : Bool) (P : ℕ → Type 0) → ((a b : ℕ) → P a ⊎ P b → P (lane greatest a b)) → (n : ℕ) (a b c d : List ℕ) →
    length a ≡ n → length b ≡ n → length c ≡ n → length d ≡ n → Any (Any P) (a ∷ b ∷ c ∷ d ∷ []) →
    Any P (lanes greatest (lanes greatest a b) (lanes greatest c d))
kept_of_four greatest P keeps n a b c d long_a long_b long_c long_d some =
    let f = lane greatest in
    rw (lanes_are greatest (lanes greatest a b), lanes_are greatest a b, lanes_are greatest c d)
    (kept P f keeps (zip2 f a b) (zip2 f c d)
    (omega (arith, length-zip2 f a b (long_a ∙ sym long_b), length-zip2 f c d (long_c ∙ sym long_d)))
    (⊎_elim (λ s. inl (kept P f keeps a b (long_a ∙ sym long_b) s)) (λ s. inr (kept P f keeps c d (long_c ∙ sym long_d) s))
    ((group_elements (Any P) a b c d).0 some)))

-- If a lane of one of four vectors is at least a number, so is one of their maximum.
pub least_in_greatest : (least n : ℕ) (a b c d : List ℕ) → length a ≡ n → length b ≡ n → length c ≡ n → length d ≡ n →
    Any (AnyIn (leb least)) (a ∷ b ∷ c ∷ d ∷ []) → AnyIn (leb least) (lanes true (lanes true a b) (lanes true c d))
least_in_greatest least = kept_of_four true (λ b. IsTrue (leb least b)) (λ a b s. grind (arith, nat_tests))

-- If a lane of one of four vectors is 00, so is one of their minimum.
pub null_in_least : (byte n : ℕ) (a b c d : List ℕ) → byte ≡ 0 → length a ≡ n → length b ≡ n → length c ≡ n → length d ≡ n →
    Any (AnyIn (λ b. eqb b byte)) (a ∷ b ∷ c ∷ d ∷ []) → AnyIn (λ b. eqb b byte) (lanes false (lanes false a b) (lanes false c d))
null_in_least byte n a b c d null = rw null (kept_of_four false (λ b. IsTrue (eqb b 0)) (λ a b s. grind (arith, nat_tests)) n a b c d)

-- ---- the test for a lane

-- The bits of a mask are not 0 if and only if some lane passes.
some_passes : (p : ℕ → Bool) (lanes : List ℕ) → not (eqb (mask_l (map p lanes)) 0) ≡ list_any p lanes
some_passes p [] = refl
some_passes p (x ∷ lanes) = grind (arith, nat_tests, common_steps, some_passes p lanes)

-- The bits of a mask are not 0 if and only if some lane is in the class.
pub any_passes : (p : ℕ → Bool) (lanes : List ℕ) (bits : ℕ) → bits ≡ mask_l (map p lanes) → IsTrue (not (eqb bits 0)) ↔ AnyIn p lanes
any_passes p lanes bits is =
    let same = ap (λ m. not (eqb m 0)) is ∙ some_passes p lanes in
    ((λ t. Any-from_list_any p lanes (sym same ∙ t)), (λ any. same ∙ list_any-from_Any p lanes any))

-- If no lane of a load is in the class, no byte at its offsets is.
pub none_loaded : (class : ℕ → Bool) (bytes : List ℕ) (i n : ℕ) → i + n ≤ length bytes → (AnyIn class (chunk i n bytes) → ⊥) →
    (k : ℕ) → i ≤ k → k < i + n → class (get_or bytes k 0) ≡ false
none_loaded class bytes i n room none =
    none_from_empty_mask class bytes i n 0 room
    (eqb-true _ _ (not-false _ (false_from_ne_true _ (λ t. none ((any_passes class (chunk i n bytes) _ refl).0 t)))))
