-- Vectors that are loaded from a window at different offsets, and padding with zeros. What a block
-- of 32 bytes becomes depends on bytes next to it, so vectors from offsets near its own are loaded.
use Rattle.std.proofs.Common.{◌≡◌, ℕ, ◌+◌, ◌≤◌, Bool, List, map, length, get_or, sym, ap, ◌∙◌, arith, zero, suc, [], ◌∷◌, ◌++◌, replicate, refl}
use Rattle.std.specs.List.{range_with_len}
use Rattle.std.proofs.lemmas.Bool.{cases_lt}
use Rattle.std.proofs.lemmas.Grind.{common_steps}
use Rattle.std.proofs.lemmas.List.{get_or_past, length-replicate}
use Rattle.std.proofs.lemmas.Simd.{map-map, pick_l-range_with_len}
use lib.Lanes.{chunk}
use Rattle.cesu8_bytes.specs.Kernels.{mask}

-- A range that begins d later is the range with d added.
shifted : {X : Type 0} (g : ℕ → X) (a d n : ℕ) → map g (range_with_len (a + d) n) ≡ map (λ i. g (i + d)) (range_with_len a n)
shifted g a d zero = refl
shifted g a d (suc n) =
    let next : a + d + 1 ≡ a + 1 + d = omega arith in
    ap (λ l. g (a + d) ∷ l) (ap (λ k. map g (range_with_len k n)) next ∙ shifted g (a + 1) d n)

-- Lane i of a load that is d bytes after an offset is the byte d after the offset plus i.
pub loaded : (window : List ℕ) (at d n : ℕ) → at + d + n ≤ length window →
    chunk (at + d) n window ≡ map (λ i. get_or window (i + d) 0) (range_with_len at n)
loaded window at d n room =
    sym (pick_l-range_with_len 0 window (at + d) n room) ∙ shifted (λ i. get_or window i 0) at d n

-- The mask of such a load, lane by lane: each lane tests the byte that `loaded` names.
pub marks_at : (t : ℕ → Bool) (window : List ℕ) (at d : ℕ) (lanes : List ℕ) → at + d + 32 ≤ length window →
    lanes ≡ map (λ b. mask (t b)) (chunk (at + d) 32 window) →
    lanes ≡ map (λ i. mask (t (get_or window (i + d) 0))) (range_with_len at 32)
marks_at t window at d lanes room is =
    is ∙ ap (map (λ b. mask (t b))) (loaded window at d 32 room) ∙ map-map (λ b. mask (t b)) (λ i. get_or window (i + d) 0) (range_with_len at 32)

-- `marks_at` for a load that begins at the offset itself.
pub marks_here : (t : ℕ → Bool) (window : List ℕ) (at : ℕ) (lanes : List ℕ) → at + 32 ≤ length window →
    lanes ≡ map (λ b. mask (t b)) (chunk at 32 window) →
    lanes ≡ map (λ i. mask (t (get_or window i 0))) (range_with_len at 32)
marks_here t window at lanes room is =
    is ∙ ap (map (λ b. mask (t b))) (sym (pick_l-range_with_len 0 window at 32 room)) ∙ map-map (λ b. mask (t b)) (λ i. get_or window i 0) (range_with_len at 32)

-- An element of zeros is zero, also past their end.
pub zeros_at : (n i : ℕ) → ◌≡◌ {A = ℕ} (get_or (replicate n 0) i 0) 0
zeros_at n i = grind (arith, common_steps, get_or_past, length-replicate, cases_lt i n)

-- Zeros after a list change neither its elements nor what is read past its end.
pub padded : (xs rest : List ℕ) → ((i : ℕ) → ◌≡◌ {A = ℕ} (get_or rest i 0) 0) → (k : ℕ) → get_or (xs ++ rest) k 0 ≡ get_or xs k 0
padded [] rest zeros k = zeros k
padded (x ∷ xs) rest zeros zero = refl
padded (x ∷ xs) rest zeros (suc k) = padded xs rest zeros k
