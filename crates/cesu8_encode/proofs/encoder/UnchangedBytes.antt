-- A block is unchanged if none of its bytes changes, nor one of the two before it. This is for
-- `is_unchanged` of src/blocks.rt. The block at offset i of a window begins with byte i + 2.
use Rattle.std.proofs.lemmas.Bool.Decides.{nat_tests}
use Rattle.std.proofs.lemmas.Grind.{common_steps}
use Rattle.std.proofs.Common.{◌≡◌, ℕ, zero, suc, ◌+◌, ◌<◌, ◌≤◌, Bool, false, ◌||◌, List, [], ◌∷◌, map, refl, sym, ap, ◌∙◌, arith, length, get_or}
use Rattle.std.specs.List.{flat_map, range_with_len}
use Rattle.std.proofs.lemmas.Bool.{or_parts}
use lib.Lanes.{chunk}
use Rattle.cesu8_bytes.specs.Kernels.{AnyIn}
use Rattle.cesu8_text.specs.Encoding.{Flavor}
use Rattle.cesu8_text.specs.Class.{is_null, is_at_least_f0}
use Rattle.cesu8_encode.specs.EncodedOffsets.{encoded_byte, encoded_byte_at, encoded_bytes}
use Rattle.cesu8_bytes.proofs.lists.Lanes.{none_loaded}
use Rattle.cesu8_bytes.proofs.vectors.Loads.{loaded}
use Rattle.cesu8_encode.proofs.encoder.RecodedText.{or_zero}

-- Whether a byte changes, or makes the next bytes change.
abbrev changes : Flavor → ℕ → Bool
changes f b = is_null f b || is_at_least_f0 b

-- The byte b is written unchanged if `changes` is false for it and for the two bytes before it, x
-- and y. The next byte n does not matter.
unchanged_byte : (f : Flavor) (x y b n : ℕ) → changes f x ≡ false → changes f y ≡ false → changes f b ≡ false → encoded_byte f x y b n ≡ b ∷ []
unchanged_byte f x y b n hx hy hb = grind (arith, nat_tests, common_steps, or_parts, or_zero)

-- All n bytes are written unchanged if `changes` is false for them and for the two bytes before
-- them.
all_unchanged : (f : Flavor) (window : List ℕ) (i n : ℕ) → ((k : ℕ) → i ≤ k → k < i + (n + 2) → changes f (get_or window k 0) ≡ false) →
    flat_map (encoded_byte_at f window) (range_with_len i n) ≡ map (λ j. get_or window (j + 2) 0) (range_with_len i n)
all_unchanged f window i zero h = refl
all_unchanged f window i (suc n) h =
    rw (
      unchanged_byte f (get_or window i 0) (get_or window (i + 1) 0) (get_or window (i + 2) 0) (get_or window (i + 3) 0)
          (h i (omega arith) (omega arith)) (h (i + 1) (omega arith) (omega arith)) (h (i + 2) (omega arith) (omega arith)),
      all_unchanged f window (i + 1) n (λ k from to. h k (omega arith) (omega arith)),
    ) refl

-- A block is unchanged if none of its bytes changes, nor one of the two before it.
pub unchanged_block : (f : Flavor) (null : ℕ → Bool) (window : List ℕ) (at n : ℕ) → null ≡ is_null f → at + 2 + n ≤ length window →
    (AnyIn (λ b. null b || is_at_least_f0 b) (chunk at (n + 2) window) → ⊥) →
    encoded_bytes f window at n ≡ chunk (at + 2) n window
unfolding encoded_bytes
unchanged_block f null window at n are room none =
    let none_here : AnyIn (changes f) (chunk at (n + 2) window) → ⊥ = λ any.
    none (any.0, any.1, any.2, any.3, ap (λ (p : ℕ → Bool). p any.1 || is_at_least_f0 any.1) are ∙ any.4) in
    all_unchanged f window at n (none_loaded (changes f) window at (n + 2) (omega arith) none_here) ∙ sym (loaded window at 2 n room)
