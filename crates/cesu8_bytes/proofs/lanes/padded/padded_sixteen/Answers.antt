-- `ends` puts the first bytes and the last ones in a vector, in which the middle may be twice. For
-- each length below 16, the row of the table selects every byte once, in order, and then zeros.
-- Each length is a case, which is true by computation.
use Rattle.std.proofs.Common.{◌≡◌, ℕ, ◌-◌, ◌<◌, List, [], ◌∷◌, ◌++◌, length, get_or, replicate, refl, arith, w8}
use Rattle.std.proofs.lemmas.Simd.{swz_l}
use Rattle.cesu8_bytes.specs.Padded.{ends_of}
use Rattle.cesu8_bytes.specs.declared.lanes.padded.TheConstants.{IN_ENDS}
use Rattle.cesu8_bytes.proofs.lanes.padded.padded_sixteen.Goals as goal

-- The row for the number of the bytes puts them in order, and zeros after them.
in_order : (bytes : List ℕ) → length bytes < 16 → swz_l w8 16 (ends_of bytes) 0 (get_or IN_ENDS (length bytes) []) ≡ bytes ++ replicate (16 - length bytes) 0
in_order [] few = refl
in_order (a ∷ []) few = refl
in_order (a ∷ b ∷ []) few = refl
in_order (a ∷ b ∷ d ∷ []) few = refl
in_order (a ∷ b ∷ d ∷ e ∷ []) few = refl
in_order (a ∷ b ∷ d ∷ e ∷ g ∷ []) few = refl
in_order (a ∷ b ∷ d ∷ e ∷ g ∷ h ∷ []) few = refl
in_order (a ∷ b ∷ d ∷ e ∷ g ∷ h ∷ i ∷ []) few = refl
in_order (a ∷ b ∷ d ∷ e ∷ g ∷ h ∷ i ∷ j ∷ []) few = refl
in_order (a ∷ b ∷ d ∷ e ∷ g ∷ h ∷ i ∷ j ∷ k ∷ []) few = refl
in_order (a ∷ b ∷ d ∷ e ∷ g ∷ h ∷ i ∷ j ∷ k ∷ l ∷ []) few = refl
in_order (a ∷ b ∷ d ∷ e ∷ g ∷ h ∷ i ∷ j ∷ k ∷ l ∷ m ∷ []) few = refl
in_order (a ∷ b ∷ d ∷ e ∷ g ∷ h ∷ i ∷ j ∷ k ∷ l ∷ m ∷ n ∷ []) few = refl
in_order (a ∷ b ∷ d ∷ e ∷ g ∷ h ∷ i ∷ j ∷ k ∷ l ∷ m ∷ n ∷ o ∷ []) few = refl
in_order (a ∷ b ∷ d ∷ e ∷ g ∷ h ∷ i ∷ j ∷ k ∷ l ∷ m ∷ n ∷ o ∷ p ∷ []) few = refl
in_order (a ∷ b ∷ d ∷ e ∷ g ∷ h ∷ i ∷ j ∷ k ∷ l ∷ m ∷ n ∷ o ∷ p ∷ q ∷ []) few = refl
in_order (a ∷ b ∷ d ∷ e ∷ g ∷ h ∷ i ∷ j ∷ k ∷ l ∷ m ∷ n ∷ o ∷ p ∷ q ∷ r ∷ bytes) few = absurd (omega arith)

pub returns : goal.returns
returns c = rw (c.ends.ensures, c.in_ends.ensures) (in_order c.args.bytes.now c.requires)
