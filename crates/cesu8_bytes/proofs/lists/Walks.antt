-- The invariant of a loop that searches a list: no element before the index has the property.
use Rattle.std.proofs.lemmas.Grind.{common_steps}
use Rattle.std.proofs.Common.{◌≡◌, ℕ, ◌+◌, ◌<◌, List, arith, length, get_or}

module _ {X : Type 0} (P : X → Type 0) (xs : List X) where
  -- P holds of no element before the index. `get_or xs i x ≡ x` says that x is element i.
  abbrev pub NoneBefore : ℕ → Type 0
  NoneBefore n = (i : ℕ) (x : X) → i < n → i < length xs → get_or xs i x ≡ x → P x → ⊥

  -- If P holds of no element before an index, and not of the one there, it holds of none before the
  -- next.
  pub none_with_next : (n : ℕ) (e : X) → n < length xs → NoneBefore n → (P (get_or xs n e) → ⊥) → NoneBefore (n + 1)
  none_with_next n e l none this = grind (arith, common_steps)
