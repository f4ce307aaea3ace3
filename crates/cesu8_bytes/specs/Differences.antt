-- The first difference of two lists of bytes.
use Rattle.std.specs.Prelude.{◌≡◌, ◌≢◌, ℕ, ◌<◌, ◌≤◌, List, slice_index}

-- n is the offset of the first byte that differs, or `len` if the first `len` bytes are equal. The
-- functions that return it (src/order.rt) require that both lists have `len` bytes.
pub record IsFirstDifference (bytes other : List ℕ) (len n : ℕ) : Type 0 where
  pub within : n ≤ len
  pub same : (i : ℕ) → i < n → slice_index bytes i ≡ slice_index other i
  pub end : n < len → slice_index bytes n ≢ slice_index other n
