-- What functions promise that write to a slice or append to a buffer.
use Rattle.std.specs.Prelude.{◌≡◌, ℕ, ◌+◌, ◌≤◌, ◌↔◌, List, Vec, ◌++◌, length, take, drop, Result, IfOk, IfErr, IsOk, OnErr, vec_len, vec_capacity}
use Rattle.cesu8_text.specs.Slices.{StandsAtFront}
use Rattle.cesu8_bytes.specs.declared.writing.copies.NoRoom.{NoRoom}

-- Bytes are written at an offset and n is the offset after them. What precedes is unchanged; what
-- follows may change.
pub record WritesAt (written : List ℕ) (at : ℕ) (old new : List ℕ) (n : ℕ) : Type 0 where
  pub bytes : take n new ≡ take at old ++ written
  pub end : n ≡ at + length written
  pub len : length new ≡ length old

-- Bytes are written at an offset and n is the offset after them. All other bytes are unchanged.
pub record PutsAt (written : List ℕ) (at : ℕ) (old new : List ℕ) (n : ℕ) : Type 0 where
  pub writes : WritesAt written at old new n
  pub behind : drop n new ≡ drop n old

-- Bytes are appended, and the capacity is unchanged.
pub record Appends {A : Type 0} (appended : List ℕ) (old new : Vec ℕ A) : Type 0 where
  pub bytes : new.items ≡ old.items ++ appended
  pub len : vec_len new ≡ vec_len old + length appended
  pub capacity : vec_capacity new ≡ vec_capacity old

-- The result is written to the start of a caller's buffer, unless the buffer is too short.
pub record PutsAnswer (answer : List ℕ) (result : Result ℕ NoRoom) (old new : List ℕ) : Type 0 where
  pub written : IfOk result (λ len. StandsAtFront answer len old new)
  -- It is written if and only if it fits.
  pub fits : IsOk result ↔ length answer ≤ length old
  -- If it does not fit, the error has its exact length.
  pub needed : IfErr result (λ no_room. no_room.needed ≡ length answer)
  -- If it does not fit, the buffer is unchanged.
  pub unchanged : OnErr result (new ≡ old)
