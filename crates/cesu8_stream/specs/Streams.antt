-- The promises of the calls that stop at ill-formed bytes: `decode_strict` and `encode`. The module
-- `Lossy` has that of `decode_lossy_strict`.
use Rattle.std.specs.Prelude.{◌≡◌, ℕ, ◌+◌, ◌-◌, ◌<◌, ◌≤◌, ◌↔◌, List, [], length, drop}
use Rattle.cesu8_stream.specs.Written.{Begins, Converts, NeverBegins, IsPartial, BeginsLonger}
use Rattle.cesu8_stream.specs.declared.progress.Progress.{Progress}
use Rattle.cesu8_stream.specs.declared.progress.State.{State}
use Rattle.cesu8_stream.specs.declared.progress.State.TheVariants.{InputEmpty, Incomplete, OutputFull, Malformed}

-- The state to return for the rest that was not converted. If a character begins the rest, it did
-- not fit. `from` is the encoding of the input.
pub record IsStateOf (from : List ℕ → List ℕ) (rest : List ℕ) (state : State) : Type 0 where
  pub input_empty : (state ≡ InputEmpty) ↔ (rest ≡ [])
  pub incomplete : (state ≡ Incomplete) ↔ IsPartial from rest
  pub malformed : (state ≡ Malformed) ↔ NeverBegins from rest
  pub output_full : (state ≡ OutputFull) ↔ ((c : ℕ) × Begins from rest c)
  pub few_left : state ≡ Incomplete → length rest ≤ 5

-- How far a call that converts what is well-formed came, and why it stopped. `from` and `to` are
-- the encodings of the input and of the output. A character has at most `widest` bytes in the
-- output. `old` and `new` are the buffer before and after the call.
pub record ConvertsPiece (from to : List ℕ → List ℕ) (widest : ℕ) (bytes : List ℕ) (result : Progress) (old new : List ℕ) : Type 0 where
  -- The bytes that were read are a text, which was written.
  pub text : Converts from to bytes result.read result.written old new
  pub within : result.read ≤ length bytes
  -- The states: each one is returned if and only if it is true of the bytes that are left.
  pub input_empty : (result.state ≡ InputEmpty) ↔ (result.read ≡ length bytes)
  pub incomplete : (result.state ≡ Incomplete) ↔ IsPartial from (drop result.read bytes)
  pub malformed : (result.state ≡ Malformed) ↔ NeverBegins from (drop result.read bytes)
  pub output_full : (result.state ≡ OutputFull) ↔ BeginsLonger from to (drop result.read bytes) (length old - result.written)
  -- A part of a character has at most five bytes.
  pub few_left : result.state ≡ Incomplete → length bytes ≤ result.read + 5
  -- With space for the longest character, a full buffer means that something was read.
  pub progress : widest ≤ length old → result.state ≡ OutputFull → 0 < result.read
