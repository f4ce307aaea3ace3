-- How far a call that converts a piece came, and why it stopped.
use Rattle.std.specs.Prelude.{◌≡◌, ◌≢◌, ◌↔◌, ◌⊎◌, ℕ, ◌+◌, ◌-◌, ◌<◌, ◌≤◌, List, [], ◌∷◌, Bool, length, drop}
use Rattle.cesu8_stream.specs.Written.{Converts, NeverBegins, IsPartial, BeginsLonger}
use Rattle.cesu8_stream.specs.Lossy.{ReadsOn, StaysForNext, NextIsLonger}
use Rattle.cesu8_stream.specs.declared.progress.Progress as stream
use Rattle.cesu8_stream.specs.declared.progress.State.{State}
use Rattle.cesu8_stream.specs.declared.progress.State.TheVariants.{InputEmpty, Incomplete, OutputFull, Malformed}
use Rattle.cesu8_c.specs.Answers.{IsAmong}
use Rattle.cesu8_c.specs.declared.progress.Progress.{Progress}
use Rattle.cesu8_c.specs.declared.answer.TheConstants.{OK, INCOMPLETE, FULL}

-- What C gets for a state of a stream. `malformed` is the status for `Malformed`.
abbrev pub status_of : ℕ → State → ℕ
status_of malformed InputEmpty = OK
status_of malformed Incomplete = INCOMPLETE
status_of malformed OutputFull = FULL
status_of malformed Malformed = malformed

-- What C gets for the progress of a stream's call.
abbrev pub progress_for : ℕ → stream.Progress → Progress
progress_for malformed progress = record {
  status = status_of malformed progress.state;
  read = progress.read;
  written = progress.written;
}

-- The contract of a call that converts well-formed input and stops at malformed bytes. `from` gives
-- the bytes of a text in the input, and `to` those in the output, in which a character has at most
-- `widest` bytes.
pub record ConvertsPiece (from to : List ℕ → List ℕ) (widest malformed : ℕ) (bytes : List ℕ) (progress : Progress) (old new : List ℕ) : Type 0 where
  -- The bytes that were read are a text, which was written.
  pub text : Converts from to bytes progress.read progress.written old new
  pub within : progress.read ≤ length bytes
  -- The call returns each status if and only if its condition holds of the remaining bytes.
  pub ok : progress.status ≡ OK ↔ progress.read ≡ length bytes
  pub incomplete : progress.status ≡ INCOMPLETE ↔ IsPartial from (drop progress.read bytes)
  pub full : progress.status ≡ FULL ↔ BeginsLonger from to (drop progress.read bytes) (length old - progress.written)
  pub never_begins : progress.status ≡ malformed ↔ NeverBegins from (drop progress.read bytes)
  pub statuses : IsAmong (OK ∷ INCOMPLETE ∷ FULL ∷ malformed ∷ []) progress.status
  -- An incomplete character has at most five bytes.
  pub few_left : progress.status ≡ INCOMPLETE → length bytes ≤ progress.read + 5
  -- With space for the longest character, a full buffer means that at least one byte was read.
  pub moves : widest ≤ length old → progress.status ≡ FULL → 0 < progress.read

-- The contract of a call that replaces ill-formed bytes. `from` is the encoding, and `reading` its
-- lossy reading.
pub record DecodesPiece (from reading : List ℕ → List ℕ) (is_last : Bool) (bytes : List ℕ) (progress : Progress) (old new : List ℕ) : Type 0 where
  -- What was written is how the lossy reading of the input begins, whatever may follow it.
  pub text : ReadsOn reading is_last bytes progress.read progress.written old new
  pub within : progress.read ≤ length bytes
  -- The call returns each status if and only if its condition holds of the remaining bytes.
  pub ok : progress.status ≡ OK ↔ progress.read ≡ length bytes
  pub incomplete : progress.status ≡ INCOMPLETE ↔ StaysForNext from is_last (drop progress.read bytes)
  pub full : progress.status ≡ FULL ↔ NextIsLonger from is_last (drop progress.read bytes) (length old - progress.written)
  pub statuses : IsAmong (OK ∷ INCOMPLETE ∷ FULL ∷ []) progress.status
  -- An incomplete character has at most five bytes.
  pub few_left : progress.status ≡ INCOMPLETE → length bytes ≤ progress.read + 5
  -- With space for four bytes, the longest character of UTF-8, a full buffer means that at least
  -- one byte was read.
  pub moves : 4 ≤ length old → progress.status ≡ FULL → 0 < progress.read
