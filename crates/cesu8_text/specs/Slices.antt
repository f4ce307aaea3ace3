-- What a call that writes into a caller's buffer leaves there. `old` and `new` are the buffer
-- before and after the call.
use Rattle.std.specs.Prelude.{◌≡◌, ℕ, List, ◌++◌, length, drop}
use Rattle.cesu8_text.specs.Text.{utf8}

-- The call writes the result to the start of the buffer and returns its length. The rest of the
-- buffer is unchanged.
abbrev pub StandsAtFront : List ℕ → ℕ → List ℕ → List ℕ → Type 0
StandsAtFront answer len old new = (len ≡ length answer) × (new ≡ answer ++ drop len old)

-- There is a reading, and the length of its UTF-8 has the property `IsLength`.
abbrev pub ReadsAtLength : (List ℕ → Type 0) → (ℕ → Type 0) → Type 0
ReadsAtLength IsReading IsLength = (text : List ℕ) × IsReading text × IsLength (length (utf8 text))

-- There is a reading whose UTF-8 is written to the start of the buffer.
abbrev pub ReadingAtFront : (List ℕ → Type 0) → ℕ → List ℕ → List ℕ → Type 0
ReadingAtFront IsReading len old new = (text : List ℕ) × IsReading text × StandsAtFront (utf8 text) len old new
