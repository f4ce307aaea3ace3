-- What a step of a conversion promises. A step reads bytes at the start of the unread input, and
-- writes to the start of a buffer. `next` says what it needs to continue: more input, a larger
-- buffer, nothing (another step), or that it stopped at damage.
use Rattle.std.specs.Prelude.{◌≡◌, ◌≢◌, ℕ, ◌<◌, ◌≤◌, ◌⊎◌, Bool, true, if◌then◌else◌, List, [], ◌∷◌, length, take, drop}
use Rattle.cesu8_stream.specs.declared.progress.Progress.{Progress}
use Rattle.cesu8_stream.specs.declared.progress.State.{State}
use Rattle.cesu8_stream.specs.declared.progress.State.TheVariants as states
use Rattle.cesu8conv_run.specs.Conversion.{Converts, IsDamagedAhead}
use Rattle.cesu8conv_run.specs.declared.conversion.Conversion.{Conversion}
use Rattle.cesu8conv_run.specs.declared.step.Step.{Step}
use Rattle.cesu8conv_run.specs.declared.step.Next.{Next}
use Rattle.cesu8conv_run.specs.declared.step.Next.TheVariants as next

-- A step read `step.read` bytes, and their conversion is at the start of the buffer.
pub record IsStep (c : Conversion) (bytes : List ℕ) (is_last : Bool) (room : List ℕ) (step : Step) : Type 0 where
  pub within : step.read ≤ length bytes
  pub fits : step.written ≤ length room
  pub converts : Converts c is_last (take step.read bytes) (drop step.read bytes) (take step.written room)
  -- At the end of the input, a step that needs more input has read all.
  pub all : step.next ≡ next.Input → is_last ≡ true → drop step.read bytes ≡ []
  -- A step that stops has bytes left, and they begin with damage.
  pub left : step.next ≡ next.Stop → step.read < length bytes
  pub damage : step.next ≡ next.Stop → IsDamagedAhead c is_last (drop step.read bytes)

-- What a step needs after a call of `cesu8_stream` that returned this state.
abbrev pub next_after : State → Bool → Next
next_after states.InputEmpty is_last = next.Input
next_after states.OutputFull is_last = next.Room
next_after states.Incomplete is_last = if is_last then next.Stop else next.Input
next_after states.Malformed is_last = next.Stop

-- The step has the progress of a call of `cesu8_stream`.
abbrev pub IsAfter : Progress → Bool → Step → Type 0
IsAfter front is_last step =
    (step.read ≡ front.read) × (step.written ≡ front.written) × (step.next ≡ next_after front.state is_last)

-- The result is the step, except that it does not stop: nothing is replaced.
pub record GoesOn (step : Step) (old new : List ℕ) (result : Step) : Type 0 where
  pub read : result.read ≡ step.read
  pub written : result.written ≡ step.written
  pub room : new ≡ old
  pub never_stops : result.next ≢ next.Stop
  pub needs_input : result.next ≡ next.Input → step.next ≡ next.Input

-- The step stopped at the first byte, and the result writes U+FFFD for this byte.
pub record ReplacesFirst (step : Step) (new : List ℕ) (result : Step) : Type 0 where
  pub stops : step.next ≡ next.Stop
  pub nothing_read : step.read ≡ 0
  pub one_read : result.read ≡ 1
  pub three_written : result.written ≡ 3
  pub next_is : result.next ≡ next.Step
  pub fits : 3 ≤ length new
  pub replacement : take 3 new ≡ 0xEF ∷ 0xBF ∷ 0xBD ∷ []

-- What `replace` in step.rt returns for a step: it replaces one damaged byte, or nothing.
abbrev pub Replaces : Step → (old new : List ℕ) → Step → Type 0
Replaces step old new result = GoesOn step old new result ⊎ ReplacesFirst step new result
