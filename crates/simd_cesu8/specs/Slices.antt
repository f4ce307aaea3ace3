-- What a call that writes to a caller's buffer promises.
pub use Rattle.cesu8_text.specs.Slices.{StandsAtFront, ReadsAtLength, ReadingAtFront}
use Rattle.std.specs.Prelude.{◌≡◌, ℕ, ◌^◌, ◌≤◌, ◌↔◌, ⊤, List, length, Result, Err, IfOk, IfErr, IsOk, OnErr}
use Rattle.simd_cesu8.specs.declared.error.TooShort.{TooShort}
use Rattle.simd_cesu8.specs.declared.error.DecodeSliceFault.{DecodeSliceFault}
use Rattle.simd_cesu8.specs.declared.error.DecodeSliceFault.TheVariants as strict
use Rattle.simd_cesu8.specs.declared.error.LossySliceFault.{LossySliceFault}
use Rattle.simd_cesu8.specs.declared.error.LossySliceFault.TheVariants as lossy

-- The result is written to the buffer, or the buffer is too short.
pub record WritesAnswer (answer : List ℕ) (result : Result ℕ TooShort) (old new : List ℕ) : Type 0 where
  -- If the call succeeds, the buffer begins with the result, and its other bytes are unchanged.
  pub written : IfOk result (λ len. StandsAtFront answer len old new)
  -- The call succeeds exactly when the result fits.
  pub fits : IsOk result ↔ length answer ≤ length old
  -- Otherwise the call returns the result's exact length,
  pub needed : IfErr result (λ fault. fault.needed ≡ length answer)
  -- and the whole buffer is unchanged.
  pub unchanged : OnErr result (new ≡ old)

-- The call returns `Invalid`.
abbrev pub IsInvalid : Result ℕ DecodeSliceFault → Type 0
IsInvalid (Err (strict.Invalid error)) = ⊤
IsInvalid other = ⊥

-- If the buffer is too short, the fact holds of the length that the call returns.
abbrev pub IfTooShort : Result ℕ DecodeSliceFault → (ℕ → Type 0) → Type 0
IfTooShort (Err (strict.TooShort fault)) P = P fault.needed
IfTooShort other P = ⊤

-- The text of the bytes (`IsReading`) is written to the buffer, or the bytes have no text, or the
-- buffer is too short.
pub record WritesReading (IsReading : List ℕ → Type 0) (result : Result ℕ DecodeSliceFault) (old new : List ℕ) : Type 0 where
  pub written : IfOk result (λ len. ReadingAtFront IsReading len old new)
  -- The call succeeds exactly when the bytes have a text that fits.
  pub fits : IsOk result ↔ ReadsAtLength IsReading (λ len. len ≤ length old)
  -- The call returns `Invalid` exactly when the bytes have no text.
  pub invalid : IsInvalid result ↔ ((text : List ℕ) → ¬ (IsReading text))
  -- If the buffer is too short, the call returns the text's exact length.
  pub needed : IfTooShort result (λ needed. ReadsAtLength IsReading (λ len. needed ≡ len))
  -- After an error the whole buffer is unchanged.
  pub unchanged : OnErr result (new ≡ old)

-- The length of the text does not fit `usize`.
abbrev pub IsTooLong : Result ℕ LossySliceFault → Type 0
IsTooLong (Err lossy.TooLong) = ⊤
IsTooLong other = ⊥

-- If the buffer is too short, the fact holds of the length that the lossy call returns.
abbrev pub IfLossyTooShort : Result ℕ LossySliceFault → (ℕ → Type 0) → Type 0
IfLossyTooShort (Err (lossy.TooShort fault)) P = P fault.needed
IfLossyTooShort other P = ⊤

-- The text of the bytes (`IsReading`) is written to the buffer, or its length does not fit `usize`,
-- or the buffer is too short.
pub record WritesLossyReading (IsReading : List ℕ → Type 0) (result : Result ℕ LossySliceFault) (old new : List ℕ) : Type 0 where
  pub written : IfOk result (λ len. ReadingAtFront IsReading len old new)
  -- The call succeeds exactly when the text fits.
  pub fits : IsOk result ↔ ReadsAtLength IsReading (λ len. len ≤ length old)
  -- The call returns `TooLong` exactly when the length does not fit `usize`.
  pub too_long : IsTooLong result ↔ ReadsAtLength IsReading (λ len. 2 ^ 64 ≤ len)
  -- If the buffer is too short, the call returns the text's exact length.
  pub needed : IfLossyTooShort result (λ needed. ReadsAtLength IsReading (λ len. needed ≡ len))
  -- After an error the whole buffer is unchanged.
  pub unchanged : OnErr result (new ≡ old)
