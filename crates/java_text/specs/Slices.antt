-- What a call that writes a form or a text to a caller's buffer promises.
use Rattle.std.specs.Prelude.{◌≡◌, ℕ, ◌≤◌, ◌↔◌, ⊤, List, length, Result, Err, IfOk, IsOk, IsOkUnless, OnErr}
use Rattle.std.specs.Borrow.{Bor}
use Rattle.simd_cesu8.specs.Slices.{StandsAtFront, ReadsAtLength, ReadingAtFront}
use Rattle.java_text.specs.Form.{HasForm, mutf8_len, java_form, rest_in, IsTruncated}
use Rattle.java_text.specs.declared.fault.WriteSliceFault.{WriteSliceFault}
use Rattle.java_text.specs.declared.fault.WriteSliceFault.TheVariants as writing
use Rattle.java_text.specs.declared.fault.ReadSliceFault.{ReadSliceFault}
use Rattle.java_text.specs.declared.fault.ReadSliceFault.TheVariants as reading

-- The form of the text is written to the buffer, or the text has no form, or the buffer is too
-- short.
pub record WritesForm (text : List ℕ) (result : Result ℕ WriteSliceFault) (old new : List ℕ) : Type 0 where
  pub written : IfOk result (λ len. StandsAtFront (java_form text) len old new)
  -- The call succeeds exactly when the text has a form that fits.
  pub fits : IsOk result ↔ (HasForm text × (length (java_form text) ≤ length old))
  -- If the text has no form, the call returns the length of its MUTF-8,
  pub too_long : ¬ (HasForm text) → result ≡ Err (writing.TooLong (mutf8_len text))
  -- and otherwise the exact length of the form.
  pub needed : HasForm text → IsOkUnless result (writing.TooShort (length (java_form text)))
  -- After an error the whole buffer is unchanged.
  pub unchanged : OnErr result (new ≡ old)

-- The call returns `Invalid`.
abbrev pub IsInvalid : Result (ℕ × Bor (List ℕ)) ReadSliceFault → Type 0
IsInvalid (Err (reading.Invalid error)) = ⊤
IsInvalid other = ⊥

-- If the buffer is too short, the fact holds of the length that the call returns.
abbrev pub IfTooShort : Result (ℕ × Bor (List ℕ)) ReadSliceFault → (ℕ → Type 0) → Type 0
IfTooShort (Err (reading.TooShort needed)) P = P needed
IfTooShort other P = ⊤

-- The text of the counted bytes (`IsReading`) is written to the buffer, and the call returns the
-- bytes after them. Otherwise bytes are missing, or the counted bytes have no text, or the buffer
-- is too short.
pub record WritesCounted (bytes : List ℕ) (IsReading : List ℕ → Type 0) (result : Result (ℕ × Bor (List ℕ)) ReadSliceFault) (old new : List ℕ) : Type 0 where
  pub written : IfOk result (λ read. ReadingAtFront IsReading read.0 old new)
  pub rest : IfOk result (λ read. read.1.now ≡ rest_in bytes)
  -- The call succeeds exactly when no byte is missing, and there is a text that fits.
  pub fits : IsOk result ↔ ((¬ (IsTruncated bytes)) × ReadsAtLength IsReading (λ len. len ≤ length old))
  -- The call returns `Truncated` exactly when bytes are missing,
  pub truncated : result ≡ Err reading.Truncated ↔ IsTruncated bytes
  -- `Invalid` exactly when no byte is missing and the counted bytes have no text,
  pub invalid : IsInvalid result ↔ ((¬ (IsTruncated bytes)) × ((text : List ℕ) → ¬ (IsReading text)))
  -- and otherwise the text's exact length.
  pub needed : IfTooShort result (λ needed. ReadsAtLength IsReading (λ len. needed ≡ len))
  -- After an error the whole buffer is unchanged.
  pub unchanged : OnErr result (new ≡ old)
