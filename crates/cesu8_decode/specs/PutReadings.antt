-- What the decoder promises if it writes to a caller's slice.
use Rattle.std.specs.Prelude.{◌≡◌, ℕ, ◌^◌, ◌≤◌, ◌↔◌, ⊤, List, length, Result, Err, IfOk, IsOk, OnErr}
use Rattle.cesu8_text.specs.Encoding.{Flavor}
use Rattle.cesu8_text.specs.Reading.{IsStrictReading, reading}
use Rattle.cesu8_text.specs.Slices.{ReadsAtLength, ReadingAtFront}
use Rattle.cesu8_bytes.specs.declared.strictness.Strictness.{Strictness}
use Rattle.cesu8_bytes.specs.declared.strictness.Strictness.TheVariants.{Strict, Lossy}
use Rattle.cesu8_decode.specs.declared.error.WriteError.{WriteError}
use Rattle.cesu8_decode.specs.declared.error.WriteError.TheVariants.{NoText, TooLong, NoRoom}

-- The texts that the input can have, in strict or in lossy decoding. The two relations are those
-- of a mode: `Reads` and `ReadsLossily` of specs/Modes.
abbrev pub ReadsAs : Strictness → (reads reads_lossily : List ℕ → Type 0) → List ℕ → Type 0
ReadsAs Strict reads reads_lossily = λ text. reads text
ReadsAs Lossy reads reads_lossily = λ text. reads_lossily text

-- The texts that the input can have in the mode that takes the encoding alone.
abbrev pub IsReadingOf : Flavor → Strictness → List ℕ → List ℕ → Type 0
IsReadingOf f which bytes = ReadsAs which (IsStrictReading f bytes) (λ text. text ≡ reading f bytes)

-- The call returned the error that the bytes have no text.
abbrev pub LacksText : Result ℕ WriteError → Type 0
LacksText (Err NoText) = ⊤
LacksText other = ⊥

-- The call returned the error that the length of the text does not fit `usize`.
abbrev pub LacksLength : Result ℕ WriteError → Type 0
LacksLength (Err TooLong) = ⊤
LacksLength other = ⊥

-- If the call returned the error that the slice is too short, the fact holds for the length in that
-- error.
abbrev pub IfLacksRoom : Result ℕ WriteError → (ℕ → Type 0) → Type 0
IfLacksRoom (Err (NoRoom no_room)) P = P no_room.needed
IfLacksRoom other P = ⊤

-- The text of the bytes is written to the slice, or the error says why not.
pub record PutsText (which : Strictness) (IsReading : List ℕ → Type 0) (result : Result ℕ WriteError) (old new : List ℕ) : Type 0 where
  pub written : IfOk result (λ len. ReadingAtFront IsReading len old new)
  -- The call succeeds exactly if there is a text and it fits.
  pub fits : IsOk result ↔ ReadsAtLength IsReading (λ len. len ≤ length old)
  -- `NoText` is returned exactly if there is no text, and `TooLong` exactly if it is too long.
  pub invalid : LacksText result ↔ ((text : List ℕ) → ¬ (IsReading text))
  pub too_long : LacksLength result ↔ ReadsAtLength IsReading (λ len. 2 ^ 64 ≤ len)
  -- If the slice is too short, the error has the exact length of the text.
  pub needed : IfLacksRoom result (λ needed. ReadsAtLength IsReading (λ len. needed ≡ len))
  -- After an error the whole slice is unchanged.
  pub unchanged : OnErr result (new ≡ old)
  -- Only strict decoding rejects bytes, and only in lossy decoding can the length not fit.
  pub strict : LacksText result → which ≡ Strict
  pub lossy : LacksLength result → which ≡ Lossy

-- The strictly or lossily decoded text is written to the slice, or the error says why not.
abbrev pub PutsReading : Flavor → Strictness → List ℕ → Result ℕ WriteError → List ℕ → List ℕ → Type 0
PutsReading f which bytes = PutsText which (IsReadingOf f which bytes)
