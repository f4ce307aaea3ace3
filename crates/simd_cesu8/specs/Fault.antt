-- Why a call returns no text, and how the error displays.
use Rattle.std.specs.Prelude.{ℕ, ⊤, List, codes, Result, IfErr}
use Rattle.simd_cesu8.specs.declared.error.DecodeFault.{DecodeFault}
use Rattle.simd_cesu8.specs.declared.error.DecodeFault.TheVariants.{Invalid, Memory}
use Rattle.simd_cesu8.specs.declared.error.DecodeSliceFault.{DecodeSliceFault}
use Rattle.simd_cesu8.specs.declared.error.DecodeSliceFault.TheVariants as strict
use Rattle.simd_cesu8.specs.declared.error.LossySliceFault.{LossySliceFault}
use Rattle.simd_cesu8.specs.declared.error.LossySliceFault.TheVariants as lossy

-- How an error of a call that decodes displays.
abbrev pub message_of : DecodeFault → List ℕ
message_of (Invalid error) = codes "invalid input"
message_of (Memory error) = codes "out of memory"

-- How an error of a call that decodes to a slice displays.
abbrev pub slice_message_of : DecodeSliceFault → List ℕ
slice_message_of (strict.Invalid error) = codes "invalid input"
slice_message_of (strict.TooShort fault) = codes "buffer too short"

-- How an error of a call that decodes damaged bytes to a slice displays.
abbrev pub lossy_message_of : LossySliceFault → List ℕ
lossy_message_of lossy.TooLong = codes "text is too long"
lossy_message_of (lossy.TooShort fault) = codes "buffer too short"

-- If the error is `Invalid`, the fact holds.
abbrev pub IfInvalid : DecodeFault → Type 0 → Type 0
IfInvalid (Invalid error) P = P
IfInvalid (Memory error) P = ⊤

-- If the call returns `Invalid`, the fact holds.
abbrev pub OnInvalid : {T : Type 0} → Result T DecodeFault → Type 0 → Type 0
OnInvalid result P = IfErr result (λ fault. IfInvalid fault P)
