-- Why a call returns no form or no text, and how the error displays.
use Rattle.std.specs.Prelude.{ℕ, ⊤, List, codes, Result, IfErr}
use Rattle.simd_cesu8.specs.declared.error.DecodeFault.{DecodeFault}
use Rattle.simd_cesu8.specs.declared.error.DecodeFault.TheVariants as decoding
use Rattle.java_text.specs.declared.fault.WriteFault.{WriteFault}
use Rattle.java_text.specs.declared.fault.WriteFault.TheVariants as writing
use Rattle.java_text.specs.declared.fault.WriteSliceFault.{WriteSliceFault}
use Rattle.java_text.specs.declared.fault.WriteSliceFault.TheVariants as slice_writing
use Rattle.java_text.specs.declared.fault.ReadSliceFault.{ReadSliceFault}
use Rattle.java_text.specs.declared.fault.ReadSliceFault.TheVariants as slice_reading
use Rattle.simd_cesu8.specs.declared.error.DecodeSliceFault.{DecodeSliceFault}
use Rattle.simd_cesu8.specs.declared.error.DecodeSliceFault.TheVariants as slice_decoding
use Rattle.java_text.specs.declared.fault.ReadFault.{ReadFault}
use Rattle.java_text.specs.declared.fault.ReadFault.TheVariants.{Truncated, Invalid, Memory}

-- How an error displays.
abbrev pub write_message_of : WriteFault → List ℕ
write_message_of (writing.TooLong count) = codes "text is too long"
write_message_of writing.Memory = codes "out of memory"

abbrev pub read_message_of : ReadFault → List ℕ
read_message_of Truncated = codes "input is truncated"
read_message_of (Invalid error) = codes "invalid input"
read_message_of Memory = codes "out of memory"

abbrev pub write_slice_message_of : WriteSliceFault → List ℕ
write_slice_message_of (slice_writing.TooLong count) = codes "text is too long"
write_slice_message_of (slice_writing.TooShort count) = codes "buffer too short"

abbrev pub read_slice_message_of : ReadSliceFault → List ℕ
read_slice_message_of slice_reading.Truncated = codes "input is truncated"
read_slice_message_of (slice_reading.Invalid error) = codes "invalid input"
read_slice_message_of (slice_reading.TooShort count) = codes "buffer too short"

-- The error for an error of the decoder.
abbrev pub read_fault_of : DecodeFault → ReadFault
read_fault_of (decoding.Invalid error) = Invalid error
read_fault_of (decoding.Memory error) = Memory

abbrev pub read_slice_fault_of : DecodeSliceFault → ReadSliceFault
read_slice_fault_of (slice_decoding.Invalid error) = slice_reading.Invalid error
read_slice_fault_of (slice_decoding.TooShort fault) = slice_reading.TooShort fault.needed

-- If the error is `Invalid`, the fact holds.
abbrev pub IfInvalid : ReadFault → Type 0 → Type 0
IfInvalid (Invalid error) P = P
IfInvalid other P = ⊤

-- If the error is one of the input, and not of memory, the fact holds.
abbrev pub IfRefused : ReadFault → Type 0 → Type 0
IfRefused Memory P = ⊤
IfRefused other P = P

-- If the call returns `Invalid`, the fact holds.
abbrev pub OnInvalid : {T : Type 0} → Result T ReadFault → Type 0 → Type 0
OnInvalid result P = IfErr result (λ fault. IfInvalid fault P)

-- If the call returns an error of the input, the fact holds.
abbrev pub OnRefused : {T : Type 0} → Result T ReadFault → Type 0 → Type 0
OnRefused result P = IfErr result (λ fault. IfRefused fault P)
