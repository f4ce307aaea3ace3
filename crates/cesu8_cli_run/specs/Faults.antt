-- What a user sees of an error.
use Rattle.std.specs.Prelude.{ℕ, List, codes, ⊤}
use Rattle.simd_cesu8.specs.declared.error.DecodeFault.{DecodeFault}
use Rattle.simd_cesu8.specs.declared.error.DecodeFault.TheVariants as faults
use Rattle.java_text.specs.declared.fault.WriteFault.{WriteFault}
use Rattle.java_text.specs.declared.fault.WriteFault.TheVariants as writing
use Rattle.java_text.specs.declared.fault.ReadFault.{ReadFault}
use Rattle.java_text.specs.declared.fault.ReadFault.TheVariants as reading
use Rattle.cesu8_cli_run.specs.declared.fault.RunFault.{RunFault}
use Rattle.cesu8_cli_run.specs.declared.fault.RunFault.TheVariants.{Usage, NotUtf8, Invalid, Truncated, TooLong, Trailing, Memory, Io}

-- The line on standard error.
abbrev pub line_of : RunFault → List ℕ
line_of Usage = codes "usage: cesu8_cli COMMAND FLAVOR"
line_of (Invalid error) = codes "cesu8: invalid input"
line_of NotUtf8 = codes "cesu8: input is not UTF-8"
line_of Truncated = codes "cesu8: input is truncated"
line_of (TooLong length) = codes "cesu8: text is too long"
line_of Trailing = codes "cesu8: bytes after the string"
line_of Memory = codes "cesu8: out of memory"
line_of Io = codes "cesu8: input or output failed"

-- The exit status: 1 for bad input, 2 for bad arguments, 3 for out of memory, 4 for failed input or
-- output.
abbrev pub status_of : RunFault → ℕ
status_of Usage = 2
status_of NotUtf8 = 1
status_of (Invalid error) = 1
status_of Truncated = 1
status_of (TooLong length) = 1
status_of Trailing = 1
status_of Memory = 3
status_of Io = 4

-- The errors of the input: all but those of the arguments, of memory and of the devices.
abbrev pub IsRefusal : RunFault → Type 0
IsRefusal Usage = ⊥
IsRefusal Memory = ⊥
IsRefusal Io = ⊥
IsRefusal other = ⊤

-- How a run ends for an error of the libraries.
abbrev pub run_fault_of : DecodeFault → RunFault
run_fault_of (faults.Invalid error) = Invalid error
run_fault_of (faults.Memory error) = Memory

abbrev pub write_fault_of : WriteFault → RunFault
write_fault_of (writing.TooLong length) = TooLong length
write_fault_of writing.Memory = Memory

abbrev pub read_fault_of : ReadFault → RunFault
read_fault_of reading.Truncated = Truncated
read_fault_of (reading.Invalid error) = Invalid error
read_fault_of reading.Memory = Memory
