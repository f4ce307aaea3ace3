-- What was read so far was converted, and the result is at the start of the buffer. Each iteration
-- but the last reads at least one byte, so fewer are left.
use Rattle.std.proofs.Common.{◌≤◌, ◌-◌, length}
use Rattle.cesu8_stream.specs.Written.{Converts}
use Rattle.cesu8_stream.proofs.engine.convert_rest.Given as goal

abbrev pub invariant-loop-moved : goal.invariant-loop-moved
invariant-loop-moved g l = record {
  within : l.read ≤ length l.bytes;
  moves : Converts g.C.Conversion.from g.C.Conversion.to l.bytes l.read l.written l.initial.buf l.buf;
}

abbrev pub decreases-loop-moved : goal.decreases-loop-moved
decreases-loop-moved g l = length l.bytes - l.read
