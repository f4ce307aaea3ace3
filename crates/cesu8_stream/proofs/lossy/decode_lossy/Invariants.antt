-- The lossy reading of the bytes read so far is at the start of the buffer. Each iteration that
-- goes on replaces one byte.
use Rattle.std.proofs.Common.{◌≤◌, ◌-◌, length}
use Rattle.cesu8_stream.specs.Lossy.{ReadsOn}
use Rattle.cesu8_stream.proofs.lossy.decode_lossy.Given as goal

abbrev pub invariant-loop-found : goal.invariant-loop-found
invariant-loop-found g l = record {
  within : l.read ≤ length l.bytes;
  reads : ReadsOn g.C.Decoding.reading l.is_last l.bytes l.read l.written l.fn.buf l.buf;
}

abbrev pub decreases-loop-found : goal.decreases-loop-found
decreases-loop-found g l = length l.bytes - l.read
