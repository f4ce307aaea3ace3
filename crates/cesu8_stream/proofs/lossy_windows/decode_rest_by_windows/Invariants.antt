-- The lossy reading of the windows read so far is at the start of the buffer (`ReadsOn`, whose
-- `false` says that more input may follow). An iteration that reads nothing is the last one.
use Rattle.std.proofs.Common.{◌≤◌, ◌-◌, false, length}
use Rattle.cesu8_stream.specs.Lossy.{ReadsOn}
use Rattle.cesu8_stream.proofs.lossy_windows.decode_rest_by_windows.Given as goal

abbrev pub invariant-loop-read : goal.invariant-loop-read
invariant-loop-read g l = record {
  within : l.read ≤ length l.bytes;
  reads : ReadsOn g.C.Decoding.reading false l.bytes l.read l.written l.fn.buf l.buf;
}

abbrev pub decreases-loop-read : goal.decreases-loop-read
decreases-loop-read g l = length l.bytes - l.read
