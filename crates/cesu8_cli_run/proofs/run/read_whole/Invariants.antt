-- So far `bytes` are what was read from the input. The loop ends since `bytes` become longer, and a
-- vector has fewer than 2^63 bytes.
use Rattle.std.proofs.Common.{◌-◌, ◌^◌, ◌<◌, vec_len}
use Rattle.std.specs.Io.KnownBytes.{Consumes}
use Rattle.cesu8_cli_run.proofs.run.read_whole.Given as goal

abbrev pub decreases-loop-count : goal.decreases-loop-count
decreases-loop-count g l = 2 ^ 63 - vec_len l.bytes

abbrev pub invariant-loop-count : goal.invariant-loop-count
invariant-loop-count g l = (vec_len l.bytes < 2 ^ 63)
    × Consumes (g.R.Read.remaining l.initial.input) (g.R.Read.remaining l.input) l.bytes.items
