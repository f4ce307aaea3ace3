-- Before each round the pass has gone on from `read` to `at`, pair by pair. Six bytes that are read
-- give four that are written, so the buffer has space for as many pairs as the loop can read.
use Rattle.std.proofs.Common.{◌-◌, ◌+◌, ◌*◌, ◌≤◌, length}
use Rattle.cesu8_bytes.specs.declared.strictness.Strictness.{Strictness}
use Rattle.cesu8_decode.specs.Decoding.{GoesOn, pass_from}
use Rattle.cesu8_decode.proofs.decoder.Passes.{pass_at}
use Rattle.cesu8_decode.proofs.pass.windows.write_pairs.Given as goal

abbrev pub decreases-loop-at : goal.decreases-loop-at
decreases-loop-at g l = length l.bytes - l.at

abbrev pub invariant-loop-at : goal.invariant-loop-at
invariant-loop-at g l = record {
  used : 3 * l.end + 2 * l.read ≤ 2 * l.at;
  more : (which : Strictness) → GoesOn g.F.Flavor.flavor which l.bytes (pass_from l.read) (pass_at l.at l.end) l.initial.out l.out;
}
