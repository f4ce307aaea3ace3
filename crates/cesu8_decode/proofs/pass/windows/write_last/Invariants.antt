-- Before each round the pass has gone on from `before` to `pass`, window by window. Each round
-- reads at least one byte. A pass that has not read anything yet can go on (`fresh`), so
-- `write_last` reads something.
use Rattle.std.proofs.Common.{◌≡◌, ◌-◌, ◌≤◌, false, length}
use Rattle.cesu8_decode.specs.Decoding.{GoesOn}
use Rattle.cesu8_decode.proofs.pass.windows.write_last.Given as goal

abbrev pub decreases-loop-pass : goal.decreases-loop-pass
decreases-loop-pass g l = length l.fn.bytes - l.pass.read

abbrev pub invariant-loop-pass : goal.invariant-loop-pass
invariant-loop-pass g l = record {
  more : GoesOn g.F.Flavor.flavor l.fn.strictness l.fn.bytes l.fn.before l.pass l.initial.out l.out;
  fresh : l.pass.read ≡ l.fn.before.read → (l.pass.is_rejected ≡ false) × (l.pass.end ≤ l.limit);
}
