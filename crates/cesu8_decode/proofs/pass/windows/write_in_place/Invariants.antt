-- Before each round the pass has gone on from `before` to `pass`, window by window. Each round
-- reads at least one byte, even if strict decoding rejects its window. So a pass that has read
-- nothing has rejected nothing (`fresh`), and `write_windows` reads something if a byte is left.
use Rattle.std.proofs.Common.{◌≡◌, ◌-◌, false, length}
use Rattle.cesu8_decode.specs.Decoding.{GoesOn}
use Rattle.cesu8_decode.proofs.pass.windows.write_in_place.Given as goal

abbrev pub decreases-loop-pass : goal.decreases-loop-pass
decreases-loop-pass g l = length l.fn.bytes - l.pass.read

abbrev pub invariant-loop-pass : goal.invariant-loop-pass
invariant-loop-pass g l = record {
  more : GoesOn g.F.Flavor.flavor l.fn.strictness l.fn.bytes l.fn.before l.pass l.initial.out l.out;
  fresh : l.pass.read ≡ l.fn.before.read → l.pass.is_rejected ≡ false;
}
