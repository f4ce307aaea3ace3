-- Before each round the first `written` of the 64 bytes from the start of the window on are packed.
-- Some of these can be after its end. A round packs 32 bytes, each of which gives at most one.
use Rattle.std.proofs.Common.{◌-◌}
use Rattle.cesu8_decode.proofs.decoder.PackedLanes.{AreStored}
use Rattle.cesu8_decode.proofs.decoder.EventsPacked.{null_packed}
use Rattle.cesu8_decode.proofs.pass.events.dense_nulls.write_nulls.Given as goal

abbrev pub invariant-loop-written : goal.invariant-loop-written
invariant-loop-written g l = AreStored g.F.Flavor.flavor l.bytes l.at l.window (null_packed l.bytes l.at l.window.nulls) 1 32 l.written l.initial.end l.initial.out l.out l.end

abbrev pub decreases-loop-written : goal.decreases-loop-written
decreases-loop-written g l = 64 - l.written
