-- Before each round the text of the window's bytes before `read` has been written up to `end`, and
-- `events` has the bits of the events that are left. Each round clears the lowest bit, so the
-- number falls.
use Rattle.cesu8_decode.proofs.decoder.Events.{AreRead}
use Rattle.cesu8_decode.proofs.pass.events.write_in_turn.Given as goal

abbrev pub invariant-loop-events : goal.invariant-loop-events
invariant-loop-events g l =
    AreRead g.F.Flavor.flavor l.bytes l.at g.row.WIDTH l.window l.initial.end l.initial.out l.read l.events l.end l.out

abbrev pub decreases-loop-events : goal.decreases-loop-events
decreases-loop-events g l = l.events
