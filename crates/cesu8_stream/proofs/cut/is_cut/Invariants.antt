-- No character that begins at an offset tested so far ends after the place.
use Rattle.cesu8_stream.proofs.Cuts.{NoneFrom}
use Rattle.cesu8_stream.proofs.cut.is_cut.Given as goal

abbrev pub invariant-loop-start : goal.invariant-loop-start
invariant-loop-start g l = NoneFrom g.C.Conversion.from l.bytes l.place l.start
