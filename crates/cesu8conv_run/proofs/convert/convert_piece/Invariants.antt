-- What was taken of the piece so far was converted, and all of that was written.
use Rattle.cesu8conv_run.specs.Stream.{TakesPiece}
use Rattle.cesu8conv_run.proofs.convert.convert_piece.Given as goal

abbrev pub invariant-loop : goal.invariant-loop
invariant-loop g l =
    TakesPiece l.conversion l.bytes l.is_last l.read (g.W.Write.contents l.initial.output) (g.W.Write.contents l.output)
