-- The checker has read the bytes before `at`, and takes the next 64 or, at the end, the rest.
use Rattle.std.proofs.Common.{arith, take-add, take-append-drop}
use Rattle.std.proofs.lemmas.List.{take_rest}
use Rattle.cesu8_decode.proofs.utf8.is_part_utf8.Goals as goal

pub loop-at-preserved : goal.loop-at-preserved
loop-at-preserved c = (omega arith, rw take-add (c.step-checker.ensures _ c.loop-at.invariant.1))

pub returns : goal.returns
returns c = rw (take_rest, take-append-drop) at (c.is_end_utf8.ensures _ c.loop-at.invariant.1)
