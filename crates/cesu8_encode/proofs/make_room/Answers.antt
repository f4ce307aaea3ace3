-- The prover finds these proofs by itself too. They are given here for the edits of must-fail: if
-- an edit makes a goal false, the prover's own search ends at a limit without a result, but a proof
-- by hand is rejected.
use Rattle.cesu8_encode.proofs.make_room.Goals as goal

-- `full` says something of an error only, and this branch returns `Ok`, so `tt` proves it.
pub returns-then-len-capacity-clause-full : goal.returns-then-len-capacity-clause-full
returns-then-len-capacity-clause-full c = tt

pub returns-clause-items : goal.returns-clause-items
returns-clause-items c = c.reserve.ensures.items
