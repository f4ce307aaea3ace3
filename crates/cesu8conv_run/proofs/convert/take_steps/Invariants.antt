-- The steps that were taken so far are together one step: their result, `all`, is one that a single
-- step may have.
use Rattle.cesu8conv_run.specs.Steps.{IsStep}
use Rattle.cesu8conv_run.proofs.convert.take_steps.Given as goal

abbrev pub invariant-loop : goal.invariant-loop
invariant-loop g l = IsStep l.conversion l.bytes l.is_last l.room l.all
