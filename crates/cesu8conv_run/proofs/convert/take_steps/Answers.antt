-- Steps, and another one after them, are one step (`steps-joined`). That proves the invariant after
-- each step, and the contract when `take_steps` returns.
use Rattle.cesu8conv_run.proofs.Steps.{nothing-step}
use Rattle.cesu8conv_run.proofs.Pieces.{steps-joined}
use Rattle.cesu8conv_run.specs.declared.step.Next.TheVariants as next
use Rattle.cesu8conv_run.proofs.convert.take_steps.Goals as goal

pub loop-init : goal.loop-init
loop-init g c =
    let none = c.nothing-all in
    nothing-step _ _ _ _ _ next.Step none.ensures.read none.ensures.written none.ensures.next (λ e. cc) (λ e. cc)

pub loop-preserved : goal.loop-preserved
loop-preserved g c = steps-joined c.concat.ensures _ _ _ _ _ _ _ _ c.loop.invariant c.take_step-step.ensures

pub returns-in_default : goal.returns-in_default
returns-in_default g c = steps-joined c.concat.ensures _ _ _ _ _ _ _ _ c.loop.invariant c.take_step-step.ensures
