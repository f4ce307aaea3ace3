-- Each round takes steps on the bytes that are left, and writes their output. So what was taken so
-- far and what was written always belong together (`takes-more`).
use Rattle.cesu8conv_run.proofs.Pieces.{takes-none, takes-more, takes-some, breaks-more, all-taken, damage-after}
use Rattle.cesu8conv_run.proofs.convert.convert_piece.Goals as goal

pub loop-init : goal.loop-init
loop-init g c = takes-none _ _ _ _

pub loop-preserved : goal.loop-preserved
loop-preserved g c =
    takes-more c.concat.ensures _ _ _ _ _ _ _ _ _ c.loop.invariant c.take_steps-step.ensures c.in-Ok.ensures.ok

pub returns-in-Input-clause-ok : goal.returns-in-Input-clause-ok
returns-in-Input-clause-ok g c =
    let step = c.take_steps-step in
    record {
      takes = takes-more c.concat.ensures _ _ _ _ _ _ _ _ _ c.loop.invariant step.ensures c.in-Ok.ensures.ok;
      all = λ _ last. all-taken _ _ _ _ _ _ c.loop.invariant.within step.ensures c.in-Input.is last;
      damage = λ no. cc;
    }

pub returns-in-Stop-clause-ok : goal.returns-in-Stop-clause-ok
returns-in-Stop-clause-ok g c =
    let step = c.take_steps-step in
    record {
      takes = takes-more c.concat.ensures _ _ _ _ _ _ _ _ _ c.loop.invariant step.ensures c.in-Ok.ensures.ok;
      all = λ no _. cc;
      damage = λ _. damage-after _ _ _ _ _ _ step.ensures c.in-Stop.is;
    }

pub returns-in-Err-clause-err : goal.returns-in-Err-clause-err
returns-in-Err-clause-err g c =
    breaks-more c.concat.ensures _ _ _ _ _ _ _ _ _ c.loop.invariant c.take_steps-step.ensures c.in-Err.ensures.err

pub returns-clause-err : goal.returns-clause-err
returns-clause-err g c = takes-some _ _ _ _ _ _ c.loop.invariant
