-- Each round goes on from what was taken so far. There is a proof for each way to return. The three
-- that return `Limit` are for buffers that are too small, and for cases that never occur, as the
-- comments in convert.rt say.
use Rattle.std.proofs.Common.{[], false, take, ap, arith}
use Rattle.cesu8conv_run.proofs.Streams.{nothing-so-far, some-so-far, output-so-far, damage-so-far}
use Rattle.cesu8conv_run.proofs.convert.convert.Goals as goal

pub returns-then-window-lt-LEAST-clause-err : goal.returns-then-window-lt-LEAST-clause-err
returns-then-window-lt-LEAST-clause-err g c =
    some-so-far c.args.conversion false _ _ _ _ [] 0 (nothing-so-far c.args.conversion _ _)

pub loop-init : goal.loop-init
loop-init g c = record { unread_fits = omega arith; so_far = nothing-so-far c.args.conversion _ _ }

pub returns-then-unread-window-clause-err : goal.returns-then-unread-window-clause-err
returns-then-unread-window-clause-err g c = some-so-far c.args.conversion _ _ _ _ _ _ _ c.loop.invariant.so_far

pub returns-clause-err : goal.returns-clause-err
returns-clause-err g c = some-so-far c.args.conversion _ _ _ _ _ _ _ c.loop.invariant.so_far

pub returns-in-Err-clause-err : goal.returns-in-Err-clause-err
returns-in-Err-clause-err g c = c.in-Err.ensures.err _ _ _ c.loop.invariant.so_far

pub returns-then-round-clause-err : goal.returns-then-round-clause-err
returns-then-round-clause-err g c =
    let round = c.in-Ok.ensures.ok in
    damage-so-far c.args.conversion _ _ _ _ _ _ _ (round.damage c.if-round.true) (round.so_far _ _ _ c.loop.invariant.so_far)

pub returns-then-round-2-clause-ok : goal.returns-then-round-2-clause-ok
returns-then-round-2-clause-ok g c =
    let round = c.in-Ok.ensures.ok in
    let last = c.if-round-2.true in
    output-so-far c.args.conversion _ _ _ _ _ _ _ last (ap (λ n. take n c.convert_more.new.window) (round.all c.if-round.false last))
    (round.so_far _ _ _ c.loop.invariant.so_far)

pub returns-then-round-2-clause-end : goal.returns-then-round-2-clause-end
returns-then-round-2-clause-end g c =
    let so_far = c.in-Ok.ensures.ok.so_far _ _ _ c.loop.invariant.so_far in
    so_far.ends c.if-round-2.true

pub loop-preserved : goal.loop-preserved
loop-preserved g c =
    let round = c.in-Ok.ensures.ok in
    record {
      unread_fits = round.left_fits;
      so_far = rw c.if-round-2.false at (round.so_far _ _ _ c.loop.invariant.so_far);
    }
