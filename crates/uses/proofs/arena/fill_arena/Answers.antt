-- Each step writes one encoding after the others (`one_more`). If it does not fit, `missing` is the
-- length that `encode_to_slice` returns minus what is left in the arena (`next_missing`).
use Rattle.std.proofs.Common.{◌<◌, ◌∙◌, length, arith}
use Rattle.uses.proofs.FilledArena.{none_yet, one_more, next_missing}
use Rattle.uses.proofs.arena.fill_arena.Goals as goal

pub loop-count-init : goal.loop-count-init
loop-count-init c = none_yet c.args.texts.now c.args.arena.now c.args.ends.now

pub returns-in-Err-clause-next : goal.returns-in-Err-clause-next
returns-in-Err-clause-next c =
    let missing = next_missing c.concat.ensures _ c.loop-count-test.true c.loop-count.invariant
    c.loop-count.auto.arena (c.needed.ensures ∙ c.in-Err.ensures.needed)
    (λ fits. cc (c.in-Err.ensures.fits.1 fits)) in
    (c.loop-count-test.true, missing.0, missing.1)

pub loop-count-preserved : goal.loop-count-preserved
loop-count-preserved c =
    let has_end : c.loop-count.count < length c.loop-count.ends =
    omega (arith, c.requires, c.loop-count.auto.ends, c.loop-count-test.true) in
    one_more c.concat.ensures c.args.texts.now c.loop-count.count c.loop-count.used c.in-Ok.len
    c.args.arena.now c.loop-count.arena c.encode_to_slice.new.buf c.loop-count.ends _
    c.loop-count-test.true has_end c.loop-count.invariant c.in-Ok.ensures.written
