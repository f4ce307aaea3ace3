-- Each round writes the text of those of its 32 bytes that are in the window. Of the bytes after
-- the window, up to the 64th, none is left out, so one byte is stored for each. The function
-- subtracts their number from the end.
use Rattle.std.proofs.Common.{arith, refl}
use Rattle.cesu8_decode.proofs.decoder.PackedLanes.{none_stored, stored_most, stored_after, stored_text}
use Rattle.cesu8_decode.proofs.decoder.EventsPacked.{nulls_packed, block_stored}
use Rattle.cesu8_decode.proofs.pass.events.dense_nulls.write_nulls.Goals as goal

pub loop-written-init : goal.loop-written-init
loop-written-init g c = none_stored 32 c.args.end c.args.out.now (nulls_packed c.requires.window c.requires.nulls.0 c.requires.nulls.1) refl

-- At most one byte was stored for each of the first `written`, so there is space for the next ones.
pub store_kept-end-requires : goal.store_kept-end-requires
store_kept-end-requires g c =
    let stored = c.loop-written.invariant in
    omega (arith, stored_most stored, stored.text.len, c.requires.room, stored.whole, c.loop-written-test.true, c.requires.window.is_window.fits)

pub overflow_sub-result-2 : goal.overflow_sub-result-2
overflow_sub-result-2 g c = stored_after c.loop-written.invariant (omega (arith, c.loop-written-test.false, c.requires.window.is_window.fits))

pub loop-written-preserved : goal.loop-written-preserved
loop-written-preserved g c =
    let stored = c.loop-written.invariant in
    block_stored c.requires.window c.requires.nulls.0 c.requires.nulls.1 c.loop-written.written c.args.end c.loop-written.end _ c.zeroed.result _ _ _
    (omega (arith, stored.whole, c.loop-written-test.true)) c.zeroed.ensures stored c.store_kept-end.ensures

pub returns : goal.returns
returns g c =
    stored_text c.loop-written.invariant (omega (arith, c.loop-written-test.false, c.requires.window.is_window.fits)) (omega (arith, c.requires.room))
