-- Each round writes the text of those of its 16 bytes that are in the window. For each byte after
-- the window, up to the 64th, one byte is stored. The function subtracts the number of these.
use Rattle.std.proofs.Common.{arith, refl}
use Rattle.cesu8_decode.proofs.decoder.PackedLanes.{none_stored, stored_most, stored_after, stored_text}
use Rattle.cesu8_decode.proofs.decoder.EventsPacked.{replaced_packed, half_stored}
use Rattle.cesu8_decode.proofs.pass.events.replaced.write_replaced.Goals as goal

pub loop-written-init : goal.loop-written-init
loop-written-init g c = none_stored 16 c.args.end c.args.out.now (replaced_packed c.requires.window c.requires.replaced.0 c.requires.replaced.1) refl

-- At most three bytes were stored for each of the first `written`, so the buffer has space for the
-- next.
pub store_replaced-end-requires : goal.store_replaced-end-requires
store_replaced-end-requires g c =
    let stored = c.loop-written.invariant in
    omega (arith, stored_most stored, stored.text.len, c.requires.room, stored.whole, c.loop-written-test.true, c.requires.window.is_window.fits)

pub overflow_sub-result-2 : goal.overflow_sub-result-2
overflow_sub-result-2 g c = stored_after c.loop-written.invariant (omega (arith, c.loop-written-test.false, c.requires.window.is_window.fits))

pub loop-written-preserved : goal.loop-written-preserved
loop-written-preserved g c =
    let stored = c.loop-written.invariant in
    half_stored c.requires.window c.requires.replaced.0 c.requires.replaced.1 c.loop-written.written c.args.end c.loop-written.end _ _ _ _ _
    (omega (arith, stored.whole, c.loop-written-test.true)) refl stored c.store_replaced-end.ensures

pub returns : goal.returns
returns g c =
    stored_text c.loop-written.invariant (omega (arith, c.loop-written-test.false, c.requires.window.is_window.fits)) (omega (arith, c.requires.room))
