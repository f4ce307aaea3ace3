-- The loop's invariant holds before the first event, after a run of ill-formed bytes, and after a
-- character that needs conversion. When no event is left, the rest of the window is copied.
use Rattle.std.proofs.Common.{◌+◌, ◌∙◌, sym, arith}
use Rattle.std.specs.Int.{trailing_zeros, w64}
use Rattle.cesu8_decode.proofs.decoder.Events.{none_read, next_low, next_inside, event_room, pair_marked, run_room, run_read, changed_read, rest_copied, bit_tested}
use Rattle.cesu8_decode.proofs.decoder.WindowEnds.{null_set}
use Rattle.cesu8_decode.proofs.by_offset.CharacterBoundaries.{width_bounds}
use Rattle.cesu8_decode.proofs.pass.events.write_in_turn.Goals as goal

pub loop-events-init : goal.loop-events-init
loop-events-init g c = none_read c.args.end c.args.out.now c.requires.window

pub overflow_sub-next : goal.overflow_sub-next
overflow_sub-next g c =
    let loop = c.loop-events in
    next_low loop.invariant (omega (arith, c.loop-events-test.true)) loop.auto.events-fits.fits

pub copy_between-copied-requires-clause-count : goal.copy_between-copied-requires-clause-count
copy_between-copied-requires-clause-count g c =
    let loop = c.loop-events in
    omega (arith, c.requires.window.few, next_inside loop.invariant (omega (arith, c.loop-events-test.true)) loop.auto.events-fits.fits)

pub put_replacements-requires-clause-room : goal.put_replacements-requires-clause-room
put_replacements-requires-clause-room g c =
    let loop = c.loop-events in
    let room = run_room loop.invariant (omega (arith, c.loop-events-test.true)) loop.auto.events-fits.fits
    c.copy_between-copied.result 0 c.copy_between-copied.new.out c.copy_between-copied.new.out c.copy_between-copied.ensures
    c.trailing_ones-run.result (omega (arith, c.if-run-ne0.true)) c.trailing_ones-run.ensures in
    omega (arith, room, c.requires.room, c.copy_between-copied.ensures.len, loop.invariant.text.len)

pub write_changed-len-requires-clause-bytes : goal.write_changed-len-requires-clause-bytes
write_changed-len-requires-clause-bytes g c =
    let loop = c.loop-events in
    omega (arith, c.requires.window.after, next_inside loop.invariant (omega (arith, c.loop-events-test.true)) loop.auto.events-fits.fits)

pub write_changed-len-requires-clause-null : goal.write_changed-len-requires-clause-null
write_changed-len-requires-clause-null g c =
    λ set. (null_set c.requires.window.is_window _ ((bit_tested c.args.window.nulls _).0 set)).1

pub write_changed-len-requires-clause-pair : goal.write_changed-len-requires-clause-pair
write_changed-len-requires-clause-pair g c =
    let loop = c.loop-events in
    λ other. pair_marked loop.invariant (omega (arith, c.loop-events-test.true)) loop.auto.events-fits.fits
    (sym c.trailing_ones-run.ensures ∙ omega (arith, c.if-run-ne0.false)) ((bit_tested c.args.window.nulls _).1 other)

pub write_changed-len-requires-clause-room : goal.write_changed-len-requires-clause-room
write_changed-len-requires-clause-room g c =
    let loop = c.loop-events in
    let room = event_room loop.invariant (omega (arith, c.loop-events-test.true)) loop.auto.events-fits.fits
    c.copy_between-copied.result 0 c.copy_between-copied.new.out c.copy_between-copied.new.out c.copy_between-copied.ensures in
    omega (arith, c.requires.room, room, c.copy_between-copied.ensures.len, loop.invariant.text.len)

pub overflow_add-read-else-run-ne0 : goal.overflow_add-read-else-run-ne0
overflow_add-read-else-run-ne0 g c =
    let loop = c.loop-events in
    let inside = next_inside loop.invariant (omega (arith, c.loop-events-test.true)) loop.auto.events-fits.fits in
    let width = width_bounds g.F.Flavor.flavor c.args.bytes.now (c.args.at + trailing_zeros w64 loop.events) in
    record { fits = omega (arith, inside, c.requires.window.is_window.fits, c.write_changed-len.ensures.width.0, width) }

pub loop-events-preserved-then-run-ne0 : goal.loop-events-preserved-then-run-ne0
loop-events-preserved-then-run-ne0 g c =
    let loop = c.loop-events in
    run_read loop.invariant (omega (arith, c.loop-events-test.true)) loop.auto.events-fits.fits
    c.copy_between-copied.result c.put_replacements.result c.copy_between-copied.new.out c.put_replacements.new.out c.copy_between-copied.ensures
    c.trailing_ones-run.result (omega (arith, c.if-run-ne0.true)) c.trailing_ones-run.ensures c.put_replacements.ensures

pub loop-events-preserved : goal.loop-events-preserved
loop-events-preserved g c =
    let loop = c.loop-events in
    let changed = c.write_changed-len in
    changed_read loop.invariant (omega (arith, c.loop-events-test.true)) loop.auto.events-fits.fits
    c.copy_between-copied.result changed.result.1 c.copy_between-copied.new.out changed.new.out c.copy_between-copied.ensures
    changed.result.0 changed.ensures.width.1 changed.ensures.width.0 changed.ensures.written

pub returns : goal.returns
returns g c =
    rest_copied c.loop-events.invariant c.copy_between.result c.copy_between.new.out
    c.loop-events-test.false c.copy_between.ensures
