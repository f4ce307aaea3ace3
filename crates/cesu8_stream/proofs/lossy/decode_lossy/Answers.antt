-- A step is a strict call, and U+FFFD for the byte at which it stopped if that is damage. Two steps
-- in a row are one (`read_on`). In each answer `facts` are the laws of the encoding,
-- and `found` is what holds after the strict call of the round (`found_by`).
use Rattle.std.proofs.Common.{sym, ◌∙◌, refl, arith}
use Rattle.cesu8_stream.proofs.Joined.{written_fits, both_fit}
use Rattle.cesu8_stream.proofs.LossyWindows.{read_whatever}
use Rattle.cesu8_stream.proofs.LossyReadings.{IsReading, found_by, stopped, filled, replaces}
use Rattle.cesu8_stream.proofs.lossy.decode_lossy.Goals as goal

-- Before the first round, `decode_windows` has read whole windows, whatever follows them.
pub loop-found-init : goal.loop-found-init
loop-found-init g c =
    let first = c.decode_windows-first in
    record {
      within = first.ensures.within;
      reads = read_whatever g.C.Decoding.reading c.args.is_last c.args.bytes.now c.args.buf.now first.new.buf first.result.read
          first.result.written first.ensures.reads;
    }

-- What was written so far fits in the buffer, and so does what the strict call writes.
pub slice_bounds-convert_rest-count-in-loop-found : goal.slice_bounds-convert_rest-count-in-loop-found
slice_bounds-convert_rest-count-in-loop-found g c = written_fits _ _ _ _ c.loop-found.invariant.reads.2

pub overflow_add-written : goal.overflow_add-written
overflow_add-written g c =
    let loop = c.loop-found in
    let call = c.convert_rest-found in
    omega (arith, both_fit _ _ _ _ _ _ _ loop.invariant.reads.2 call.auto.buf call.ensures.text.2)

-- The strict call stopped for another reason than damage, which its state says.
pub returns-then-not-is_damage : goal.returns-then-not-is_damage
returns-then-not-is_damage g c =
    let laws = c.lossy_laws.ensures in
    let facts : IsReading g.C.Conversion.from g.C.Conversion.to g.C.Decoding.reading =
    record { to_utf8 = laws.to_utf8; text = laws.text; damage = laws.damage } in
    let loop = c.loop-found in
    let call = c.convert_rest-found in
    let found = found_by _ _ _ g.C.Conversion.widest c.args.is_last c.args.bytes.now c.args.buf.now loop.buf call.new.buf loop.read
    loop.written call.result facts loop.invariant.within (loop.auto.buf ∙ c.decode_windows-first.auto.buf) loop.invariant.reads
    call.auto.buf call.ensures in
    stopped _ _ _ _ _ _ _ _ _ found (sym c.is_damage.ensures ∙ c.if-not-is_damage.true)

-- The next byte is damage, and the buffer has no space for U+FFFD.
pub returns-then-not-put_replacement : goal.returns-then-not-put_replacement
returns-then-not-put_replacement g c =
    let laws = c.lossy_laws.ensures in
    let facts : IsReading g.C.Conversion.from g.C.Conversion.to g.C.Decoding.reading =
    record { to_utf8 = laws.to_utf8; text = laws.text; damage = laws.damage } in
    let loop = c.loop-found in
    let call = c.convert_rest-found in
    let found = found_by _ _ _ g.C.Conversion.widest c.args.is_last c.args.bytes.now c.args.buf.now loop.buf call.new.buf loop.read
    loop.written call.result facts loop.invariant.within (loop.auto.buf ∙ c.decode_windows-first.auto.buf) loop.invariant.reads
    call.auto.buf call.ensures in
    filled _ _ _ _ _ _ c.put_replacement.new.buf _ _ _ found (sym c.is_damage.ensures ∙ c.if-not-is_damage.false)
    (c.if-not-put_replacement.ensures.full refl) (c.if-not-put_replacement.ensures.unchanged refl)

-- The next byte was replaced by U+FFFD.
pub loop-found-preserved : goal.loop-found-preserved
loop-found-preserved g c =
    let laws = c.lossy_laws.ensures in
    let facts : IsReading g.C.Conversion.from g.C.Conversion.to g.C.Decoding.reading =
    record { to_utf8 = laws.to_utf8; text = laws.text; damage = laws.damage } in
    let loop = c.loop-found in
    let call = c.convert_rest-found in
    let found = found_by _ _ _ g.C.Conversion.widest c.args.is_last c.args.bytes.now c.args.buf.now loop.buf call.new.buf loop.read
    loop.written call.result facts loop.invariant.within (loop.auto.buf ∙ c.decode_windows-first.auto.buf) loop.invariant.reads
    call.auto.buf call.ensures in
    let done = replaces _ _ _ _ _ _ _ c.put_replacement.new.buf _ _ _ facts found (sym c.is_damage.ensures ∙ c.if-not-is_damage.false)
    (c.if-not-put_replacement.ensures.written refl) in
    record { within = done.0; reads = done.1 }
