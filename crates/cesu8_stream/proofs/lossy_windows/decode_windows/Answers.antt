-- The strict call at the start is a step, and the windows after it are another (`read_on`).
use Rattle.std.proofs.Common.{false, arith}
use Rattle.std.proofs.lemmas.List.{take_rest}
use Rattle.cesu8_stream.proofs.Joined.{written_fits, both_fit}
use Rattle.cesu8_stream.proofs.Pieces.{to_end}
use Rattle.cesu8_stream.proofs.LossyReadings.{IsReading, converted_on, read_on}
use Rattle.cesu8_stream.proofs.lossy_windows.decode_windows.Goals as goal

-- What the first call wrote fits in the buffer, and so does what the second one writes.
pub slice_bounds-decode_rest_by_windows-count-2 : goal.slice_bounds-decode_rest_by_windows-count-2
slice_bounds-decode_rest_by_windows-count-2 g c = written_fits _ _ _ _ c.convert_window-first.ensures.moves.2

pub overflow_add-result-2 : goal.overflow_add-result-2
overflow_add-result-2 g c =
    let first = c.convert_window-first in
    let rest = c.decode_rest_by_windows-rest in
    omega (arith, both_fit _ _ _ _ _ _ _ first.ensures.moves.2 rest.auto.buf rest.ensures.reads.2)

pub returns-clause-reads : goal.returns-clause-reads
returns-clause-reads g c =
    let from = g.C.Conversion.from in
    let to = g.C.Conversion.to in
    let reading = g.C.Decoding.reading in
    let laws = c.lossy_laws.ensures in
    let facts : IsReading from to reading = record { to_utf8 = laws.to_utf8; text = laws.text; damage = laws.damage } in
    let bytes = c.args.bytes.now in
    let old = c.args.buf.now in
    let first = c.convert_window-first in
    let rest = c.decode_rest_by_windows-rest in
    rw (to_end first.result.written first.new.buf rest.new.buf)
    (read_on reading false bytes old first.new.buf rest.new.buf first.result.read first.result.written rest.result.read
    rest.result.written
    (converted_on from to reading false bytes old first.new.buf first.result.read first.result.written facts first.ensures.moves)
    (rw (take_rest, take_rest) at rest.ensures.reads))
