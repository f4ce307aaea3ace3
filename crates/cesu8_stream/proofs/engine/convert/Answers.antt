-- `convert_window`, and then `convert_rest` on the bytes that it left, are together one call
-- (`continued`).
use Rattle.std.proofs.Common.{arith}
use Rattle.std.proofs.lemmas.List.{take_rest}
use Rattle.cesu8_stream.proofs.Joined.{written_fits, both_fit}
use Rattle.cesu8_stream.proofs.First.{Sizes}
use Rattle.cesu8_stream.proofs.Pieces.{IsConversion, to_end, continued}
use Rattle.cesu8_stream.proofs.engine.convert.Goals as goal

-- What the first call wrote fits in the buffer, and so does what the second one writes.
pub slice_bounds-convert_rest-count-2 : goal.slice_bounds-convert_rest-count-2
slice_bounds-convert_rest-count-2 g c = written_fits _ _ _ _ c.convert_window-first.ensures.moves.2

pub overflow_add-result-2 : goal.overflow_add-result-2
overflow_add-result-2 g c =
    let first = c.convert_window-first in
    let rest = c.convert_rest-rest in
    omega (arith, both_fit _ _ _ _ _ _ _ first.ensures.moves.2 rest.auto.buf rest.ensures.text.2)

pub returns : goal.returns
returns g c =
    let laws = c.laws.ensures in
    let first = c.convert_window-first in
    let sizes : Sizes g.C.Conversion.from = record { some = laws.at_least_one; few = laws.at_most_six } in
    let facts : IsConversion g.C.Conversion.from g.C.Conversion.to g.C.Conversion.widest = record {
      append_from = laws.append_from;
      append_to = laws.append_to;
      from_empty = laws.from_empty;
      to_empty = laws.to_empty;
      sizes = sizes;
      wide = laws.widest;
    } in
    rw (to_end first.result.written first.new.buf c.convert_rest-rest.new.buf)
    (continued g.C.Conversion.from g.C.Conversion.to g.C.Conversion.widest c.args.bytes.now c.args.buf.now first.new.buf
    c.convert_rest-rest.new.buf first.result.read first.result.written c.convert_rest-rest.result facts
    first.ensures.within first.auto.buf first.ensures.moves (rw (take_rest, take_rest) at c.convert_rest-rest.ensures))
