-- Input that the mode returns unchanged is its own text, so a copy of it suffices.
use Rattle.std.proofs.Common.{arith}
use Rattle.cesu8_decode.proofs.chunks.ModeTexts.{known_texts}
use Rattle.cesu8_decode.proofs.chunks.SliceReadings.{kept_put}
use Rattle.cesu8_decode.proofs.to_slice.decode_to_slice.Goals as goal

pub returns-then-is_short_kept : goal.returns-then-is_short_kept
returns-then-is_short_kept g c =
    let f = g.F.Flavor.flavor in
    let bytes = c.args.bytes.now in
    kept_put f bytes _ _ _ (known_texts g.A.Accepts.mode f bytes) g.S.Reading.which (c.is_short_kept.ensures c.if-is_short_kept.true) c.copy_to_slice.result
    c.map_err.result c.args.buf.now c.copy_to_slice.new.buf (omega arith) c.map_err.ensures.cases c.copy_to_slice.ensures
