-- The array has the text of all bytes, so the promise follows from the copy of that text to the
-- slice.
use Rattle.std.proofs.Common.{arith}
use Rattle.std.proofs.lemmas.List.{length-take}
use Rattle.cesu8_decode.proofs.chunks.SliceReadings.{decoded_put}
use Rattle.cesu8_decode.proofs.destinations.slices.put_by_array.Goals as goal

pub returns : goal.returns
returns g c =
    decoded_put g.F.Flavor.flavor g.S.Reading.which c.args.bytes.now _ c.copy_by_call.result c.map_err.result c.args.buf.now c.copy_by_call.new.buf c.in-Ok.ensures.text
    (omega (arith, length-take c.in-Ok.end c.write_all.new.out, c.write_all.auto.out, g.WRITTEN.fits)) c.map_err.ensures.cases c.copy_by_call.ensures
