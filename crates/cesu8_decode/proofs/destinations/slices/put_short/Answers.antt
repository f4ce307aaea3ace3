-- All bytes are decoded to the array. Then the copy to the slice returns what the contract
-- promises: the text's length, or an error with this length if it does not fit (`decoded_put`).
use Rattle.std.proofs.Common.{arith}
use Rattle.std.proofs.lemmas.List.{length-take}
use Rattle.cesu8_decode.proofs.chunks.SliceReadings.{decoded_put}
use Rattle.cesu8_decode.proofs.destinations.slices.put_short.Goals as goal

pub returns : goal.returns
returns g c =
    decoded_put g.F.Flavor.flavor g.S.Reading.which c.args.bytes.now _ c.copy_by_call.result c.map_err.result c.args.buf.now c.copy_by_call.new.buf c.in-Ok.ensures.text
    (omega (arith, length-take c.in-Ok.end c.write_short.new.out, c.write_short.auto.out, g.WRITTEN.fits)) c.map_err.ensures.cases c.copy_by_call.ensures
