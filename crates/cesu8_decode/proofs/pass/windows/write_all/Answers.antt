-- The buffer has space for the text of all bytes, so a pass that rejects none reads them all, and
-- has then written their text.
use Rattle.std.proofs.Common.{[], refl, arith}
use Rattle.cesu8_decode.specs.DecodedOffsets.{window_of}
use Rattle.cesu8_decode.proofs.decoder.WrittenWindows.{none_decoded}
use Rattle.cesu8_decode.proofs.decoder.Passes.{reads_on, writes_reading}
use Rattle.cesu8_decode.proofs.pass.windows.write_all.Goals as goal

pub returns : goal.returns
returns g c =
    let f = g.F.Flavor.flavor in
    let which = g.S.Reading.which in
    let bytes = c.args.bytes.now in
    let pass = rw c.strictness.ensures at c.write_windows-pass.ensures in
    writes_reading f which bytes _ _ _ _ _
    (reads_on f which bytes _ _ _ _ [] [] _ pass.more refl refl (none_decoded f which (window_of bytes) []))
    pass.more.within.1 (pass.all refl c.requires) (omega (arith, pass.more.end)) pass.more.len _ c.unless_rejected.ensures
