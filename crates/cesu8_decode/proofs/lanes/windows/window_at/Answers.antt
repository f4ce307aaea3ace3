-- `window_of_lanes` returns the window of any bytes that equal the lanes up to `count + 5`. The 64
-- loaded bytes do (`loaded_alike`): there are five more than `count`, or zeros follow them.
use Rattle.std.proofs.Common.{arith}
use Rattle.cesu8_decode.proofs.decoder.WindowMasks.{loaded_alike}
use Rattle.cesu8_decode.proofs.lanes.windows.window_at.Goals as goal

pub returns : goal.returns
returns g c =
    let bytes = c.args.bytes.now in
    let at = c.args.at in
    let window = c.window_of_lanes.ensures bytes at (loaded_alike bytes at c.args.count c.requires.bytes c.requires.count) c.requires.boundary in
    record { window = window; count = (omega (arith, window.0.len, window.1), omega (arith, window.0.len, window.1)) }
