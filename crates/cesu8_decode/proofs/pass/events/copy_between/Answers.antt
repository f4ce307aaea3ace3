-- The store writes the `WIDTH` bytes from the offset on, so the first `count` of them are the copy.
-- What is written ends after these.
use Rattle.std.proofs.Common.{arith}
use Rattle.cesu8_decode.proofs.decoder.WindowReturns.{first_copied}
use Rattle.cesu8_decode.proofs.pass.events.copy_between.Goals as goal

pub returns : goal.returns
returns g c =
    first_copied g.row.WIDTH c.args.count c.args.at c.args.end _ _ c.args.bytes.now c.args.out.now _ (omega arith) c.put_lanes.ensures.writes c.requires.count
    c.requires.bytes (omega (arith, c.requires.room))
