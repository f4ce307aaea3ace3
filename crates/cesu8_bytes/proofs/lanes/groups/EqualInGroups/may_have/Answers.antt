-- For the byte 00: if a lane of one of the four vectors is 00, so is that lane of their minimum.
use Rattle.std.proofs.Common.{arith}
use Rattle.cesu8_bytes.proofs.lists.Lanes.{null_in_least}
use Rattle.cesu8_bytes.proofs.lanes.groups.EqualInGroups.may_have.Goals as goal

pub returns-else-this-ne0 : goal.returns-else-this-ne0
returns-else-this-ne0 g c some =
    c.has.ensures.1 (null_in_least g.row.BYTE 64 c.args.a c.args.b c.args.c c.args.d (omega arith) c.fits-a.0 c.fits-b.0 c.fits-c.0
    c.fits-d.0 some)
