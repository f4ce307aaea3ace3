-- If a lane of one of the four vectors is at least the number, so is that lane of their maximum.
use Rattle.cesu8_bytes.proofs.lists.Lanes.{least_in_greatest}
use Rattle.cesu8_bytes.proofs.lanes.groups.AtLeastInGroups.may_have.Goals as goal

pub returns : goal.returns
returns g c some =
    c.has.ensures.1 (least_in_greatest g.row.BYTE 64 c.args.a c.args.b c.args.c c.args.d c.fits-a.0 c.fits-b.0 c.fits-c.0 c.fits-d.0 some)
