-- A lane is marked by the comparison `BYTE <= byte`, which is the class.
use Rattle.cesu8_bytes.proofs.lists.Classes.{least_marks}
use Rattle.cesu8_bytes.proofs.lanes.class.AtLeastInVectors.marks.Goals as goal

pub returns : goal.returns
returns g c = least_marks g.row.BYTE g.row.N c.args.bytes c.fits-bytes.0
