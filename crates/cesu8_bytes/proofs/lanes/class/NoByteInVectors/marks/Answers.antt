-- No lane is marked, and no byte is in the class.
use Rattle.cesu8_bytes.proofs.lists.Classes.{no_marks}
use Rattle.cesu8_bytes.proofs.lanes.class.NoByteInVectors.marks.Goals as goal

pub returns : goal.returns
returns g c = no_marks g.row.N c.args.bytes c.fits-bytes.0
