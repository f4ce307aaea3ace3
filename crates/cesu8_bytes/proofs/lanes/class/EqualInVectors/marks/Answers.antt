-- A lane is marked if its byte equals `BYTE`, which is the only byte of the class.
use Rattle.cesu8_bytes.proofs.lists.Classes.{equal_marks}
use Rattle.cesu8_bytes.proofs.lanes.class.EqualInVectors.marks.Goals as goal

pub returns : goal.returns
returns g c = equal_marks g.row.BYTE g.row.N c.args.bytes c.fits-bytes.0
