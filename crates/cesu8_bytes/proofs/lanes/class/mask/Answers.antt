-- Each lane selects FF if it is marked, and 00 otherwise.
use Rattle.cesu8_bytes.proofs.lists.Classes.{chosen_by_marks}
use Rattle.cesu8_bytes.proofs.lanes.class.mask.Goals as goal

pub returns : goal.returns
returns g c = chosen_by_marks g.C.Class.class 32 0xFF 0 c.args.bytes _ c.marks.ensures c.fits-bytes.0
