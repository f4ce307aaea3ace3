-- The bits of the mask are the tests of the lanes. So the mask is not 0 if and only if some lane
-- passes.
use Rattle.cesu8_bytes.proofs.lists.Lanes.{any_passes}
use Rattle.cesu8_bytes.proofs.lists.Classes.{bits_of_marks}
use Rattle.cesu8_bytes.proofs.lanes.class.has.Goals as goal

pub returns : goal.returns
returns g c =
    any_passes g.C.Class.class c.args.bytes _ (bits_of_marks g.C.Class.class g.row.N c.args.bytes _ c.marks.ensures c.fits-bytes.0 c.requires)
