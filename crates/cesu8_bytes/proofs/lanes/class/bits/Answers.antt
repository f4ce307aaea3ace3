-- Bit i of the result is lane i of the mask, so it is set if and only if byte i is in the class.
use Rattle.cesu8_bytes.proofs.lists.Classes.{bits_of_marks}
use Rattle.cesu8_bytes.proofs.lanes.class.bits.Goals as goal

pub returns : goal.returns
returns g c = bits_of_marks g.C.Class.class g.row.N c.args.bytes _ c.marks.ensures c.fits-bytes.0 c.requires
