-- Three comparisons mark the bytes below 80 and those from C0 up to below F0 (hexadecimal), with
-- which the characters of one UTF-16 code unit begin.
use Rattle.cesu8_bytes.proofs.lists.Classes.{range_marks}
use Rattle.cesu8_bytes.proofs.lanes.class.OneUnitInVectors.marks.Goals as goal

pub returns : goal.returns
returns g c = range_marks 0x80 0xC0 0xF0 g.row.N c.args.bytes c.fits-bytes.0
