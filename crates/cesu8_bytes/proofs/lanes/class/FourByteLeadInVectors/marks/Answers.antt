-- A byte is F0 to F7 (hexadecimal) if and only if its upper five bits are those of F0
-- (`four_by_bits`).
use Rattle.cesu8_text.specs.Class.{is_four}
use Rattle.cesu8_bytes.proofs.lists.Classes.{four_by_bits, masked_marks}
use Rattle.cesu8_bytes.proofs.lanes.class.FourByteLeadInVectors.marks.Goals as goal

pub returns : goal.returns
returns g c = masked_marks is_four 0xF8 0xF0 four_by_bits g.row.N c.args.bytes c.fits-bytes.0 c.fits-bytes.1
