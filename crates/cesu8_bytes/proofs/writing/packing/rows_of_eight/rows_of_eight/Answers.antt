-- Each of the 256 rows is compared with its definition by computation (`rows_by`).
use Rattle.std.proofs.Common.{refl}
use Rattle.cesu8_bytes.specs.Packing.{shuffle_of_eight}
use Rattle.cesu8_bytes.specs.declared.writing.packing.rows_of_eight.TheConstants.{ROWS}
use Rattle.cesu8_bytes.proofs.vectors.Tables.{same_list, same_rows, rows_by}
use Rattle.cesu8_bytes.proofs.writing.packing.rows_of_eight.rows_of_eight.Goals as goal

pub returns : goal.returns
unfolding same_list same_rows
returns c = rows_by ROWS shuffle_of_eight refl
