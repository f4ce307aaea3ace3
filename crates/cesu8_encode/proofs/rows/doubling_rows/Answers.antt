-- Each of the 256 rows is compared with its definition by computation (`rows_by`).
use Rattle.std.proofs.Common.{refl}
use Rattle.cesu8_encode.specs.EncodedOffsets.{shuffle_of}
use Rattle.cesu8_encode.specs.declared.rows.TheConstants.{ROWS}
use Rattle.cesu8_bytes.proofs.vectors.Tables.{same_list, same_rows, rows_by}
use Rattle.cesu8_encode.proofs.rows.doubling_rows.Goals as goal

pub returns : goal.returns
unfolding same_list same_rows
returns c = rows_by ROWS shuffle_of refl
