-- Storing all lanes of a row writes those that it keeps, and after them bytes that do not matter.
-- The last number of a row is how many lanes it keeps, which is at most eight.
use Rattle.std.proofs.Common.{arith}
use Rattle.cesu8_bytes.proofs.vectors.Packing.{at_most_eight, end_of_row, row_written}
use Rattle.cesu8_bytes.proofs.writing.packing.store_eight.Goals as goal

pub returns-clause-kept : goal.returns-clause-kept
returns-clause-kept c =
    row_written 8 c.args.dropped 0 8 _ (c.rows_of_eight.ensures c.args.dropped c.requires.small) (at_most_eight c.args.dropped c.requires.small) (omega arith)
    c.args.lanes c.args.out.now _ c.args.at c.requires.room c.picked-packed.ensures

pub returns-clause-few : goal.returns-clause-few
returns-clause-few c =
    omega (arith, end_of_row 8 c.args.dropped 0 8 _ (c.rows_of_eight.ensures c.args.dropped c.requires.small) (at_most_eight c.args.dropped c.requires.small) (omega arith))
