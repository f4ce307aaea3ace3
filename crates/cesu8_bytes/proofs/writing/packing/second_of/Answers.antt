-- The result is the upper half of the vector, lanes 8 to 15, twice.
use Rattle.std.proofs.Common.{arith, ◌++◌}
use Rattle.cesu8_bytes.proofs.vectors.Rows.{lanes_of_first}
use Rattle.cesu8_bytes.proofs.writing.packing.second_of.Goals as goal

pub returns : goal.returns
returns c =
    let half = lanes_of_first c.args.lanes c.args.lanes 8 8 (omega arith) in
    λ i. half i ++ half i
