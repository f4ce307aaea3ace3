-- The lossy reading has three bytes for each byte, less what all offsets save
-- (`lossy_length_by_savings`), so the subtraction is not below 0.
use Rattle.std.proofs.Common.{arith}
use Rattle.cesu8_decode.proofs.by_offset.Savings.{lossy_length_by_savings}
use Rattle.cesu8_decode.proofs.lengths.lossy_len.Goals as goal

pub overflow_sub-result : goal.overflow_sub-result
overflow_sub-result g c = omega (arith, c.saved_in_block.ensures, lossy_length_by_savings g.F.Flavor.flavor c.args.bytes.now)

pub returns-then-is_one_block-clause-some : goal.returns-then-is_one_block-clause-some
returns-then-is_one_block-clause-some g c =
    omega (arith, c.saved_in_block.ensures, lossy_length_by_savings g.F.Flavor.flavor c.args.bytes.now)
