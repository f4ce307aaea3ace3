-- The weights of `dot4` are all 1, so each of the 16 dot products sums four of the 64 lanes, and
-- their sum is that of all lanes. No partial sum overflows 32 bits. The goal `dot4` is that no
-- weight or pair of products is too large for the instruction.
use Rattle.std.proofs.Common.{arith}
use Rattle.std.proofs.lemmas.Simd.{dot4_Fits}
use Rattle.cesu8_bytes.proofs.vectors.Counts.{dots_sum_fits, dots_sum}
use Rattle.cesu8_bytes.proofs.lanes.count.lane_sum.Goals as goal

pub dot4 : goal.dot4
dot4 c = (dot4_Fits c.args.lanes _ c.fits-lanes.1 tt, tt)

pub overflow_add-result : goal.overflow_add-result
overflow_add-result c = dots_sum_fits 16 (omega arith) c.args.lanes c.fits-lanes.0 c.fits-lanes.1

pub returns : goal.returns
returns c = dots_sum 16 (omega arith) c.args.lanes c.fits-lanes.0 c.fits-lanes.1
