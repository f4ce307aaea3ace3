-- The weights of the blocks so far, of the next block (1,024 bytes) and of the rest are together
-- those of the whole. No class of `CountsOne` has a lead byte of four. So a byte weighs at most
-- two, and the sums do not overflow.
use Rattle.std.proofs.Common.{arith}
use Rattle.cesu8_text.specs.Class.{weight_of}
use Rattle.cesu8_bytes.proofs.vectors.Counts.{weight_bound, sum_by_chunk}
use Rattle.cesu8_bytes.proofs.lanes.count.long_weight.Goals as goal

pub overflow_add-weight : goal.overflow_add-weight
overflow_add-weight g c =
    omega (
      arith,
      sum_by_chunk (weight_of g.C.Class.class) 1024 c.loop-block.rest.now _ _ _ _ _ c.in-Some.ensures.cases.0 c.in-Some.ensures.cases.1
          c.block_weight-weight.ensures c.loop-block.invariant,
      weight_bound g.C.Class.class g.met.C.CountsOne.at_most_two c.args.value.now,
    )

pub loop-block-preserved : goal.loop-block-preserved
loop-block-preserved g c =
    sum_by_chunk (weight_of g.C.Class.class) 1024 c.loop-block.rest.now _ _ _ _ _ c.in-Some.ensures.cases.0 c.in-Some.ensures.cases.1
    c.block_weight-weight.ensures c.loop-block.invariant

pub overflow_add-result : goal.overflow_add-result
overflow_add-result g c =
    omega (arith, weight_bound g.C.Class.class g.met.C.CountsOne.at_most_two c.args.value.now)
