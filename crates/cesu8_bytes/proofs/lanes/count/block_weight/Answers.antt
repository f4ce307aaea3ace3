-- After each vector the lanes have counted one vector more. A block here is 16 vectors, so a lane
-- counts at most 16, and no addition overflows a byte.
use Rattle.std.proofs.Common.{arith}
use Rattle.cesu8_text.specs.Class.{is_four}
use Rattle.cesu8_bytes.proofs.vectors.Counts.{block_counted, one_more_fits, counted_more}
use Rattle.cesu8_bytes.proofs.lanes.count.block_weight.Goals as goal

pub overflow_add-ones : goal.overflow_add-ones
overflow_add-ones g c =
    one_more_fits g.C.Class.class c.args.block.now c.loop-i.i _ _ c.loop-i.invariant.ones c.marks.ensures (omega arith) (omega arith)

pub overflow_add-fours : goal.overflow_add-fours
overflow_add-fours g c =
    one_more_fits is_four c.args.block.now c.loop-i.i _ _ c.loop-i.invariant.fours c.marks-in-loop-i.ensures (omega arith) (omega arith)

pub loop-i-preserved : goal.loop-i-preserved
loop-i-preserved g c = record {
  ones = counted_more g.C.Class.class c.args.block.now c.loop-i.i _ _ c.loop-i.invariant.ones c.marks.ensures (omega arith);
  fours = counted_more is_four c.args.block.now c.loop-i.i _ _ c.loop-i.invariant.fours c.marks-in-loop-i.ensures (omega arith);
}

pub returns : goal.returns
returns g c =
    omega (
      arith,
      block_counted g.C.Class.class c.args.block.now c.loop-i.i _ _ (omega arith)
          c.loop-i.invariant.ones c.loop-i.invariant.fours,
    )
