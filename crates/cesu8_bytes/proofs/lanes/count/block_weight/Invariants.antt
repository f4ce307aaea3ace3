-- After `i` vectors of a block (`BYTES_IN_LANES` bytes), each lane holds at most `i`, so it cannot
-- overflow, and the lanes sum to the count so far.
use Rattle.cesu8_text.specs.Class.{is_four}
use Rattle.cesu8_bytes.proofs.vectors.Counts.{HaveCounted}
use Rattle.cesu8_bytes.proofs.lanes.count.block_weight.Given as goal

abbrev pub invariant-loop-i : goal.invariant-loop-i
invariant-loop-i g l = record {
  ones : HaveCounted g.C.Class.class l.block l.i l.ones;
  fours : HaveCounted is_four l.block l.i l.fours;
}
