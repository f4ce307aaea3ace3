-- The weight so far and that of the bytes not yet read sum to the weight of all bytes.
use Rattle.std.proofs.Common.{◌≡◌, ◌+◌, length, sum_by}
use Rattle.cesu8_text.specs.Class.{weight_of}
use Rattle.cesu8_bytes.proofs.lanes.count.long_weight.Given as goal

abbrev pub invariant-loop-block : goal.invariant-loop-block
invariant-loop-block g l = l.weight + sum_by (weight_of g.C.Class.class) l.rest ≡ sum_by (weight_of g.C.Class.class) l.fn.value

abbrev pub decreases-loop-block : goal.decreases-loop-block
decreases-loop-block g l = length l.rest
