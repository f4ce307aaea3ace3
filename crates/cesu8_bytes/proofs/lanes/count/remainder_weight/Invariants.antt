-- The weight so far is that of the first `i` vectors.
use Rattle.std.proofs.Common.{◌≡◌, ◌*◌, take, sum_by}
use Rattle.cesu8_text.specs.Class.{weight_of}
use Rattle.cesu8_bytes.proofs.lanes.count.remainder_weight.Given as goal

abbrev pub invariant-loop-i : goal.invariant-loop-i
invariant-loop-i g l = l.weight ≡ sum_by (weight_of g.C.Class.class) (take (64 * l.i) l.value)
