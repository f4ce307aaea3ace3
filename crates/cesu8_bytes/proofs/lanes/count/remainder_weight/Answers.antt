-- The weights of the first vectors, of 64 bytes each, and of the next one are together those of one
-- vector more. After the loop, those of the vectors and of the bytes that are left are those of all
-- bytes. No class of `CountsOne` has a lead byte of four. So a byte weighs at most two, and the
-- sums do not overflow.
use Rattle.std.proofs.Common.{◌+◌, ◌*◌, arith}
use Rattle.std.proofs.lemmas.Grind.{common_steps}
use Rattle.std.proofs.lemmas.List.Sums.{sum_by-take-drop, sum_by-take-le}
use Rattle.cesu8_text.specs.Class.{weight_of}
use Rattle.cesu8_bytes.proofs.vectors.Counts.{weight_bound, sum_by_next}
use Rattle.cesu8_bytes.proofs.lanes.count.remainder_weight.Goals as goal

pub overflow_add-weight : goal.overflow_add-weight
overflow_add-weight g c =
    let i = c.loop-i.i in
    omega (
      arith,
      sum_by_next (weight_of g.C.Class.class) c.args.value.now (64 * i) 64,
      sum_by-take-le (weight_of g.C.Class.class) c.args.value.now (64 * i + 64),
      weight_bound g.C.Class.class g.met.C.CountsOne.at_most_two c.args.value.now,
    )

pub loop-i-preserved : goal.loop-i-preserved
loop-i-preserved g c = grind (arith, common_steps, sum_by_next (weight_of g.C.Class.class) c.args.value.now (64 * c.loop-i.i) 64)

pub overflow_add-result : goal.overflow_add-result
overflow_add-result g c =
    let whole = sum_by-take-drop (weight_of g.C.Class.class) c.args.value.now (64 * c.loop-i.i) in
    grind (arith, common_steps, whole, weight_bound g.C.Class.class g.met.C.CountsOne.at_most_two c.args.value.now)

pub returns : goal.returns
returns g c = grind (arith, common_steps, sum_by-take-drop (weight_of g.C.Class.class) c.args.value.now (64 * c.loop-i.i))
