-- The first `N` bytes and the rest in the last `N` are all bytes. No class of `CountsOne` has a
-- lead byte of four. So a byte weighs at most two, and the sum for at most 64 bytes fits `usize`.
use Rattle.std.proofs.Common.{arith}
use Rattle.std.proofs.lemmas.Grind.{common_steps}
use Rattle.std.proofs.lemmas.List.Sums.{sum_by-take-drop}
use Rattle.cesu8_text.specs.Class.{weight_of}
use Rattle.cesu8_bytes.proofs.vectors.Counts.{weight_bound}
use Rattle.cesu8_bytes.proofs.lanes.count.pair_weight.Goals as goal

pub overflow_add-result : goal.overflow_add-result
overflow_add-result g c =
    let whole = sum_by-take-drop (weight_of g.C.Class.class) c.args.value.now g.row.N in
    grind (arith, common_steps, whole, weight_bound g.C.Class.class g.met.C.CountsOne.at_most_two c.args.value.now)

pub returns : goal.returns
returns g c = grind (arith, common_steps, sum_by-take-drop (weight_of g.C.Class.class) c.args.value.now g.row.N)
