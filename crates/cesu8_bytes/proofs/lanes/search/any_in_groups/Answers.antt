-- The group that was just tested has no byte of the class, so no group up to it has one.
use Rattle.std.proofs.Common.{[]}
use Rattle.std.specs.List.{Any}
use Rattle.std.proofs.lemmas.Bool.{iff_false}
use Rattle.cesu8_bytes.specs.Kernels.{AnyIn}
use Rattle.cesu8_bytes.proofs.lists.Walks.{none_with_next}
use Rattle.cesu8_bytes.proofs.lanes.search.any_in_groups.Goals as goal

pub loop-group-preserved : goal.loop-group-preserved
loop-group-preserved g c =
    none_with_next (Any (AnyIn g.C.Class.class)) c.args.groups.now c.loop-group.group-index [] c.loop-group-test.true c.loop-group.invariant
    (iff_false c.any_in_group.ensures c.if-any_in_group.false)
