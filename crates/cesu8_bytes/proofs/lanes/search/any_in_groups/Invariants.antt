-- The loop returns at the first group (four chunks of 64 bytes) that has a byte of the class. So no
-- group that was tested has one.
use Rattle.std.specs.List.{Any}
use Rattle.cesu8_bytes.specs.Kernels.{AnyIn}
use Rattle.cesu8_bytes.proofs.lists.Walks.{NoneBefore}
use Rattle.cesu8_bytes.proofs.lanes.search.any_in_groups.Given as goal

abbrev pub invariant-loop-group : goal.invariant-loop-group
invariant-loop-group g l = NoneBefore (Any (AnyIn g.C.Class.class)) l.groups l.group-index
