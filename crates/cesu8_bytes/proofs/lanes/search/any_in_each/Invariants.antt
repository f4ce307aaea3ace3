-- No chunk that was tested has a byte of the class.
use Rattle.cesu8_bytes.specs.Kernels.{AnyIn}
use Rattle.cesu8_bytes.proofs.lists.Walks.{NoneBefore}
use Rattle.cesu8_bytes.proofs.lanes.search.any_in_each.Given as goal

abbrev pub invariant-loop-chunk : goal.invariant-loop-chunk
invariant-loop-chunk g l = NoneBefore (AnyIn g.C.Class.class) l.chunks l.chunk-index
