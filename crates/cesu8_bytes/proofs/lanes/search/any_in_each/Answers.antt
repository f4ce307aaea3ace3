-- The chunk that was just tested has no byte of the class, so no chunk up to it has one.
use Rattle.std.proofs.Common.{sym, subst}
use Rattle.std.proofs.lemmas.Bool.{iff_false}
use Rattle.cesu8_bytes.specs.Kernels.{AnyIn}
use Rattle.cesu8_bytes.proofs.lists.Walks.{none_with_next}
use Rattle.cesu8_bytes.proofs.lanes.search.any_in_each.Goals as goal

pub loop-chunk-preserved : goal.loop-chunk-preserved
loop-chunk-preserved g c =
    none_with_next (AnyIn g.C.Class.class) c.args.chunks.now c.loop-chunk.chunk-index c.chunk-item.result c.loop-chunk-test.true
    c.loop-chunk.invariant (λ some. iff_false c.has.ensures c.if-has.false (subst (AnyIn g.C.Class.class) (sym c.chunk-item.is) some))
