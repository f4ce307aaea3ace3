-- The groups of four chunks and the remaining chunks are all chunks.
use Rattle.cesu8_bytes.specs.Kernels.{AnyIn}
use Rattle.cesu8_bytes.proofs.lists.Chunks.{found_in_chunks, left_by_chunks}
use Rattle.cesu8_bytes.proofs.lanes.search.any_in_chunks.Goals as goal

pub returns-then-any_in_groups : goal.returns-then-any_in_groups
returns-then-any_in_groups g c =
    let found = found_in_chunks (AnyIn g.C.Class.class) 4 c.args.chunks.now _ _ c.any_in_groups.result c.as_chunks.ensures.front
    c.as_chunks.ensures.back c.any_in_groups.ensures c.if-any_in_groups.true in
    ((λ _. found), (λ _. c.if-any_in_groups.true))

pub returns-else-any_in_groups : goal.returns-else-any_in_groups
returns-else-any_in_groups g c =
    let left = left_by_chunks (AnyIn g.C.Class.class) 4 c.args.chunks.now _ _ c.any_in_groups.result c.as_chunks.ensures.front
    c.as_chunks.ensures.back c.any_in_groups.ensures c.if-any_in_groups.false in
    ((λ t. left.0 (c.any_in_each.ensures.0 t)), (λ p. c.any_in_each.ensures.1 (left.1 p)))
