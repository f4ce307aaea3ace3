-- The whole chunks and the rest are all bytes.
use Rattle.std.proofs.Common.{IsTrue, arith}
use Rattle.cesu8_bytes.proofs.lists.Chunks.{found_in_chunks, left_by_chunks}
use Rattle.cesu8_bytes.proofs.lanes.widths.left_by.Goals as goal

pub returns-then-any_in_each-clause-found : goal.returns-then-any_in_each-clause-found
returns-then-any_in_each-clause-found g c =
    found_in_chunks (λ b. IsTrue (g.C.Class.class b)) g.row.N c.args.bytes.now _ _ _ c.as_chunks.ensures.front
    c.as_chunks.ensures.back c.any_in_each.ensures c.if-any_in_each.true

pub returns-clause-left : goal.returns-clause-left
returns-clause-left g c = (
  omega (arith, c.as_chunks.ensures.back_len, c.requires),
  left_by_chunks (λ b. IsTrue (g.C.Class.class b)) g.row.N c.args.bytes.now _ _ _ c.as_chunks.ensures.front
      c.as_chunks.ensures.back c.any_in_each.ensures c.if-any_in_each.false,
)
