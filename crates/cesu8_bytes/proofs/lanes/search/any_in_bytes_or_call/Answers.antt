-- These goals are about 129 to 256 bytes: the whole vectors and the last 64 bytes cover them all.
-- Fewer bytes are covered by two vectors, and more are searched by a call.
use Rattle.std.proofs.Common.{ℕ, subst, ◌↔◌, IsTrue, ◌-◌, ◌*◌, ◌/◌, length, arith}
use Rattle.std.specs.List.{Any}
use Rattle.cesu8_bytes.proofs.lists.Chunks.{found_in_chunks, left_by_chunks}
use Rattle.cesu8_bytes.proofs.lists.Ends.{any_drop, any_later}
use Rattle.cesu8_bytes.proofs.lanes.search.any_in_bytes_or_call.Goals as goal

pub returns-then-any_in_each : goal.returns-then-any_in_each
returns-then-any_in_each g c =
    let found = found_in_chunks (λ b. IsTrue (g.C.Class.class b)) 64 c.args.bytes.now _ _ c.any_in_each.result
    c.as_chunks.ensures.front c.as_chunks.ensures.back c.any_in_each.ensures c.if-any_in_each.true in
    ((λ _. found), (λ _. c.if-any_in_each.true))

pub returns-else-any_in_each : goal.returns-else-any_in_each
returns-else-any_in_each g c =
    let InClass : ℕ → Type 0 = λ b. IsTrue (g.C.Class.class b) in
    let bytes = c.args.bytes.now in
    let left = left_by_chunks InClass 64 bytes _ _ c.any_in_each.result
    c.as_chunks.ensures.front c.as_chunks.ensures.back c.any_in_each.ensures c.if-any_in_each.false in
    let last = subst (λ end. IsTrue c.has.result ↔ Any InClass end) c.end_vector-last.ensures c.has.ensures in (
      (λ t. any_drop InClass (length bytes - 64) bytes (last.0 t)),
      (λ any. last.1 (any_later InClass (length bytes - 64) (length bytes / 64 * 64) bytes (omega arith)
          (subst (Any InClass) c.as_chunks.ensures.back (left.1 any)))),
    )
