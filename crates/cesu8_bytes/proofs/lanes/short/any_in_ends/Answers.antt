-- Each byte is in the vector at the start or in the one at the end, because together these are at
-- least as long as the slice.
use Rattle.std.proofs.Common.{ℕ, ◌↔◌, subst, IsTrue}
use Rattle.std.specs.List.{Any}
use Rattle.cesu8_bytes.proofs.lists.Ends.{found_in_ends}
use Rattle.cesu8_bytes.proofs.lanes.short.any_in_ends.Goals as goal

pub returns : goal.returns
returns g c =
    let InClass : ℕ → Type 0 = λ b. IsTrue (g.C.Class.class b) in
    found_in_ends InClass g.row.N c.args.bytes.now c.has.result c.has-2.result c.requires.1 c.requires.2 c.has.ensures
    (subst (λ bytes. IsTrue c.has-2.result ↔ Any InClass bytes) c.end_vector-end.ensures c.has-2.ensures)
