-- Each width reports a byte that it found, or leaves a rest that decides. The last rest is empty,
-- or a single byte that `fallback` tests.
use Rattle.std.proofs.Common.{◌≡◌, ◌↔◌, not, length, refl, sym, ap, ◌∙◌, arith, eqb-true, IsTrue, true}
use Rattle.std.proofs.lemmas.Bool.{eqb-false}
use mathlib.Core.Logic.Iff.{trans}
use Rattle.cesu8_bytes.proofs.lists.Chunks.{found_in_chunks, left_by_chunks, nothing_left}
use Rattle.cesu8_bytes.proofs.lanes.widths.any_by_widths.Goals as goal
use Rattle.cesu8_bytes.proofs.lanes.widths.any_by_widths.Goals.{then-not-is_empty, else-not-is_empty}

-- If the rest decides and has such a byte, the result `true` is right.
found : {Rest All : Type 0} → Rest ↔ All → Rest → IsTrue true ↔ All
found decides some = ((λ _. decides.0 some), (λ _. refl))

pub returns-then-any_in_chunks : goal.returns-then-any_in_chunks
returns-then-any_in_chunks g c _ =
    let some = found_in_chunks (λ b. IsTrue (g.C.Class.class b)) 64 c.args.value.now _ _ c.any_in_chunks.result c.as_chunks.ensures.front
    c.as_chunks.ensures.back c.any_in_chunks.ensures c.if-any_in_chunks.true in
    ((λ _. some), (λ _. refl))

-- In this goal and the next four, a width finds a byte: 32, then 16, 8, 4 and 2.
pub returns-in_default : goal.returns-in_default
returns-in_default g c _ =
    let whole = left_by_chunks (λ b. IsTrue (g.C.Class.class b)) 64 c.args.value.now _ _ c.any_in_chunks.result c.as_chunks.ensures.front
    c.as_chunks.ensures.back c.any_in_chunks.ensures c.if-any_in_chunks.false in
    found whole c.in_default.ensures.found

pub returns-in_default-left_by : goal.returns-in_default-left_by
returns-in_default-left_by g c _ =
    let whole = left_by_chunks (λ b. IsTrue (g.C.Class.class b)) 64 c.args.value.now _ _ c.any_in_chunks.result c.as_chunks.ensures.front
    c.as_chunks.ensures.back c.any_in_chunks.ensures c.if-any_in_chunks.false in
    found (trans c.in-Some.ensures.left.1 whole) c.in_default-left_by.ensures.found

pub returns-in_default-left_by-2 : goal.returns-in_default-left_by-2
returns-in_default-left_by-2 g c _ =
    let whole = left_by_chunks (λ b. IsTrue (g.C.Class.class b)) 64 c.args.value.now _ _ c.any_in_chunks.result c.as_chunks.ensures.front
    c.as_chunks.ensures.back c.any_in_chunks.ensures c.if-any_in_chunks.false in
    found (trans c.in-Some-left_by.ensures.left.1 (trans c.in-Some.ensures.left.1 whole)) c.in_default-left_by-2.ensures.found

pub returns-in_default-left_by-3 : goal.returns-in_default-left_by-3
returns-in_default-left_by-3 g c _ =
    let whole = left_by_chunks (λ b. IsTrue (g.C.Class.class b)) 64 c.args.value.now _ _ c.any_in_chunks.result c.as_chunks.ensures.front
    c.as_chunks.ensures.back c.any_in_chunks.ensures c.if-any_in_chunks.false in
    found (trans c.in-Some-left_by-2.ensures.left.1 (trans c.in-Some-left_by.ensures.left.1 (trans c.in-Some.ensures.left.1 whole))) c.in_default-left_by-3.ensures.found

pub returns-in_default-left_by-4 : goal.returns-in_default-left_by-4
returns-in_default-left_by-4 g c _ =
    let whole = left_by_chunks (λ b. IsTrue (g.C.Class.class b)) 64 c.args.value.now _ _ c.any_in_chunks.result c.as_chunks.ensures.front
    c.as_chunks.ensures.back c.any_in_chunks.ensures c.if-any_in_chunks.false in
    found (trans c.in-Some-left_by-3.ensures.left.1 (trans c.in-Some-left_by-2.ensures.left.1 (trans c.in-Some-left_by.ensures.left.1 (trans c.in-Some.ensures.left.1 whole)))) c.in_default-left_by-4.ensures.found

pub returns : goal.returns
returns g c finds =
    let whole = left_by_chunks (λ b. IsTrue (g.C.Class.class b)) 64 c.args.value.now _ _ c.any_in_chunks.result c.as_chunks.ensures.front
    c.as_chunks.ensures.back c.any_in_chunks.ensures c.if-any_in_chunks.false in
    let left = trans c.in-Some-left_by.ensures.left.1 (trans c.in-Some.ensures.left.1 whole) in
    let last = trans c.in-Some-left_by-4.ensures.left.1 (trans c.in-Some-left_by-3.ensures.left.1 c.in-Some-left_by-2.ensures.left.1) in
    let rest = c.in-Some-left_by-4.rest in
    elim c.if-not-is_empty.branch [
      | then-not-is_empty w ↦ (
          let some = eqb-false _ _ (sym c.is_empty.ensures ∙ w.if-not-is_empty.true) in
          let one : length rest.now ≡ 1 = omega (arith, c.in-Some-left_by-4.ensures.left.0, some) in
          rw w.result-is (trans (finds rest w.fallback.result one w.fallback.ensures) (trans last left)))
      | else-not-is_empty w ↦ (
          let none = eqb-true _ _ (sym c.is_empty.ensures ∙ w.if-not-is_empty.false) in
          rw (w.result-is ∙ ap not w.if-not-is_empty.false)
          (trans (nothing_left (λ b. IsTrue (g.C.Class.class b)) rest.now none) (trans last left)))
    ]
