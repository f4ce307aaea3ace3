-- The words at the offsets so far and the last eight bytes cover all bytes. A word passes the test
-- if and only if one of its bytes is in the class (`tested`).
use Rattle.std.proofs.Common.{arith, refl}
use Rattle.std.proofs.lemmas.Bool.{iff_false, true_from_ne_false}
use Rattle.cesu8_bytes.proofs.lists.Words.{tested}
use Rattle.cesu8_bytes.proofs.lists.EightElements.{of_eight, none_further, none_at_all}
use Rattle.cesu8_bytes.proofs.words.test_word_any.Goals as goal

-- The first word passes, so a byte is in the class.
pub returns-then-test : goal.returns-then-test
returns-then-test g c class short tests =
    let here = tested class c.word_at.result _ c.test.result (tests c.word_at.result c.test.result c.word_at.type_inv c.test.ensures) c.word_at.ensures in
    ((λ _. of_eight class c.args.value.now 0 (here.0 c.if-test.true)), (λ _. refl))

-- The first word fails, so none of its bytes is in the class.
pub loop-offset-init : goal.loop-offset-init
loop-offset-init g c class tests =
    let here = tested class c.word_at.result _ c.test.result (tests c.word_at.result c.test.result c.word_at.type_inv c.test.ensures) c.word_at.ensures in
    none_further class c.args.value.now 0 (omega arith) (λ i before. absurd (omega arith)) (iff_false here c.if-test.false)

-- A later word passes.
pub returns-then-test-2 : goal.returns-then-test-2
returns-then-test-2 g c class short tests =
    let here = tested class c.word_at-in-loop-offset.result _ c.test-in-loop-offset.result
    (tests c.word_at-in-loop-offset.result c.test-in-loop-offset.result c.word_at-in-loop-offset.type_inv c.test-in-loop-offset.ensures)
    c.word_at-in-loop-offset.ensures in (
      (λ _. of_eight class c.args.value.now c.loop-offset.offset (here.0 c.if-test-2.true)),
      (λ _. refl),
    )

-- A later word fails, so no byte up to its end is in the class.
pub loop-offset-preserved : goal.loop-offset-preserved
loop-offset-preserved g c class tests =
    let here = tested class c.word_at-in-loop-offset.result _ c.test-in-loop-offset.result
    (tests c.word_at-in-loop-offset.result c.test-in-loop-offset.result c.word_at-in-loop-offset.type_inv c.test-in-loop-offset.ensures)
    c.word_at-in-loop-offset.ensures in
    none_further class c.args.value.now c.loop-offset.offset (omega arith) (c.loop-offset.invariant class tests) (iff_false here c.if-test-2.false)

-- No byte before `offset` is in the class, and the last word has all bytes from there on: it
-- decides.
pub returns : goal.returns
returns g c class short tests =
    let here = tested class c.word_at-2.result _ c.test-2.result
    (tests c.word_at-2.result c.test-2.result c.word_at-2.type_inv c.test-2.ensures) c.word_at-2.ensures in (
      (λ t. of_eight class c.args.value.now _ (here.0 t)),
      (λ p. true_from_ne_false _ (λ no. none_at_all class c.args.value.now c.loop-offset.offset _ (omega arith) (omega arith)
          (c.loop-offset.invariant class tests) (iff_false here no) p)),
    )
