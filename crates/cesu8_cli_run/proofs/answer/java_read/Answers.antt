-- If no bytes follow the Java string, the output is right, and otherwise the error `Trailing` is.
-- The prover proves these goals by itself. But if an edit of must-fail makes one of them false, the
-- prover's search meets a limit instead of showing that.
use Rattle.std.proofs.Common.{◌≡◌, ◌∙◌, [], Err, inr, sym, subst, rules}
use Rattle.std.proofs.lemmas.Bool.{eqb-true}
use Rattle.std.proofs.lemmas.List.{nil_from_length}
use Rattle.std.specs.Str.{chars}
use Rattle.simd_cesu8.specs.Cow.{answer_text}
use Rattle.java_text.specs.Form.{BeginsWithForm}
use Rattle.cesu8_cli_run.specs.Answer.{IsJavaReadAnswer}
use Rattle.cesu8_cli_run.specs.declared.fault.RunFault.TheVariants.{Trailing}
use Rattle.cesu8_cli_run.proofs.answer.java_read.Goals as goal

pub returns-clause-ok : goal.returns-clause-ok
returns-clause-ok c =
    let none : c.in_ok-text.rest.now ≡ [] = nil_from_length _ (eqb-true _ _ (sym c.is_empty.ensures ∙ c.if-not-is_empty.false)) in (
      chars (answer_text c.in_ok-text.text),
      subst (BeginsWithForm c.args.input.now _) none c.in_ok-text.ensures.text,
      c.into_bytes.ensures,
    )

pub returns-then-not-is_empty-clause-err : goal.returns-then-not-is_empty-clause-err
returns-then-not-is_empty-clause-err c =
    let is_answer : IsJavaReadAnswer c.args.input.now (Err Trailing) =
    (chars (answer_text c.in_ok-text.text), c.in_ok-text.rest.now, c.in_ok-text.ensures.text, search rules) in
    inr is_answer
