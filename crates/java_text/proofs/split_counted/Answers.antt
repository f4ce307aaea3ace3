-- The input is a count and at least as many bytes. So if the counted bytes are the MUTF-8 of a
-- text, the input begins with the form of that text, and with no other form. In both answers the
-- calls of `grind` prove three other clauses of the function: `counted`, `rest` and `whole`.
use Rattle.std.proofs.Common.{arith}
use Rattle.std.proofs.lemmas.Grind.{common_steps}
use Rattle.java_text.proofs.Forms.{form_of_parts, only_form_of_parts}
use Rattle.java_text.proofs.split_counted.Goals as goal

pub returns-clause-form : goal.returns-clause-form
returns-clause-form c =
    form_of_parts c.args.bytes.now c.ok_or.result (λ i. omega (arith, c.type_inv.bytes i)) (grind (arith, common_steps)) (grind (arith, common_steps)) (grind (arith, common_steps))

pub returns-clause-only : goal.returns-clause-only
returns-clause-only c =
    only_form_of_parts c.args.bytes.now c.ok_or.result c.one_form.ensures (λ i. omega (arith, c.type_inv.bytes i))
    (grind (arith, common_steps)) (grind (arith, common_steps)) (grind (arith, common_steps))

-- Input of fewer than two bytes is rejected, and this clause is about success.
pub returns-in_default-clause-whole : goal.returns-in_default-clause-whole
returns-in_default-clause-whole c = tt
