-- The two bytes that are pushed first are the count of the form (`counts`). The prover proves this
-- goal by itself too. But if an edit of must-fail makes the goal false, the prover's own search
-- meets a limit instead of showing that.
use Rattle.std.proofs.Common.{arith, rules, ◌∙◌}
use Rattle.std.specs.Str.{chars}
use Rattle.std.proofs.lemmas.Grind.{common_steps}
use Rattle.java_text.specs.Form.{mutf8_len, java_form}
use Rattle.java_text.proofs.FormSlices.{count_of}
use Rattle.java_text.proofs.write_utf.Goals as goal

pub returns-clause-ok : goal.returns-clause-ok
unfolding java_form
returns-clause-ok c =
    let counts = c.to_be_bytes.ensures ∙ count_of c.in-Ok.count (mutf8_len (chars c.args.text.now)) (search rules) (search rules) in
    grind (arith, common_steps)
