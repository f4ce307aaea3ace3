-- Consecutive forms (texts as `write_utf` writes them) are read as their texts and as no others,
-- since bytes begin with at most one form.
use Rattle.java_text.proofs.Lawful.{sequence_law}
use Rattle.java_text.proofs.laws.sequence.Goals as goal

pub returns : goal.returns
returns c = sequence_law c.one_form.ensures
