-- The first two bytes of a form are the length of its MUTF-8, so they say where the MUTF-8 ends.
-- The other direction puts these parts together again.
use Rattle.java_text.proofs.Forms.{begins_with_form}
use Rattle.java_text.proofs.Lawful.{form_is_cut_law}
use Rattle.java_text.proofs.laws.parts.Goals as goal

pub returns : goal.returns
returns c = record { cut = form_is_cut_law; joined = begins_with_form }
