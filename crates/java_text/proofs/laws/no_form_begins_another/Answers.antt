-- If a form began another, these bytes would begin with both. By `one_form` the two are then equal.
use Rattle.java_text.proofs.Lawful.{no_form_begins_another_law}
use Rattle.java_text.proofs.laws.no_form_begins_another.Goals as goal

pub returns : goal.returns
returns c = no_form_begins_another_law c.one_form.ensures
