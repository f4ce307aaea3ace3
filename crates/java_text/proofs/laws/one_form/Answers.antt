-- The first two bytes decide how many bytes belong to the form, and by `round_trip` these bytes are
-- the encoding of one text only.
use Rattle.java_text.proofs.Forms.{one_form}
use Rattle.java_text.proofs.laws.one_form.Goals as goal

pub returns : goal.returns
returns c = one_form c.round_trip.ensures
