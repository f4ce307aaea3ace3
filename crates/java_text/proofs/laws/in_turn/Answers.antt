-- Bytes that begin with forms are read as the texts of these, and then as the rest is read, since
-- bytes begin with at most one form. Each clause has a lemma.
use Rattle.java_text.proofs.Lawful.{one_more_law, rest_is_read_law, none_follows_law, empty_has_none_law}
use Rattle.java_text.proofs.laws.in_turn.Goals as goal

pub returns : goal.returns
returns c = record {
  one_more = one_more_law;
  rest = rest_is_read_law c.one_form.ensures;
  none_follows = none_follows_law c.one_form.ensures;
  empty = empty_has_none_law;
}
