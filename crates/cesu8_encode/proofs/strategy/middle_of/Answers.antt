-- `NullChange` needs a string without a byte of F0 or more, and the search found none.
use Rattle.std.proofs.lemmas.Bool.{iff_false}
use Rattle.cesu8_encode.proofs.strategy.middle_of.Goals as goal

pub returns-then-not-any_in_long : goal.returns-then-not-any_in_long
returns-then-not-any_in_long g c = iff_false c.any_in_long.ensures c.if-not-any_in_long.true
