-- A form is its two bytes of count and the MUTF-8, which has at most 65,535 bytes.
use Rattle.java_text.proofs.Lawful.{bounds_law}
use Rattle.java_text.proofs.laws.bounds.Goals as goal

pub returns : goal.returns
returns c = bounds_law
