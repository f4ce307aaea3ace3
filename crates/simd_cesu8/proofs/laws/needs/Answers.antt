-- The encoding of a character that needs encoding is longer than its UTF-8, and that of any other
-- character is its UTF-8. So an encoding is the UTF-8 if and only if no character needs encoding.
use Rattle.cesu8_text.proofs.order.Lawful.{needs_law}
use Rattle.simd_cesu8.proofs.laws.needs.Goals as goal

pub returns : goal.returns
returns c = needs_law
