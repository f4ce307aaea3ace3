-- Each character's encoding is at most twice as long as its UTF-8, and never shorter. In the UTF-8
-- of lossily decoded text, a replaced byte becomes three bytes, and a character takes no more bytes
-- than its encoding. So that UTF-8 is at most three times as long as the input.
use Rattle.cesu8_text.proofs.order.Lawful.{bounds_law}
use Rattle.simd_cesu8.proofs.laws.bounds.Goals as goal

pub returns : goal.returns
returns c = bounds_law
