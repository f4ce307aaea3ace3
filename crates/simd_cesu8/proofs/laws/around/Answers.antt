-- The lemma `around` of `cesu8_text` is the law: encoded text before and after some bytes does not
-- change their lossy reading. No character reaches from these bytes into the encoding after them.
use Rattle.cesu8_text.proofs.reading.EncodedTexts.{around}
use Rattle.simd_cesu8.proofs.laws.around.Goals as goal

pub returns : goal.returns
returns c = around
