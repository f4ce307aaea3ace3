-- A character begins where a nonempty encoded text begins, and stretches never overlap. So no
-- character that begins earlier ends in the text, and the parts before and after the text are read
-- independently.
use Rattle.cesu8_text.proofs.reading.EncodedTexts.{middle}
use Rattle.simd_cesu8.proofs.laws.middle.Goals as goal

pub returns : goal.returns
returns c = middle
