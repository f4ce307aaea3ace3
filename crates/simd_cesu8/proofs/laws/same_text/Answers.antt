-- No encoding has a byte that encoding changes. So if the UTF-8 of a text is an encoding, the text
-- needs no encoding: these bytes are its own encoding, and no other text has the same one.
use Rattle.cesu8_text.proofs.reading.EncodedBytes.{same_in_both}
use Rattle.simd_cesu8.proofs.laws.same_text.Goals as goal

pub returns : goal.returns
returns c = same_in_both
