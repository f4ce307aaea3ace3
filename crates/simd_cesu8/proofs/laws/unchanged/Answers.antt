-- A character needs encoding if and only if its UTF-8 has a changed byte. No encoding has such a
-- byte, so an encoding that is UTF-8 is that of a text which needs none.
use Rattle.cesu8_text.proofs.order.Lawful.{unchanged_encoding_law, unchanged_string_law}
use Rattle.simd_cesu8.proofs.laws.unchanged.Goals as goal

pub returns : goal.returns
returns c = record { encoding = unchanged_encoding_law; string = unchanged_string_law }
