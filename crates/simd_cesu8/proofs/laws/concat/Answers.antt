-- An encoding is the forms of the text's UTF-16 code units, one after another, and the code units
-- of a concatenation are those of its parts.
use Rattle.cesu8_text.proofs.encoding.Encodings.{encoding_append}
use Rattle.simd_cesu8.proofs.laws.concat.Goals as goal

pub returns : goal.returns
returns c = encoding_append
