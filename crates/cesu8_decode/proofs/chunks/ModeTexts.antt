-- What strict and lossy decoding return in each mode: input that the mode returns unchanged decodes
-- to its own characters, and all other input to its reading in the encoding.
use Rattle.std.proofs.Common.{ℕ, List}
use Rattle.cesu8_text.specs.Encoding.{Flavor}
use Rattle.cesu8_text.specs.Kept.{KnowsTexts}
use Rattle.cesu8_text.proofs.reading.KeptTexts.{encoding_texts, lenient_texts}
use Rattle.cesu8_decode.specs.declared.modes.Mode.{Mode}
use Rattle.cesu8_decode.specs.declared.modes.Mode.TheVariants.{Lenient, EncodingAlone}
use Rattle.cesu8_decode.specs.Modes.{Keeps, Reads, ReadsLossily}

pub known_texts : (mode : Mode) (f : Flavor) (bytes : List ℕ) →
    KnowsTexts f bytes (Keeps mode f bytes) (Reads mode f bytes) (ReadsLossily mode f bytes)
known_texts Lenient f bytes = lenient_texts f bytes
known_texts EncodingAlone f bytes = encoding_texts f bytes
