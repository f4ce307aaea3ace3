-- The lossy reading is the text of a cutting, so it consists of scalar values. Most other clauses
-- follow from this and from `reading_encoding`: the lossy reading of an encoding is the encoded
-- text.
use Rattle.cesu8_text.proofs.reading.EncodedTexts.{reading_encoding}
use Rattle.cesu8_text.proofs.order.Lawful.{read_again_law, lossy_is_strict_law}
use Rattle.cesu8_text.proofs.reading.LossyTexts.{reading_is_text, nothing_replaced}
use Rattle.simd_cesu8.proofs.laws.lossy.Goals as goal

pub returns : goal.returns
returns c = record {
  text = reading_is_text;
  encoding = reading_encoding;
  again = read_again_law;
  strict = lossy_is_strict_law;
  undamaged = nothing_replaced;
}
