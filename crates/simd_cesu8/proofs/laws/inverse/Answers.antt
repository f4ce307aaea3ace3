-- A string that is decoded from the encoding of another string has that string's characters
-- (`encoding_injective`), and so its bytes. Bytes with a strict reading are the encoding of that
-- reading, by definition.
use Rattle.cesu8_text.proofs.order.Lawful.{decoded_back_law, not_refused_law, encoded_back_law}
use Rattle.simd_cesu8.proofs.laws.inverse.Goals as goal

pub returns : goal.returns
returns c = record { decoded = decoded_back_law; not_refused = not_refused_law; encoded = encoded_back_law }
