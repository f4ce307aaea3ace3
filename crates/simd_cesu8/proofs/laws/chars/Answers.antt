-- In std a string's bytes are the UTF-8 of its characters. The lemma `IsUtf8Of_chars` of
-- `cesu8_text` says this in the words of this library. The first two clauses are its parts, and the
-- third follows from it.
use Rattle.cesu8_text.proofs.order.Lawful.{chars_are_text_law, chars_in_utf8_law, same_bytes_law}
use Rattle.simd_cesu8.proofs.laws.chars.Goals as goal

pub returns : goal.returns
returns c = record { text = chars_are_text_law; utf8 = chars_in_utf8_law; same_bytes = same_bytes_law }
