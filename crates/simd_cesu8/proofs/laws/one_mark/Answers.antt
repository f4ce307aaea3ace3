-- A mark is what lossy decoding writes for the byte at an offset (`IsMark`). The lemma `mark_is` of
-- `reading/Marks.antt` in `cesu8_text` says that the function `mark` computes one for each offset,
-- and `mark_from` that no other one is possible: the characters in which a byte lies do not
-- overlap.
use Rattle.cesu8_text.proofs.order.Lawful.{one_mark_law}
use Rattle.simd_cesu8.proofs.laws.one_mark.Goals as goal

pub returns : goal.returns
returns c = one_mark_law
