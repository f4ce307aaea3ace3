-- The mask F8 makes the bytes F0 to F7 equal to F0, and no others. Flipping the bits of F0 then
-- makes these bytes zero, and `zero_marks` finds a zero byte.
use mathlib.Core.Logic.Iff.{trans}
use Rattle.cesu8_bytes.proofs.lists.Words.{four_test, not_zero}
use Rattle.cesu8_bytes.proofs.words.contains_four.Goals as goal

pub returns : goal.returns
returns c = trans (not_zero c.zero_marks.result) (trans c.zero_marks.ensures (four_test c.args.word c.ranges.word.fits))
