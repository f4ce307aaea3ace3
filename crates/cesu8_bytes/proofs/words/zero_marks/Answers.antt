-- `zero_marks` subtracts 1 from each byte. A byte gains its high bit only if it is zero, or by a
-- borrow that begins at a zero byte below it (`zero_test`).
use Rattle.cesu8_bytes.proofs.lists.Words.{zero_test}
use Rattle.cesu8_bytes.proofs.words.zero_marks.Goals as goal

pub returns : goal.returns
returns c = zero_test c.args.word c.ranges.word.fits
