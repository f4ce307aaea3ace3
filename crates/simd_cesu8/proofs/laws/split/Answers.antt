-- The lossy reading cuts bytes greedily: it takes the character that begins them, or else replaces
-- one byte, and so on. The cuttings of two parts make up that of the whole if and only if no
-- character begins in the first part and ends in the second. The example of the surrogate pair is
-- computed.
use Rattle.cesu8_text.proofs.reading.Splits.{split}
use Rattle.cesu8_text.proofs.reading.Worked.{halves_join}
use Rattle.simd_cesu8.proofs.laws.split.Goals as goal

pub returns : goal.returns
returns c = record { parts = split; halves_join = halves_join }
