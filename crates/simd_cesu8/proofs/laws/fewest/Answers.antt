-- Compare another cutting with the greedy one from the start. Where they first differ, the other
-- one replaces all bytes of a character that the greedy one takes, since no character begins within
-- another one. So the other one replaces more bytes.
use Rattle.cesu8_text.proofs.reading.Costs.{fewest}
use Rattle.simd_cesu8.proofs.laws.fewest.Goals as goal

pub returns : goal.returns
returns c = fewest
