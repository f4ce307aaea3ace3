-- A greedy cutting takes a character wherever one begins, as the lossy reading does. So its text is
-- this reading, and following the reading gives such a cutting.
use Rattle.cesu8_text.proofs.reading.Greedy.{places}
use Rattle.cesu8_text.proofs.order.Lawful.{has_greedy_cutting_law}
use Rattle.simd_cesu8.proofs.laws.places.Goals as goal

pub returns : goal.returns
returns c = record { text = places; exists = has_greedy_cutting_law }
