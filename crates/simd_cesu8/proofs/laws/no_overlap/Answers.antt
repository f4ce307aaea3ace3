-- No encoded character begins within another one (`none_inside`). So of two at different offsets,
-- the later one begins after the stretch of the earlier one.
use Rattle.cesu8_text.proofs.reading.Stretches.{no_overlap}
use Rattle.simd_cesu8.proofs.laws.no_overlap.Goals as goal

pub returns : goal.returns
returns c = no_overlap
