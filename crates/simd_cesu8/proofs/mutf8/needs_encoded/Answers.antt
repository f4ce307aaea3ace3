-- The clause is that of `codec::needs_encoded`, which holds for any flavor.
use Rattle.simd_cesu8.proofs.mutf8.needs_encoded.Goals as goal

pub returns : goal.returns
returns c = c.needs_encoded.ensures
