-- The number of each lane is compared with `len`, so the first `len` lanes are those of `first`.
use Rattle.simd_cesu8.proofs.Lanes.{first_lanes}
use Rattle.simd_cesu8.proofs.front_to_slice.join_lanes.Goals as goal

pub returns : goal.returns
returns c = first_lanes 64 c.args.len c.args.first c.args.other c.fits-first.0 c.fits-other.0
