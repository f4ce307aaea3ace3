-- The new vector is empty and has capacity for the whole encoding, so appending it fits.
use Rattle.std.proofs.Common.{arith}
use Rattle.cesu8_encode.proofs.encode.Goals as goal

pub append_changed-requires-clause-room : goal.append_changed-requires-clause-room
append_changed-requires-clause-room g c = omega (arith, c.in_ok-encoded.ensures.capacity, c.in_ok-encoded.ensures.len)
