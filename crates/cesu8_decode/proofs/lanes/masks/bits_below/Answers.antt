-- A shift of each lane moves the bit to the highest place, which `bits` reads.
use Rattle.std.proofs.Common.{arith}
use Rattle.std.proofs.lemmas.Simd.{shifts_fit_splat}
use Rattle.cesu8_decode.proofs.decoder.MaskBits.{shifted_bits}
use Rattle.cesu8_decode.proofs.lanes.masks.bits_below.Goals as goal

pub overflow_shl-lanes : goal.overflow_shl-lanes
overflow_shl-lanes g c = shifts_fit_splat 8 c.args.lanes g.row.N c.args.below (omega arith)

pub returns : goal.returns
returns g c = shifted_bits c.args.lanes g.row.N c.args.below c.fits-lanes.0 c.bits.ensures
