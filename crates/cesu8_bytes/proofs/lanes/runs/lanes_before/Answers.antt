-- The lowest bit that is set in the mask is the first lane of the class.
use Rattle.std.proofs.Common.{arith}
use Rattle.std.proofs.lemmas.Simd.{first_set_mask_l}
use Rattle.cesu8_bytes.proofs.lanes.runs.lanes_before.Goals as goal

pub returns : goal.returns
returns g c =
    let first = first_set_mask_l g.C.Class.class c.args.lanes g.row.N c.fits-lanes.0 (omega arith) in
    rw (c.first_bit.ensures, c.bits.ensures) first
