-- The bits of two masks after the skipped lanes are counted. The sum of the weights is the count of
-- the class plus twice that of four-byte leads.
use Rattle.std.proofs.Common.{◌≤◌, length, drop, arith}
use Rattle.cesu8_text.specs.Class.{is_four}
use Rattle.cesu8_bytes.proofs.vectors.Counts.{bits_after, weight_by_counts}
use Rattle.cesu8_bytes.proofs.lanes.count.lanes_weight.Goals as goal

pub returns : goal.returns
returns g c =
    let within : c.args.skipped ≤ length c.args.lanes = omega arith in
    omega (
      arith,
      bits_after g.C.Class.class c.args.lanes c.args.skipped _ within c.bits.ensures,
      bits_after is_four c.args.lanes c.args.skipped _ within c.bits-2.ensures,
      weight_by_counts g.C.Class.class (drop c.args.skipped c.args.lanes),
    )
