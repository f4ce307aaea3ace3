-- `TooLong` is impossible: the lossy reading of at most 65,535 counted bytes has at most three
-- times as many.
use Rattle.std.proofs.Common.{length, ap, arith}
use Rattle.java_text.proofs.FormSlices.{never_too_long, counted_bound}
use Rattle.java_text.proofs.read_utf_lossy_to_slice.Goals as goal

-- There are too few counted bytes for a text whose length does not fit `usize`.
pub unreachable-requires : goal.unreachable-requires
unreachable-requires c =
    let small = counted_bound c.args.bytes.now (λ i. omega (arith, c.type_inv.bytes i)) in
    never_too_long c.bounds.ensures.3 c.in-Ok.counted.now _ _ c.in-Err-TooLong.field-0
    (omega (arith, small, ap length c.in-Ok.ensures.counted)) c.in-Err-TooLong.field-0-is c.in-Err-TooLong.ensures
