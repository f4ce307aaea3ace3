-- The lossy reading has three bytes for each byte, less what all offsets save
-- (`lossy_length_by_savings`), so no subtraction is below 0. Each round of the loop subtracts what
-- 59 offsets save (`STEP`): no character that begins there ends after the 64 bytes that it loads.
use Rattle.std.proofs.Common.{◌∙◌, arith}
use Rattle.cesu8_decode.proofs.by_offset.Savings.{lossy_length_by_savings, length_given}
use Rattle.cesu8_decode.proofs.decoder.MaskCounts.{saved_next_in_chunk, saved_in_rest}
use Rattle.cesu8_decode.proofs.lengths.lossy_len_by_steps.Goals as goal

pub overflow_sub-len : goal.overflow_sub-len
overflow_sub-len g c =
    let f = g.F.Flavor.flavor in
    let next = saved_next_in_chunk f c.args.bytes.now c.loop-at.at 59 (omega arith) (omega arith) in
    omega (arith, next, c.saved_by_lanes.ensures, c.loop-at.invariant.1, lossy_length_by_savings f c.args.bytes.now)

pub loop-at-preserved : goal.loop-at-preserved
loop-at-preserved g c =
    let f = g.F.Flavor.flavor in
    let next = saved_next_in_chunk f c.args.bytes.now c.loop-at.at 59 (omega arith) (omega arith) in
    (omega arith, omega (arith, next, c.saved_by_lanes.ensures, c.loop-at.invariant.1, lossy_length_by_savings f c.args.bytes.now))

pub overflow_sub-len-2 : goal.overflow_sub-len-2
overflow_sub-len-2 g c =
    let f = g.F.Flavor.flavor in
    let bytes = c.args.bytes.now in
    let last = c.saved_in_short.ensures ∙ saved_in_rest f bytes c.loop-at.at in
    omega (arith, last, c.loop-at.invariant.1, lossy_length_by_savings f bytes)

pub returns : goal.returns
returns g c =
    let f = g.F.Flavor.flavor in
    let bytes = c.args.bytes.now in
    let last = c.saved_in_short.ensures ∙ saved_in_rest f bytes c.loop-at.at in
    let given = length_given c.try_from.result _ _ c.try_from.ensures
    (omega (arith, last, c.loop-at.invariant.1, lossy_length_by_savings f bytes)) in
    rw c.ok.ensures.value (record { some = given.0; none = given.1 })
