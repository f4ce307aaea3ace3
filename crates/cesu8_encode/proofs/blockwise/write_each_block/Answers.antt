-- After each block its encoding is appended, so one block more is written. By `same`, it does not
-- depend on the zeros around the text. It fits, since the whole encoding does, and its rows fit,
-- since eight bytes follow the blocks.
use Rattle.std.proofs.Common.{◌≡◌, ◌+◌, ◌*◌, subst, ◌∙◌, arith}
use Rattle.cesu8_encode.specs.EncodedOffsets.{IsWritten}
use Rattle.cesu8_encode.proofs.encoder.EncodedWindows.{encoded_bytes_here, room_after, rows_fit, written_after}
use Rattle.cesu8_encode.proofs.blockwise.write_each_block.Goals as goal

pub write_middle_block-end-requires-clause-room : goal.write_middle_block-end-requires-clause-room
write_middle_block-end-requires-clause-room g c =
    let f = g.F.Flavor.flavor in
    let text = c.args.text.now in
    let same = encoded_bytes_here f text (32 * c.loop-i.i) 32 (omega arith) in
    omega (arith, room_after f text (32 * c.loop-i.i) 32 c.loop-i.end c.loop-i.out _ same (omega arith) c.loop-i.invariant.written (omega arith))

pub write_middle_block-end-requires-clause-rows : goal.write_middle_block-end-requires-clause-rows
write_middle_block-end-requires-clause-rows g c =
    omega (arith, rows_fit g.F.Flavor.flavor c.args.text.now (32 * c.loop-i.i) c.loop-i.end c.loop-i.out (omega arith) (omega arith) c.loop-i.invariant.written (omega arith))

pub loop-i-preserved : goal.loop-i-preserved
loop-i-preserved g c =
    let f = g.F.Flavor.flavor in
    let text = c.args.text.now in
    let inv = c.loop-i.invariant in
    let sum : 32 * c.loop-i.i + 32 ≡ 32 * (c.loop-i.i + 1) = omega arith in
    let same = encoded_bytes_here f text (32 * c.loop-i.i) 32 (omega arith) in
    let room = room_after f text (32 * c.loop-i.i) 32 c.loop-i.end c.loop-i.out _ same (omega arith) inv.written (omega arith) in
    record {
      written = subst (λ n. IsWritten f text n c.write_middle_block-end.new.out c.write_middle_block-end.result) sum
          (written_after f text (32 * c.loop-i.i) 32 _ _ _ _ _ inv.written c.write_middle_block-end.ensures.bytes same
          (omega arith));
      len = c.write_middle_block-end.ensures.len ∙ inv.len;
    }
