-- If fewer than eight bytes follow the last of the middle blocks, it is encoded alone, from a
-- window of the text: the block, two bytes before it and one after it, which are 35. Here `i` is
-- the offset of that block. What is written for it fits, since the whole encoding does.
use Rattle.std.proofs.Common.{◌≡◌, ◌+◌, ◌-◌, ◌*◌, ◌/◌, ◌∙◌, subst, arith, length}
use Rattle.cesu8_encode.specs.EncodedOffsets.{IsWritten}
use Rattle.cesu8_encode.proofs.encoder.EncodedWindows.{encoded_bytes_here, encoded_bytes_window, room_after, written_after}
use Rattle.cesu8_encode.proofs.blockwise.write_middle.Goals as goal

pub write_block-requires-clause-room : goal.write_block-requires-clause-room
write_block-requires-clause-room g c =
    let f = g.F.Flavor.flavor in
    let text = c.args.text.now in
    let i = 32 * ((length text - 8) / 32) in
    let same = encoded_bytes_window f text (i - 2) (i - 2 + 35 - (i - 2)) (omega arith) ∙ encoded_bytes_here f text i 32 (omega arith) in
    omega (arith, room_after f text i 32 _ _ _ same (omega arith) c.write_middle_by-end.ensures.written (omega (arith, c.write_middle_by-end.ensures.len, c.requires.room)))

pub returns : goal.returns
returns g c =
    let f = g.F.Flavor.flavor in
    let text = c.args.text.now in
    let i = 32 * ((length text - 8) / 32) in
    let before = c.write_middle_by-end.ensures in
    let same = encoded_bytes_window f text (i - 2) (i - 2 + 35 - (i - 2)) (omega arith) ∙ encoded_bytes_here f text i 32 (omega arith) in
    let room = room_after f text i 32 _ _ _ same (omega arith) before.written (omega (arith, before.len, c.requires.room)) in
    let sum : i + 32 ≡ 32 * c.args.blocks = omega arith in
    record {
      written = subst (λ n. IsWritten f text n c.write_block.new.out c.write_block.result) sum
          (written_after f text i 32 _ _ _ _ _ before.written c.write_block.ensures.bytes same (omega (arith, room)));
      len = c.write_block.ensures.len ∙ before.len;
    }
