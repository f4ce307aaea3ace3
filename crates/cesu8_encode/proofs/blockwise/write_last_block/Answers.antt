-- A window with the last bytes of the text and zeros after them gives what the whole text gives
-- (`same`). It fits after what is written before, since what is written for the whole text does.
use Rattle.std.proofs.Common.{◌≡◌, ◌+◌, ◌-◌, subst, arith, length}
use Rattle.cesu8_encode.specs.EncodedOffsets.{IsWritten}
use Rattle.cesu8_encode.proofs.encoder.EncodedWindows.{encoded_bytes_last, room_after, written_after}
use Rattle.cesu8_encode.proofs.blockwise.write_last_block.Goals as goal

pub write_block-requires-clause-room : goal.write_block-requires-clause-room
write_block-requires-clause-room g c =
    let f = g.F.Flavor.flavor in
    let text = c.args.text.now in
    let at = c.args.at in
    let same = encoded_bytes_last f text c.copy_from_slice.new.self at (length text - at) (omega arith) c.copy_from_slice.ensures.after in
    omega (arith, room_after f text at (length text - at) c.args.end c.args.out.now _ same (omega arith) c.requires.before c.requires.room)

pub returns : goal.returns
returns g c =
    let f = g.F.Flavor.flavor in
    let text = c.args.text.now in
    let at = c.args.at in
    let same = encoded_bytes_last f text c.copy_from_slice.new.self at (length text - at) (omega arith) c.copy_from_slice.ensures.after in
    let room = room_after f text at (length text - at) c.args.end c.args.out.now _ same (omega arith) c.requires.before c.requires.room in
    let sum : at + (length text - at) ≡ length text = omega arith in
    record {
      written = subst (λ n. IsWritten f text n c.write_block.new.out c.write_block.result) sum
          (written_after f text at (length text - at) _ _ _ _ _ c.requires.before c.write_block.ensures.bytes same
          (omega arith));
      len = c.write_block.ensures.len;
    }
