-- The window has two zeros, the first block and the byte after it. What `write_block` writes for
-- its block is what is written for the first 32 bytes of the whole text. It fits, since what is
-- written for the whole text does (`room_for_parts`).
use Rattle.std.proofs.Common.{◌-◌, ◌∷◌, ap, ◌∙◌, arith, length}
use Rattle.cesu8_encode.proofs.encoder.EncodedWindows.{encoded_bytes_first, room_for_parts}
use Rattle.cesu8_encode.proofs.blockwise.write_first_block.Goals as goal

pub write_block-requires-clause-room : goal.write_block-requires-clause-room
write_block-requires-clause-room g c =
    let f = g.F.Flavor.flavor in
    let text = c.args.text.now in
    omega (
      arith,
      ap length (encoded_bytes_first f text c.copy_from_slice.new.self 0 0 32 (omega arith) c.copy_from_slice.ensures.after),
      room_for_parts f (0 ∷ 0 ∷ text) 0 32 (length text - 32) (length text) (omega arith),
    )

pub returns : goal.returns
returns g c =
    let f = g.F.Flavor.flavor in
    let text = c.args.text.now in
    let same = encoded_bytes_first f text c.copy_from_slice.new.self 0 0 32 (omega arith) c.copy_from_slice.ensures.after in
    let room = room_for_parts f (0 ∷ 0 ∷ text) 0 32 (length text - 32) (length text) (omega arith) in
    record {
      written = (c.write_block.ensures.bytes ∙ same, omega (arith, ap length same));
      len = c.write_block.ensures.len;
    }
