-- A string of at most a block, copied between zeros, is encoded as one block (`encoded_short`).
use Rattle.std.proofs.Common.{◌∙◌, ap, arith, length}
use Rattle.cesu8_encode.proofs.encoder.EncodedWindows.{encoded_short}
use Rattle.cesu8_encode.proofs.blockwise.write.Goals as goal

pub write_block-requires-clause-room : goal.write_block-requires-clause-room
write_block-requires-clause-room g c =
    omega (
      arith,
      ap length (encoded_short g.F.Flavor.flavor _ _ _ c.copy_short.ensures c.as_bytes-bytes.ensures.value c.utf8.text (c.is_block.ensures.0 c.if-not-is_block.false)),
    )

pub returns : goal.returns
returns g c =
    let same = encoded_short g.F.Flavor.flavor _ _ _ c.copy_short.ensures c.as_bytes-bytes.ensures.value c.utf8.text (c.is_block.ensures.0 c.if-not-is_block.false) in
    record {
      bytes = c.write_block.ensures.bytes ∙ same;
      end = omega (arith, ap length same);
      len = c.write_block.ensures.len;
    }
