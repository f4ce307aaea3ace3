-- The first block, the blocks in the middle and the last block are the whole string, so what is
-- written for them is its encoding (`recoded_chars`). The first three goals have the same proof:
-- each call requires room for the whole encoding.
use Rattle.std.proofs.Common.{◌∙◌, ap, arith, length}
use Rattle.cesu8_encode.proofs.encoder.RecodedText.{recoded_chars}
use Rattle.cesu8_encode.proofs.blockwise.write_blocks.Goals as goal

pub write_first_block-end-requires-clause-room : goal.write_first_block-end-requires-clause-room
write_first_block-end-requires-clause-room g c =
    omega (arith, ap length (recoded_chars g.F.Flavor.flavor c.args.text.now _ c.as_bytes-bytes.ensures.value c.utf8.text))

pub write_middle-end-requires-clause-room : goal.write_middle-end-requires-clause-room
write_middle-end-requires-clause-room g c =
    omega (arith, ap length (recoded_chars g.F.Flavor.flavor c.args.text.now _ c.as_bytes-bytes.ensures.value c.utf8.text))

pub write_last_block-requires-clause-room : goal.write_last_block-requires-clause-room
write_last_block-requires-clause-room g c =
    omega (arith, ap length (recoded_chars g.F.Flavor.flavor c.args.text.now _ c.as_bytes-bytes.ensures.value c.utf8.text))

pub returns : goal.returns
returns g c = record {
  bytes = c.write_last_block.ensures.written.0 ∙ recoded_chars g.F.Flavor.flavor c.args.text.now _ c.as_bytes-bytes.ensures.value c.utf8.text;
  end = c.write_last_block.ensures.written.1;
  len = c.write_last_block.ensures.len ∙ c.write_middle-end.ensures.len ∙ c.write_first_block-end.ensures.len;
}
