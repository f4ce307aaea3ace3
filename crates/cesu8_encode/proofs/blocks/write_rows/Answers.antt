-- The lanes of a block are packed to its encoding. The contract requires room for what the first
-- three rows, 24 bytes, become, and for the vector of the last row.
use Rattle.std.proofs.Common.{arith}
use Rattle.cesu8_encode.proofs.encoder.EncodedWindows.{lanes_packed, prefix_long}
use Rattle.cesu8_encode.proofs.blocks.write_rows.Goals as goal

pub store_block-requires-clause-room : goal.store_block-requires-clause-room
store_block-requires-clause-room g c =
    omega (arith, prefix_long g.F.Flavor.flavor c.args.window.now c.args.at 24 _ (omega arith) c.encode_block-block.ensures.doubled_is, c.requires.room)

pub returns : goal.returns
returns g c =
    let long = prefix_long g.F.Flavor.flavor c.args.window.now c.args.at c.args.count _ c.requires.count c.encode_block-block.ensures.doubled_is in
    record {
      bytes = c.store_block.ensures.bytes g.F.Flavor.flavor c.args.window.now c.args.at
          (lanes_packed g.F.Flavor.flavor c.args.window.now c.args.at _ _ _ c.encode_block-block.ensures);
      end = omega (arith, long, c.store_block.ensures.end);
      len = c.store_block.ensures.len;
    }
