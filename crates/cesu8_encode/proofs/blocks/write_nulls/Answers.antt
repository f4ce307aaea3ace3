-- The lanes and the mask of nulls are packed to the block's encoding. The contract requires room
-- for what the first three rows, 24 bytes, become, and for the vector of the last row.
use Rattle.std.proofs.Common.{arith}
use Rattle.cesu8_encode.proofs.encoder.EncodedWindows.{prefix_long}
use Rattle.cesu8_encode.proofs.encoder.LowBlocks.{low_packed}
use Rattle.cesu8_encode.proofs.blocks.write_nulls.Goals as goal

pub store_block-requires-clause-room : goal.store_block-requires-clause-room
store_block-requires-clause-room g c =
    let lanes = low_packed g.F.Flavor.flavor g.F.Null.Class.class c.args.window.now c.args.at _ _ g.met.F.Flavor.are_null
    c.requires.window c.requires.low c.nulls.ensures c.bits.ensures in
    omega (arith, prefix_long g.F.Flavor.flavor c.args.window.now c.args.at 24 _ (omega arith) lanes.doubled_is, c.requires.room)

pub returns : goal.returns
returns g c =
    let lanes = low_packed g.F.Flavor.flavor g.F.Null.Class.class c.args.window.now c.args.at _ _ g.met.F.Flavor.are_null
    c.requires.window c.requires.low c.nulls.ensures c.bits.ensures in
    let long = prefix_long g.F.Flavor.flavor c.args.window.now c.args.at 32 _ (omega arith) lanes.doubled_is in
    record {
      bytes = c.store_block.ensures.bytes g.F.Flavor.flavor c.args.window.now c.args.at lanes;
      end = omega (arith, long, c.store_block.ensures.end);
      len = c.store_block.ensures.len;
    }
