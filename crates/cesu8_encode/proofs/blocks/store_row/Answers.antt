-- A row is eight bytes of a block. Bit i of `doubled` says that byte i becomes two bytes, and the
-- shuffle of that mask packs them. Its indices are valid, and it stores the packed bytes after the
-- first `at` bytes of the output.
use Rattle.std.proofs.Common.{arith}
use Rattle.cesu8_encode.proofs.encoder.EncodedRows.{shuffle_ok, stored_row}
use Rattle.cesu8_encode.proofs.blocks.store_row.Goals as goal

pub swizzle-packed : goal.swizzle-packed
swizzle-packed c = shuffle_ok c.args.doubled _ c.requires.small (c.doubling_rows.ensures c.args.doubled c.requires.small)

pub returns-clause-bytes : goal.returns-clause-bytes
returns-clause-bytes c ts long is =
    stored_row c.args.out.now c.args.lanes _ c.args.at c.args.doubled ts c.fits-lanes.0 c.requires.small
    (c.doubling_rows.ensures c.args.doubled c.requires.small) c.requires.room long is _ (omega arith)
