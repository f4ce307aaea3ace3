-- The index of each lane is below 16, so the shuffle takes each entry from the table.
use Rattle.std.proofs.Common.{arith}
use Rattle.cesu8_decode.proofs.decoder.TableLookups.{halves_ok, entries}
use Rattle.cesu8_decode.proofs.lanes.tables.look_up.Goals as goal

pub swizzle : goal.swizzle
swizzle c = halves_ok c.args.lanes c.fits-lanes.0

pub returns : goal.returns
returns c = entries c.args.lanes c.fits-lanes.0 c.args.table (omega arith)
