-- Each of the row's numbers is a byte, of which the shuffle uses the lower four bits. These are below
-- 16, as it requires (`low_ok`), and the lanes that they select are what `lanes_at` gives
-- (`low_picked`).
use Rattle.cesu8_bytes.proofs.vectors.Packing.{low_ok, low_picked}
use Rattle.cesu8_bytes.proofs.writing.packing.picked.Goals as goal

pub swizzle : goal.swizzle
swizzle c = low_ok c.args.row c.fits-row.0

pub returns : goal.returns
returns c = low_picked c.args.lanes c.args.row c.fits-row.0
