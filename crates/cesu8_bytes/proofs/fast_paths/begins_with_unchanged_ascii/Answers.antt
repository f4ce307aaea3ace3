-- At least `len` lanes precede the first lane that is a changed null or not ASCII, so the first
-- `len` bytes are ASCII and none of them changes.
use Rattle.std.proofs.Common.{arith, take}
use Rattle.std.proofs.lemmas.Bool.{leb-true}
use Rattle.cesu8_bytes.proofs.lists.Ascii.{ascii_of_neither, either_of_changed, none_in_prefix}
use Rattle.cesu8_bytes.proofs.fast_paths.begins_with_unchanged_ascii.Goals as goal

pub returns-then-bytes-ge-LANES-clause-ascii : goal.returns-then-bytes-ge-LANES-clause-ascii
returns-then-bytes-ge-LANES-clause-ascii g c found =
    ascii_of_neither g.F.Null.Class.class (take c.args.len c.args.bytes.now)
    (none_in_prefix _ c.args.bytes.now 64 c.args.len c.lanes_before.result c.lanes_before.ensures (leb-true c.args.len c.lanes_before.result found))

pub returns-then-bytes-ge-LANES-clause-unchanged : goal.returns-then-bytes-ge-LANES-clause-unchanged
returns-then-bytes-ge-LANES-clause-unchanged g c found any =
    none_in_prefix _ c.args.bytes.now 64 c.args.len c.lanes_before.result c.lanes_before.ensures (leb-true c.args.len c.lanes_before.result found)
    (either_of_changed g.F.Flavor.flavor g.F.Null.Class.class g.met.F.Flavor.are_null 0x80 (omega arith) (take c.args.len c.args.bytes.now) any)
