-- The store replaces `N` bytes from `at` on, and no others.
use Rattle.std.proofs.Common.{◌+◌, arith}
use Rattle.cesu8_bytes.proofs.lists.Stored.{vector_written, unchanged_after_store}
use Rattle.cesu8_bytes.proofs.writing.offsets.put_lanes.Goals as goal

pub returns : goal.returns
returns g c = record {
  writes = vector_written c.args.at (c.args.at + g.row.N) c.args.lanes c.args.out.now (omega arith) (omega arith);
  behind = unchanged_after_store c.args.at (c.args.at + g.row.N) c.args.out.now c.args.lanes (omega arith);
}
