-- The first `at` bytes are appended, and the capacity is unchanged.
use Rattle.std.proofs.Common.{◌-◌, ◌≡◌, ◌+◌, ◌≤◌, ◌++◌, length, take, vec_len, vec_capacity}
use Rattle.cesu8_bytes.proofs.writing.copies.append_vectors.Given as goal

abbrev pub decreases-loop-at : goal.decreases-loop-at
decreases-loop-at l = l.last - l.at

abbrev pub invariant-loop-at : goal.invariant-loop-at
invariant-loop-at l = record {
  within : l.at ≤ length l.bytes;
  items : l.out.items ≡ l.fn.out.items ++ take l.at l.bytes;
  len : vec_len l.out ≡ l.start + l.at;
  capacity : vec_capacity l.out ≡ vec_capacity l.fn.out;
}
