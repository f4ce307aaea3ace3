-- The bytes up to `at` are copied, and what the buffer has after the length of the bytes is
-- unchanged.
use Rattle.std.proofs.Common.{◌-◌, ◌≡◌, ◌≤◌, length, take, drop}
use Rattle.cesu8_bytes.proofs.lanes.short.copy_short.Given as goal

abbrev pub decreases-loop-at : goal.decreases-loop-at
decreases-loop-at l = l.last - l.at

abbrev pub invariant-loop-at : goal.invariant-loop-at
invariant-loop-at l = record {
  within : l.at ≤ length l.bytes;
  copied : take l.at l.buf ≡ take l.at l.bytes;
  behind : drop (length l.bytes) l.buf ≡ drop (length l.bytes) l.fn.buf;
  len : length l.buf ≡ length l.fn.buf;
}
