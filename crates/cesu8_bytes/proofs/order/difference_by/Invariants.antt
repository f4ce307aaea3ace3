-- The bytes before the offset are equal.
use Rattle.std.proofs.Common.{◌≡◌, ℕ, ◌-◌, ◌<◌, get_or}
use Rattle.cesu8_bytes.proofs.order.difference_by.Given as goal

abbrev pub invariant-loop-offset : goal.invariant-loop-offset
invariant-loop-offset g l = (i : ℕ) → i < l.offset → get_or l.bytes i 0 ≡ get_or l.other i 0

abbrev pub decreases-loop-offset : goal.decreases-loop-offset
decreases-loop-offset g l = l.last - l.offset
