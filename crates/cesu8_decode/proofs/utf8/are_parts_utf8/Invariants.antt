-- The bytes before `start` are UTF-8. Each part has at least one byte, so the loop ends.
use Rattle.std.proofs.Common.{◌-◌, ◌≤◌, length, take}
use Rattle.std.specs.Str.{IsUtf8}
use Rattle.cesu8_decode.proofs.utf8.are_parts_utf8.Given as goal

abbrev pub invariant-loop-start : goal.invariant-loop-start
invariant-loop-start l = (l.start ≤ length l.bytes) × IsUtf8 (take l.start l.bytes)

abbrev pub decreases-loop-start : goal.decreases-loop-start
decreases-loop-start l = length l.bytes - l.start
