-- The checker has read the bytes before `at`. Each step reads 64, so the loop ends.
use Rattle.std.proofs.Common.{◌-◌, ◌≤◌, length, take}
use Rattle.simdutf8.specs.Tracks.{HasRead}
use Rattle.cesu8_decode.proofs.utf8.is_part_utf8.Given as goal

abbrev pub invariant-loop-at : goal.invariant-loop-at
invariant-loop-at l = (l.at ≤ length l.bytes) × HasRead l.checker (take l.at l.bytes)

abbrev pub decreases-loop-at : goal.decreases-loop-at
decreases-loop-at l = length l.bytes - l.at
