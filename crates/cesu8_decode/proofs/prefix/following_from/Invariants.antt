-- All bytes before `at` can follow the bytes before them. At least four bytes precede `at`, which
-- decide whether the next ones can follow (`DECIDING`). Each step raises `at`, so the loop ends.
use Rattle.std.proofs.Common.{◌-◌, ◌≤◌, length}
use Rattle.cesu8_decode.specs.Following.{FirstFollow}
use Rattle.cesu8_decode.proofs.prefix.following_from.Given as goal

abbrev pub decreases-loop-at : goal.decreases-loop-at
decreases-loop-at g l = length l.bytes - l.at

abbrev pub invariant-loop-at : goal.invariant-loop-at
invariant-loop-at g l = record {
  first : FirstFollow g.S.CharacterSet.set g.F.Flavor.flavor l.bytes l.at;
  start : 4 ≤ l.at;
}
