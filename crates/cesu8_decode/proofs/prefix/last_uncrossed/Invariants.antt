-- A character can cross each offset after `end`, up to `at`. The offset goes down, so the loop
-- ends.
use Rattle.std.proofs.Common.{◌≡◌, ℕ, ◌<◌, ◌≤◌, true}
use Rattle.cesu8_decode.specs.Following.{after_fillers, crosses_at}
use Rattle.cesu8_decode.proofs.prefix.last_uncrossed.Given as goal

abbrev pub decreases-loop-end : goal.decreases-loop-end
decreases-loop-end g l = l.end

abbrev pub invariant-loop-end : goal.invariant-loop-end
invariant-loop-end g l = record {
  within : l.end ≤ l.at;
  crossed : (k : ℕ) → l.end < k → k ≤ l.at → crosses_at g.S.CharacterSet.set (after_fillers l.bytes) k ≡ true;
}
