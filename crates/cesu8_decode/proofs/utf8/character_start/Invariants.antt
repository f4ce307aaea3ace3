-- The last `back` bytes up to and including the one at `at` are continuation bytes.
use Rattle.std.proofs.Common.{ℕ, ◌-◌, ◌<◌, get_or}
use Rattle.cesu8_text.specs.Patterns.{IsContinuation}
use Rattle.cesu8_decode.proofs.utf8.character_start.Given as goal

abbrev pub invariant-loop-back : goal.invariant-loop-back
invariant-loop-back l = (k : ℕ) → k < l.back → IsContinuation (get_or l.bytes (l.at - k) 0)
