-- The offset goes down from `LARGEST_ARRAY`, so the loop ends and the first part is short enough.
use Rattle.std.proofs.Common.{◌≤◌}
use Rattle.cesu8_decode.specs.declared.strategy.TheConstants.{LARGEST_ARRAY}
use Rattle.cesu8_decode.proofs.destinations.strings.first_part.Given as goal

abbrev pub invariant-loop-at : goal.invariant-loop-at
invariant-loop-at l = record {
  fits : l.at ≤ LARGEST_ARRAY;
}

abbrev pub decreases-loop-at : goal.decreases-loop-at
decreases-loop-at l = l.at
