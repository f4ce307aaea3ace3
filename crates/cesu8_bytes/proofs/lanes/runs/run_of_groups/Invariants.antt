-- No byte of the run is in the class. The run is empty or has at least one group, of 256 bytes.
use Rattle.std.proofs.Common.{◌≡◌, ℕ, ◌-◌, ◌<◌, ◌≤◌, false, length, get_or}
use Rattle.cesu8_bytes.proofs.lanes.runs.run_of_groups.Given as goal

abbrev pub invariant-loop-run : goal.invariant-loop-run
invariant-loop-run g l = record {
  within : (l.run ≤ length l.bytes) × (0 < l.run → 256 ≤ l.run);
  run : (i : ℕ) → i < l.run → g.C.Class.class (get_or l.bytes i 0) ≡ false;
}

abbrev pub decreases-loop-run : goal.decreases-loop-run
decreases-loop-run g l = length l.bytes - l.run
