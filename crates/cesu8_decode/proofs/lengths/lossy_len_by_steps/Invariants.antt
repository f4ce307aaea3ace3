-- `len` is three times the length, as if each byte became U+FFFD, less what the first `at` offsets
-- save (`saved`).
use Rattle.std.proofs.Common.{◌≡◌, ◌+◌, ◌*◌, ◌-◌, ◌≤◌, length, drop}
use Rattle.cesu8_decode.specs.DecodedOffsets.{total_saved}
use Rattle.cesu8_decode.proofs.lengths.lossy_len_by_steps.Given as goal

abbrev pub invariant-loop-at : goal.invariant-loop-at
invariant-loop-at g l =
    (l.at ≤ length l.fn.bytes) × (l.len + total_saved g.F.Flavor.flavor l.fn.bytes ≡ 3 * length l.fn.bytes + total_saved g.F.Flavor.flavor (drop l.at l.fn.bytes))

abbrev pub decreases-loop-at : goal.decreases-loop-at
decreases-loop-at g l = length l.fn.bytes - l.at
