-- The loop ends, since each word takes eight bytes of the rest.
use Rattle.std.proofs.Common.{length}
use Rattle.workloads.proofs.digest.Digest.add_bytes.Given as goal

abbrev pub decreases-loop-word : goal.decreases-loop-word
decreases-loop-word l = length l.rest
