-- No byte before the offset is in the class.
use Rattle.std.proofs.Common.{ℕ, Bool, ◌-◌}
use Rattle.cesu8_bytes.specs.Kernels.{FindsInWords}
use Rattle.cesu8_bytes.proofs.lists.EightElements.{NoneUpTo}
use Rattle.cesu8_bytes.proofs.words.test_word_any.Given as goal

abbrev pub invariant-loop-offset : goal.invariant-loop-offset
invariant-loop-offset g l = (class : ℕ → Bool) → FindsInWords g.T.Fn l.test class →
    NoneUpTo class l.value l.offset

abbrev pub decreases-loop-offset : goal.decreases-loop-offset
decreases-loop-offset g l = l.last - l.offset
