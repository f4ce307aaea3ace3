-- So far some strings, each after its length, were read from the source and appended to the target.
-- The rest becomes shorter with each string.
use Rattle.std.proofs.Common.{length}
use Rattle.uses.proofs.CopiedStrings.{CopiedSoFar}
use Rattle.uses.proofs.string_file.append_strings.Given as goal

abbrev pub invariant-loop-rest : goal.invariant-loop-rest
invariant-loop-rest l = CopiedSoFar l.source l.rest l.initial.target.items l.target.items l.count

abbrev pub decreases-loop-rest : goal.decreases-loop-rest
decreases-loop-rest l = length l.rest
