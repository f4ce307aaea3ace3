-- The prover proves this goal by itself too. The search given here fails sooner if an edit of
-- must-fail makes the goal false.
use Rattle.std.proofs.Common.{rules}
use Rattle.java_text.proofs.read_utf_lossy.Goals as goal

pub returns-clause-reading : goal.returns-clause-reading
returns-clause-reading c = search rules
