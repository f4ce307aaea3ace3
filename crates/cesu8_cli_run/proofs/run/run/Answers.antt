-- The prover proves these goals by itself. The search given here fails sooner if an edit of
-- must-fail makes one of them false.
use Rattle.std.proofs.Common.{rules}
use Rattle.cesu8_cli_run.proofs.run.run.Goals as goal

pub returns-in_default-clause-usage : goal.returns-in_default-clause-usage
returns-in_default-clause-usage g c = search rules

pub returns-in_default-clause-unread : goal.returns-in_default-clause-unread
returns-in_default-clause-unread g c = search rules

pub returns-clause-ok : goal.returns-clause-ok
returns-clause-ok g c = search rules

pub returns-clause-refused : goal.returns-clause-refused
returns-clause-refused g c = search rules

pub returns-clause-unwritten : goal.returns-clause-unwritten
returns-clause-unwritten g c = search rules

pub returns-clause-io : goal.returns-clause-io
returns-clause-io g c = search rules
