-- The prover proves this goal by itself. But `parse_returns_lossy_strict_for_lossy.edit` of
-- must-fail makes the goal false, and its search then meets a limit instead of showing that.
use Rattle.std.proofs.Common.{◌≡◌, [], ◌∷◌, map, arith}
use Rattle.std.specs.Prelude.{codes}
use Rattle.std.proofs.lemmas.Grind.{common_steps}
use Rattle.cesu8_cli_run.specs.Command.{word_of}
use Rattle.cesu8_cli_run.proofs.command.parse.Goals as goal

pub returns-in-lossy-default : goal.returns-in-lossy-default
returns-in-lossy-default c =
    let words : map (λ word. word.now) c.args.words.now ≡ codes "lossy" ∷ word_of c.match-flavor.flavor ∷ [] = grind (arith, common_steps) in
    words
