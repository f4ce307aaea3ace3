-- Each step adds one form, a string after its length, to those that were read (`one_copied`). If no
-- form begins the rest, the source is no sequence of forms at all (`none_are_read`).
use Rattle.std.proofs.Common.{◌≡◌, [], length, rules, arith, ap}
use Rattle.std.proofs.lemmas.Grind.{common_steps}
use Rattle.uses.proofs.CopiedStrings.{one_copied, none_are_read}
use Rattle.uses.proofs.string_file.append_strings.Goals as goal

pub returns-in_err-text-clause-refused : goal.returns-in_err-text-clause-refused
returns-in_err-text-clause-refused c =
    let some_left : c.loop-rest.rest.now ≡ [] → ⊥ =
    λ none. let len = ap length none in grind (arith, common_steps) in
    let none = none_are_read c.in_turn.ensures.none_follows c.in_err-text.field-0.0 c.loop-rest.invariant some_left
    c.in_err-text.ensures.refused in
    search (rules, none)

-- Two paths of the code end an iteration, both after `Ok` and with the same facts.
pub loop-rest-preserved-in-Ok : goal.loop-rest-preserved-in-Ok
loop-rest-preserved-in-Ok c =
    one_copied c.bounds.ensures c.in_turn.ensures.one_more c.loop-rest.invariant c.in_ok-text.ensures.text
    (rw c.as_str.ensures at c.in-Ok.ensures.ok)

pub loop-rest-preserved : goal.loop-rest-preserved
loop-rest-preserved c =
    one_copied c.bounds.ensures c.in_turn.ensures.one_more c.loop-rest.invariant c.in_ok-text.ensures.text
    (rw c.as_str.ensures at c.in-Ok.ensures.ok)
