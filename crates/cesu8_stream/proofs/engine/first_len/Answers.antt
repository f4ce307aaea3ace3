-- The lengths 1 to 6 are tried in this order. The first at which the bytes are a text is that of
-- the first character. If there is none, or if the longest valid prefix of the first six bytes is
-- empty, no character begins the input.
use Rattle.std.proofs.Common.{◌+◌, ◌<◌, arith, subst, sym, length, take, drop}
use Rattle.std.proofs.lemmas.Grind.{common_steps}
use Rattle.cesu8_stream.specs.Written.{BeginsNone}
use Rattle.cesu8_stream.proofs.First.{Sizes, none_up_to, none_of_six, none_of_first}
use Rattle.cesu8_stream.proofs.engine.first_len.Goals as goal

pub loop-len-init : goal.loop-len-init
loop-len-init g c = λ n some few. absurd (omega arith)

pub returns-then-whole-gt0-clause-least : goal.returns-then-whole-gt0-clause-least
returns-then-whole-gt0-clause-least g c = λ n some few.
    c.loop-len.invariant n some (let w = c.valid_up_to-whole.ensures.within in grind (arith, common_steps))

pub loop-len-preserved : goal.loop-len-preserved
loop-len-preserved g c =
    let few = c.loop-len-test.true in
    let most = c.min-most.ensures in
    let some = c.loop-len.auto.len in
    none_up_to g.C.Conversion.from c.args.bytes.now c.loop-len.len c.valid_up_to-whole.result c.loop-len.invariant
    c.if-whole-gt0.false (omega arith) c.valid_up_to-whole.ensures.stops

pub returns-clause-none : goal.returns-clause-none
returns-clause-none g c = λ _.
    let sizes : Sizes g.C.Conversion.from =
    record { some = c.laws.ensures.at_least_one; few = c.laws.ensures.at_most_six } in
    let most = c.min-most.ensures in
    let all = c.loop-len-test.false in
    none_of_six g.C.Conversion.from c.args.bytes.now (c.min-most.result + 1) sizes (omega arith)
    (λ m some few. c.loop-len.invariant m some (omega arith))

pub returns-then-valid_up_to-eq0-clause-none : goal.returns-then-valid_up_to-eq0-clause-none
returns-then-valid_up_to-eq0-clause-none g c = λ _.
    let sizes : Sizes g.C.Conversion.from =
    record { some = c.laws.ensures.at_least_one; few = c.laws.ensures.at_most_six } in
    let front = take c.min-most.result c.args.bytes.now in
    let zero = c.if-valid_up_to-eq0.true in
    none_of_first g.C.Conversion.from c.args.bytes.now c.min-most.result sizes c.min-most.ensures
    (λ some. subst (λ k. BeginsNone g.C.Conversion.from (drop k front)) zero
    (c.valid_up_to.ensures.stops (subst (λ k. k < length front) (sym zero) some)))
