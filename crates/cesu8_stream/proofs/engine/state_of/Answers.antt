-- One proof for each state: nothing is left, a character is left that did not fit, a part of a
-- character is left, or no character can begin what is left. The last has two cases: `may_begin`
-- returned false, or there are six bytes or more, and no character is longer.
use Rattle.std.proofs.Common.{◌≡◌, length, arith, ap}
use Rattle.std.proofs.lemmas.Bool.Decides.{nat_tests}
use Rattle.cesu8_stream.specs.Written.{IsPartial}
use Rattle.cesu8_stream.proofs.First.{Sizes, never_begins}
use Rattle.cesu8_stream.proofs.States.{empty_state, full_state, partial_state, malformed_state, valid_begins, empty_length}
use Rattle.cesu8_stream.proofs.engine.state_of.Goals as goal
use Rattle.cesu8_stream.proofs.engine.state_of.Goals.{else-rest-lt-LONGEST-via-then-rest-lt-LONGEST+else-may_begin, else-rest-lt-LONGEST-via-else-rest-lt-LONGEST}

pub returns-then-is_empty : goal.returns-then-is_empty
returns-then-is_empty g c =
    let sizes : Sizes g.C.Conversion.from =
    record { some = c.laws.ensures.at_least_one; few = c.laws.ensures.at_most_six } in
    let none : length c.args.rest.now ≡ 0 = let e = c.if-is_empty.ensures in grind (arith, nat_tests) in
    empty_state g.C.Conversion.from c.args.rest.now sizes (empty_length c.args.rest.now none)

pub returns-then-first_len-gt0 : goal.returns-then-first_len-gt0
returns-then-first_len-gt0 g c =
    let sizes : Sizes g.C.Conversion.from =
    record { some = c.laws.ensures.at_least_one; few = c.laws.ensures.at_most_six } in
    let valid = c.first_len.ensures.valid in
    let found = valid_begins g.C.Conversion.from c.args.rest.now c.first_len.result c.laws.ensures.append_from
    c.laws.ensures.from_empty c.if-first_len-gt0.true c.first_len.ensures.within valid.0 valid.1 in
    full_state g.C.Conversion.from c.args.rest.now found.0 sizes found.1

pub returns-then-may_begin : goal.returns-then-may_begin
returns-then-may_begin g c =
    let none = c.if-first_len-gt0.false in
    let zero : c.first_len.result ≡ 0 = omega arith in
    let few = c.if-rest-lt-LONGEST.true in
    let partial : IsPartial g.C.Conversion.from c.args.rest.now = record {
      nonempty = (λ empty. let e = c.if-is_empty.ensures in let n = ap length empty in absurd (grind (arith, nat_tests)));
      none_begins = c.first_len.ensures.none zero;
      may_begin = c.may_begin.ensures.0 c.if-may_begin.true;
    } in
    partial_state g.C.Conversion.from c.args.rest.now partial (omega arith)

pub returns : goal.returns
returns g c =
    let sizes : Sizes g.C.Conversion.from =
    record { some = c.laws.ensures.at_least_one; few = c.laws.ensures.at_most_six } in
    let none = c.if-first_len-gt0.false in
    let zero : c.first_len.result ≡ 0 = omega arith in
    elim c.else-rest-lt-LONGEST.branch [
      | else-rest-lt-LONGEST-via-then-rest-lt-LONGEST+else-may_begin w ↦
          malformed_state g.C.Conversion.from c.args.rest.now
          (λ more d b. absurd (let may = w.may_begin.ensures.1 (more, d, b) in let is_false = w.if-may_begin.false in cc))
      | else-rest-lt-LONGEST-via-else-rest-lt-LONGEST w ↦
          malformed_state g.C.Conversion.from c.args.rest.now
          (never_begins g.C.Conversion.from c.args.rest.now sizes (c.first_len.ensures.none zero) w.if-rest-lt-LONGEST.false)
    ]
