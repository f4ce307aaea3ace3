-- The function appends to the bytes the last bytes of either of two known characters. If a
-- character begins the result, the bytes are a truncated one. Conversely, if any bytes complete
-- them, those of one of the two do, by the clause `completed` of `laws`.
use Rattle.std.proofs.Common.{◌<◌, ◌++◌, drop, length, inl, inr, ap, ◌∙◌, arith}
use Rattle.std.proofs.lemmas.Bool.Decides.{nat_tests}
use Rattle.cesu8_stream.proofs.Completions.{IsTested, found_begins, begins_found}
use Rattle.cesu8_stream.proofs.completion.may_begin.Goals as goal

pub returns-then-valid_up_to-gt0 : goal.returns-then-valid_up_to-gt0
returns-then-valid_up_to-gt0 g c =
    let from = g.C.Conversion.from in
    let bytes = c.args.bytes.now in
    let tail = drop (length bytes) g.C.Conversion.first_completion in
    let whole = c.completed.ensures ∙ ap (λ bs. bytes ++ drop (length bytes) bs) c.completions.ensures.first in
    let test : IsTested from bytes tail c.completed.result c.valid_up_to.result = record {
      completed = whole;
      nonempty = c.requires.nonempty;
      valid = c.valid_up_to.ensures.valid;
      stops = c.valid_up_to.ensures.stops;
    } in
    let found = c.if-valid_up_to-gt0.true in (
      (λ _. found_begins from bytes tail c.completed.result c.valid_up_to.result c.laws.ensures.append_from
          c.laws.ensures.from_empty test found),
      (λ _. grind (arith, nat_tests)),
    )

pub returns-else-valid_up_to-gt0 : goal.returns-else-valid_up_to-gt0
returns-else-valid_up_to-gt0 g c =
    let from = g.C.Conversion.from in
    let bytes = c.args.bytes.now in
    let one = drop (length bytes) g.C.Conversion.first_completion in
    let other = drop (length bytes) g.C.Conversion.second_completion in
    let n = c.valid_up_to.result in
    let m = c.valid_up_to-else-valid_up_to-gt0.result in
    let whole = c.completed-else-valid_up_to-gt0.result in
    let first : IsTested from bytes one c.completed.result n = record {
      completed = c.completed.ensures ∙ ap (λ bs. bytes ++ drop (length bytes) bs) c.completions.ensures.first;
      nonempty = c.requires.nonempty;
      valid = c.valid_up_to.ensures.valid;
      stops = c.valid_up_to.ensures.stops;
    } in
    let second : IsTested from bytes other whole m = record {
      completed = c.completed-else-valid_up_to-gt0.ensures
          ∙ ap (λ bs. bytes ++ drop (length bytes) bs) c.completions.ensures.second;
      nonempty = c.requires.nonempty;
      valid = c.valid_up_to-else-valid_up_to-gt0.ensures.valid;
      stops = c.valid_up_to-else-valid_up_to-gt0.ensures.stops;
    } in (
      (λ t. found_begins from bytes other whole m c.laws.ensures.append_from c.laws.ensures.from_empty second
          (grind (arith, nat_tests))),
      (λ may.
          let found : 0 < m =
          elim (c.laws.ensures.completed bytes may.0 may.1 c.requires.nonempty c.requires.none_begins may.2) [
            | inl b ↦
                let f = begins_found from bytes one c.completed.result n first b in
                let none = c.if-valid_up_to-gt0.false in
                omega arith
            | inr b ↦ begins_found from bytes other whole m second b
          ] in
          grind (arith, nat_tests)),
    )
