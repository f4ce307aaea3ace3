-- The loop tests the last five offsets before the place. If no character crosses the place from one
-- of these, none does at all, since a character has at most six bytes.
use Rattle.std.proofs.Common.{◌-◌, ◌≤◌, ◌∷◌, [], ℕ, length, drop, arith, inl, inr}
use Rattle.std.proofs.lemmas.Bool.{cases_lt}
use Rattle.std.proofs.lemmas.List.{take_rest}
use Rattle.cesu8_stream.specs.Written.{Begins}
use Rattle.cesu8_stream.proofs.First.{Sizes, first_within}
use Rattle.cesu8_stream.proofs.Cuts.{one_more, none_crosses}
use Rattle.cesu8_stream.proofs.cut.is_cut.Goals as goal

pub loop-start-init : goal.loop-start-init
loop-start-init g c = λ i d low near b. absurd (let e = c.saturating_sub-start.ensures in omega arith)

pub loop-start-preserved : goal.loop-start-preserved
loop-start-preserved g c =
    let from = g.C.Conversion.from in
    let bytes = c.args.bytes.now in
    let start = c.loop-start.start in
    let laws = c.laws.ensures in
    let rest = drop start bytes in
    let len = c.first_len.result in
    let fits = c.if-first_len-place.false in
    let within : len ≤ length rest = rw take_rest at c.first_len.ensures.within in
    let found = rw take_rest at c.first_len.ensures.valid in
    let none = rw take_rest at c.first_len.ensures.none in
    let here : (d : ℕ) → Begins from rest d → length (from (d ∷ [])) ≤ c.args.place - start =
    λ d b. elim (cases_lt 0 len) [
      | inl some ↦
          let short = first_within from rest found.0 len d laws.append_from laws.from_empty laws.one_begins some within
          found.1 b in
          omega arith
      | inr zero ↦ absurd (none (omega arith) d b)
    ] in
    one_more from bytes c.args.place start c.loop-start-test.true c.loop-start.invariant here

pub returns : goal.returns
returns g c = λ _ more.
    let sizes : Sizes g.C.Conversion.from =
    record { some = c.laws.ensures.at_least_one; few = c.laws.ensures.at_most_six } in
    let done = c.loop-start-test.false in
    none_crosses g.C.Conversion.from c.args.bytes.now more c.args.place sizes c.requires
    (λ i d low near b. c.loop-start.invariant i d (omega arith) near b)
