-- Nothing is read in two cases. After `Some`, no character begins the input. After `None`, the text
-- with the fewest bytes at the start of the input does not fit the buffer. It is the first
-- character, so no character that begins the input fits.
use Rattle.std.proofs.Common.{◌≡◌, length, inl, inr, arith}
use Rattle.std.proofs.lemmas.Bool.{cases_lt}
use Rattle.cesu8_stream.proofs.First.{Sizes, shortest_is_first}
use Rattle.cesu8_stream.proofs.engine.convert_first.Goals as goal

pub returns-in-Some-clause-stuck : goal.returns-in-Some-clause-stuck
returns-in-Some-clause-stuck g c = λ zero d b. absurd (c.first_len-len.ensures.none zero d b)

pub returns-in-None-clause-stuck : goal.returns-in-None-clause-stuck
returns-in-None-clause-stuck g c = λ _ d b.
    let len = c.first_len-len.result in
    let laws = c.laws.ensures in
    let sizes : Sizes g.C.Conversion.from = record { some = laws.at_least_one; few = laws.at_most_six } in
    let valid = c.first_len-len.ensures.valid in
    elim (cases_lt 0 len) [
      | inl some ↦
          shortest_is_first g.C.Conversion.from g.C.Conversion.to c.args.bytes.now len d (length c.args.buf.now)
          laws.append_from sizes laws.from_empty some laws.one_begins c.first_len-len.ensures.least
          valid.0 valid.1 c.first_len-len.ensures.within b c.in-None.ensures.none
      | inr none ↦ absurd (c.first_len-len.ensures.none (let zero : len ≡ 0 = omega arith in zero) d b)
    ]
