-- The valid prefix is the longest one with a strict reading. So all bytes have one exactly if the
-- prefix is all of them, and their strict reading is then their lossy one.
use Rattle.std.proofs.Common.{◌≡◌, ◌∙◌, ap, length, subst, sym, take, arith}
use Rattle.std.proofs.Math.Seq.{take-length}
use Rattle.std.proofs.lemmas.Bool.{ltb-true, ltb-false}
use Rattle.cesu8_text.specs.Reading.{HasNoStrictReading, IsStrictReading, reading}
use Rattle.cesu8_text.proofs.reading.EncodedTexts.{reading_encoding}
use Rattle.cesu8_decode.proofs.valid.is_ill_formed.Goals as goal

pub returns-clause-ill_formed : goal.returns-clause-ill_formed
returns-clause-ill_formed g c fewer =
    let f = g.F.Flavor.flavor in
    let bytes = c.args.bytes.now in
    subst (HasNoStrictReading f) (take-length bytes) (c.valid_up_to_other.ensures.greatest (length bytes) (ltb-true _ _ fewer) (omega arith))

pub returns-clause-whole : goal.returns-clause-whole
returns-clause-whole g c none =
    let f = g.F.Flavor.flavor in
    let bytes = c.args.bytes.now in
    let prefix = c.valid_up_to_other.ensures in
    let text = prefix.valid.0 in
    let all : c.valid_up_to_other.result ≡ length bytes = omega (arith, prefix.within, ltb-false _ _ none) in
    let reads = prefix.valid.1.1 ∙ ap (λ n. take n bytes) all ∙ take-length bytes in
    subst (IsStrictReading f bytes) (sym (reading_encoding f text prefix.valid.1.0) ∙ ap (reading f) reads) (prefix.valid.1.0, reads)
