-- Masking the word masks each of its bytes. The masked word is the constant if and only if each of
-- its first six bytes has the bits that the pattern of a pair gives it. The other two are cleared.
use Rattle.std.proofs.Common.{◌∙◌, ◌+◌, ◌*◌, ◌<◌, ℕ, ap, sym, get_or, bit_and, arith}
use Rattle.std.proofs.lemmas.Bool.{eqb-true, eq-eqb}
use Rattle.cesu8_bytes.proofs.chunks.PairWords.{word_decides}
use Rattle.cesu8_bytes.proofs.pairs.is_pair.Goals as goal

pub returns : goal.returns
returns c =
    let b = get_or c.args.bytes.now in
    let byte : (i : ℕ) → b i 0 < 0x100 = λ i. omega (arith, c.type_inv.bytes i) in
    let decides = word_decides c.args.bytes.now (b 6 0 + b 7 0 * 0x100) byte in
    let tested = ap (λ word. bit_and word 0xC0F0FFC0F0FF) c.first_word.ensures in
    ((λ passes. decides.0 (sym tested ∙ eqb-true _ _ passes)), (λ pair. eq-eqb _ _ (tested ∙ decides.1 pair)))
