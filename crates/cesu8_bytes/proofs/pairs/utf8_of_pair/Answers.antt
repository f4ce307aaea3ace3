-- The word has the first eight bytes, the first in its lowest byte. In a pair the second byte is
-- below B0. So adding 0x100 to the word does not wrap, and the shifts move its digits to the bytes
-- of the character's UTF-8 (`utf8_word_is`).
use Rattle.std.proofs.Common.{◌≡◌, ◌∙◌, ◌+◌, ◌*◌, ◌^◌, ◌%◌, ◌<◌, ℕ, refl, get_or, arith}
use Rattle.cesu8_bytes.proofs.chunks.PairWords.{utf8_word_is}
use Rattle.cesu8_bytes.proofs.pairs.utf8_of_pair.Goals as goal

pub returns : goal.returns
returns c scalar w x y z digits four_is =
    let b = get_or c.args.bytes.now in
    let byte : (i : ℕ) → b i 0 < 0x100 = λ i. omega (arith, c.type_inv.bytes i) in
    let second : b 1 0 ≡ 0xA0 + w = cc in
    let third : b 2 0 ≡ 0x80 + x = cc in
    let fifth : b 4 0 ≡ 0xB0 + y = cc in
    let sixth : b 5 0 ≡ 0x80 + z = cc in
    let word = c.first_word-word.result in
    let no_wrap : (word + 0x100) % 2 ^ 64 ≡ word + 0x100 =
    omega (arith, c.first_word-word.ensures, second, digits.first, byte 0, byte 2, byte 3, byte 4, byte 5, byte 6, byte 7) in
    c.to_le_bytes.ensures
    ∙ rw no_wrap
    (utf8_word_is scalar w x y z (b 0 0) (b 3 0) (b 6 0 + b 7 0 * 0x100) word digits
    (byte 0) (byte 3) (c.first_word-word.ensures ∙ rw (second, third, fifth, sixth) refl))
