-- A surrogate pair and the two bytes after it as one word: the mask that recognizes the pair, and
-- the shifts that convert it to UTF-8.
use Rattle.std.proofs.lemmas.Bool.Decides.{nat_tests}
use Rattle.std.proofs.lemmas.Grind.{common_steps}
use Rattle.std.proofs.Common.{◌≡◌, ℕ, ◌&&◌, ◌+◌, ◌*◌, ◌/◌, ◌%◌, ◌^◌, ◌<◌, ◌↔◌, List, [], ◌∷◌, get_or, refl, ap, ◌∙◌, arith, bit_and, eqb, leb, ltb, w32}
use Rattle.std.specs.Int.{to_le_bytes}
use Rattle.std.proofs.lemmas.Bool.{agree_below_at, eq-eqb, eqb-true}
use Rattle.std.proofs.lemmas.Nat.{and_mask, and_block, and_le_r}
use Rattle.cesu8_text.specs.Text.{utf8_of}
use Rattle.cesu8_bytes.specs.Pairs.{HasPair, word_of}
use Rattle.cesu8_text.proofs.text.Shapes.{IsPair, utf8_of_pair}
use Rattle.cesu8_bytes.proofs.lists.Classes.{continues_by_bits}

-- Masking a word masks each of its bytes a, b, d, e, g and h. `more` has the last two, which the
-- mask clears. `and_block n` masks the bits from bit n on and those below it separately.
masked : (a b d e g h more : ℕ) → a < 0x100 → b < 0x100 → d < 0x100 → e < 0x100 → g < 0x100 → h < 0x100 →
    bit_and (word_of a b d e g h more) 0xC0F0FFC0F0FF
    ≡ a + bit_and b 0xF0 * 0x100 + bit_and d 0xC0 * 0x10000 + e * 0x1000000 + bit_and g 0xF0 * 0x100000000 + bit_and h 0xC0 * 0x10000000000
masked a b d e g h more a_byte b_byte d_byte e_byte g_byte h_byte =
    let whole : word_of a b d e g h more
    ≡ more * 2 ^ 48 + (h * 2 ^ 40 + (g * 2 ^ 32 + (e * 2 ^ 24 + (d * 2 ^ 16 + (b * 2 ^ 8 + a))))) = omega arith in
    rw (
      whole,
      and_block 48 more 0 (h * 2 ^ 40 + (g * 2 ^ 32 + (e * 2 ^ 24 + (d * 2 ^ 16 + (b * 2 ^ 8 + a))))) 0xC0F0FFC0F0FF (omega arith) (omega arith),
      and_block 40 h 0xC0 (g * 2 ^ 32 + (e * 2 ^ 24 + (d * 2 ^ 16 + (b * 2 ^ 8 + a)))) 0xF0FFC0F0FF (omega arith) (omega arith),
      and_block 32 g 0xF0 (e * 2 ^ 24 + (d * 2 ^ 16 + (b * 2 ^ 8 + a))) 0xFFC0F0FF (omega arith) (omega arith),
      and_block 24 e 0xFF (d * 2 ^ 16 + (b * 2 ^ 8 + a)) 0xC0F0FF (omega arith) (omega arith),
      and_block 16 d 0xC0 (b * 2 ^ 8 + a) 0xF0FF (omega arith) (omega arith),
      and_block 8 b 0xF0 a 0xFF (omega arith) (omega arith),
    ) (omega (arith, and_mask a 8, and_mask e 8, and_le_r more 0))

-- A byte is B0 to BF if and only if its upper four bits are those of B0. `agree_below_at` computes
-- that for all 256 bytes.
low_surrogate_test : (x : ℕ) → x < 0x100 → eqb (bit_and x 0xF0) 0xB0 ≡ (leb 0xB0 x && ltb x 0xC0)
low_surrogate_test x h = agree_below_at (λ x. eqb (bit_and x 0xF0) 0xB0) (λ x. leb 0xB0 x && ltb x 0xC0) 0x100 x refl h

-- A byte is A0 to AF if and only if its upper four bits are those of A0.
high_surrogate_test : (x : ℕ) → x < 0x100 → eqb (bit_and x 0xF0) 0xA0 ≡ (leb 0xA0 x && ltb x 0xB0)
high_surrogate_test x h = agree_below_at (λ x. eqb (bit_and x 0xF0) 0xA0) (λ x. leb 0xA0 x && ltb x 0xB0) 0x100 x refl h

-- A word passes the test if and only if its bytes begin with a surrogate pair.
pub word_decides : (bytes : List ℕ) (more : ℕ) → ((i : ℕ) → get_or bytes i 0 < 0x100) →
    (bit_and (word_of (get_or bytes 0 0) (get_or bytes 1 0) (get_or bytes 2 0) (get_or bytes 3 0) (get_or bytes 4 0) (get_or bytes 5 0) more) 0xC0F0FFC0F0FF
    ≡ 0x80B0ED80A0ED) ↔ HasPair bytes
word_decides bytes more byte =
    let is = masked _ _ _ _ _ _ more (byte 0) (byte 1) (byte 2) (byte 3) (byte 4) (byte 5) in
    let second = high_surrogate_test _ (byte 1) in
    let third = continues_by_bits _ (byte 2) in
    let fifth = low_surrogate_test _ (byte 4) in
    let last = continues_by_bits _ (byte 5) in (
      (λ passes. grind (arith, nat_tests, common_steps, and_le_r, eq-eqb, byte, is, second, third, fifth, last)),
      (λ pair. grind (arith, nat_tests, common_steps, eqb-true, byte, is, second, third, fifth, last)),
    )

-- The word of the UTF-8, as `utf8_of_pair` in src/pairs.rt computes it from the word of a surrogate
-- pair.
abbrev utf8_word : ℕ → ℕ
utf8_word word =
    0x808080F0 + bit_and ((word + 0x100) / 2 ^ 10) 0x0F07
    + bit_and (word + 0x100) 0x30300 * 2 ^ 4 % 2 ^ 64
    + bit_and ((word + 0x100) / 2 ^ 16) 0x3F0F0000

-- The bytes of a word of four bytes.
bytes_of_word : (p q r s : ℕ) → p < 0x100 → q < 0x100 → r < 0x100 → s < 0x100 →
    to_le_bytes w32 (p + q * 0x100 + r * 0x10000 + s * 0x1000000) ≡ p ∷ q ∷ r ∷ s ∷ []
bytes_of_word p q r s p_byte q_byte r_byte s_byte = grind arith

-- The bits of the UTF-8: some digits move down by ten bits, some up by four, and some down by
-- sixteen. The digits are w to z (`IsPair`). The word is that of the pair after 0x100 was added,
-- hence 0xA1. The masks clear the bytes a and e, which are ED in a pair, and `more`, which follows
-- it.
module _ (a w x e y z more : ℕ) (a_byte : a < 0x100) (w_low : w < 0x10) (x_low : x < 0x40)
    (e_byte : e < 0x100) (y_low : y < 0x10) (z_low : z < 0x40) where
  abbrev word : ℕ
  word = word_of a (0xA1 + w) (0x80 + x) e (0xB0 + y) (0x80 + z) more

  -- What the shift by ten bits leaves under its mask.
  by_ten : bit_and (word / 2 ^ 10) 0x0F07 ≡ (w + 1) / 4 + x / 4 * 0x100
  by_ten =
      let high = (0x80 + x) / 4 + e * 0x40 + (0xB0 + y) * 0x4000 + (0x80 + z) * 0x400000 + more * 0x40000000 in
      let low = (0xA1 + w) / 4 + x % 4 * 0x40 in
      let parts : word / 2 ^ 10 ≡ high * 2 ^ 8 + low = omega arith in
      rw (parts, and_block 8 high 0x0F low 7 (omega arith) (omega arith)) (omega (arith, and_mask high 4, and_mask low 3))

  -- What the mask leaves that the shift by four bits then moves.
  by_four : bit_and word 0x30300 ≡ (w + 1) % 4 * 0x100 + x % 4 * 0x10000
  by_four =
      let high = (0x80 + x) + e * 0x100 + (0xB0 + y) * 0x10000 + (0x80 + z) * 0x1000000 + more * 0x100000000 in
      let parts : word ≡ high * 2 ^ 16 + ((0xA1 + w) * 2 ^ 8 + a) = omega arith in
      rw (
        parts,
        and_block 16 high 3 ((0xA1 + w) * 2 ^ 8 + a) 0x300 (omega arith) (omega arith),
        and_block 8 (0xA1 + w) 3 a 0 (omega arith) (omega arith),
      ) (omega (arith, and_mask high 2, and_mask (0xA1 + w) 2, and_le_r a 0))

  -- What the shift by sixteen bits leaves under its mask.
  by_sixteen : bit_and (word / 2 ^ 16) 0x3F0F0000 ≡ y * 0x10000 + z * 0x1000000
  by_sixteen =
      let high = (0x80 + z) + more * 0x100 in
      let low = (0x80 + x) + e * 0x100 in
      let parts : word / 2 ^ 16 ≡ high * 2 ^ 24 + ((0xB0 + y) * 2 ^ 16 + low) = omega arith in
      rw (
        parts,
        and_block 24 high 0x3F ((0xB0 + y) * 2 ^ 16 + low) 0x0F0000 (omega arith) (omega arith),
        and_block 16 (0xB0 + y) 0x0F low 0 (omega arith) (omega arith),
      ) (omega (arith, and_mask high 6, and_mask (0xB0 + y) 4, and_le_r low 0))

-- The computed word has the bytes of the character's UTF-8. `flat` sorts the sum of the moved
-- digits by the bytes in which they are.
pub utf8_word_is : (c w x y z a e more word : ℕ) → IsPair c w x y z → a < 0x100 → e < 0x100 →
    word ≡ word_of a (0xA0 + w) (0x80 + x) e (0xB0 + y) (0x80 + z) more → to_le_bytes w32 (utf8_word word) ≡ utf8_of c
utf8_word_is c w x y z a e more word digits a_byte e_byte word_is =
    let next : word + 0x100 ≡ word_of a (0xA1 + w) (0x80 + x) e (0xB0 + y) (0x80 + z) more = omega arith in
    let moved : ((w + 1) % 4 * 0x100 + x % 4 * 0x10000) * 2 ^ 4 % 2 ^ 64 ≡ (w + 1) % 4 * 0x1000 + x % 4 * 0x100000 = omega arith in
    let flat : 0x808080F0 + ((w + 1) / 4 + x / 4 * 0x100) + ((w + 1) % 4 * 0x1000 + x % 4 * 0x100000) + (y * 0x10000 + z * 0x1000000)
    ≡ 0xF0 + (w + 1) / 4 + (0x80 + ((w + 1) % 4 * 0x10 + x / 4)) * 0x100 + (0x80 + (x % 4 * 0x10 + y)) * 0x10000 + (0x80 + z) * 0x1000000 =
    omega arith in
    rw (
      next,
      by_ten a w x e y z more a_byte digits.first digits.second e_byte digits.third digits.last,
      by_four a w x e y z more a_byte digits.first digits.second e_byte digits.third digits.last,
      by_sixteen a w x e y z more a_byte digits.first digits.second e_byte digits.third digits.last,
      moved,
      utf8_of_pair c w x y z digits,
    ) (ap (to_le_bytes w32) flat ∙ bytes_of_word _ _ _ _ (omega arith) (omega arith) (omega arith) (omega arith))
