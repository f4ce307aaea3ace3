-- What is written for each byte of UTF-8, from the byte and its neighbors, is together the
-- encoding. `encoded_byte f x y b n` is what is written for the byte b, if x and y precede it and n
-- follows. `encoded_bytes f v i n` is what is written for n bytes of v, from offset i + 2 on.
use Rattle.std.proofs.lemmas.Bool.Decides.{nat_tests}
use Rattle.std.proofs.lemmas.Grind.{common_steps}
use Rattle.std.proofs.Common.{◌≡◌, ℕ, zero, suc, ◌+◌, ◌*◌, ◌/◌, ◌%◌, ◌<◌, ◌≤◌, true, false, List, [], ◌∷◌, ◌++◌, refl, sym, ap, ◌∙◌, arith, length, get_or, eqb, bit_and, bit_or, eqb-true}
use Rattle.std.specs.Str.{chars, IsUtf8}
use Rattle.std.proofs.lemmas.Bool.{agree_below_at, lt-leb, le-leb, ne_eqb, cases_eq}
use Rattle.std.proofs.lemmas.Nat.{and_mask, or_shifted}
use lib.Bits.{or_add_and, and_zero_r}
use Rattle.cesu8_text.specs.Text.{IsText, utf8_of, utf8}
use Rattle.cesu8_text.specs.Encoding.{Flavor, Cesu8, Mutf8, encoding, short_form}
use Rattle.cesu8_text.specs.Class.{is_null}
use Rattle.cesu8_encode.specs.EncodedOffsets.{six_bits, encoded_byte, encoded_bytes, recoded}
use Rattle.cesu8_text.proofs.StdUtf8.{IsUtf8Of_chars}
use Rattle.cesu8_text.proofs.text.Shapes.{Shape, IsPair, one, two, three, pair, shape, utf8_of_one, utf8_of_two, utf8_of_three, utf8_of_pair}
use Rattle.cesu8_text.proofs.encoding.Forms.{encoding_one, encoding_two, encoding_three, encoding_pair, short_form_other}
use Rattle.cesu8_text.proofs.encoding.Encodings.{encoding_nil, encoding_cons}

-- What is written for n bytes depends only on n + 3 bytes of the window: windows that have equal
-- bytes there give equal bytes.
pub encoded_bytes_agree : (f : Flavor) (v w : List ℕ) (i j n : ℕ) → ((k : ℕ) → k < n + 3 → get_or v (i + k) 0 ≡ get_or w (j + k) 0) →
    encoded_bytes f v i n ≡ encoded_bytes f w j n
unfolding encoded_bytes
encoded_bytes_agree f v w i j zero h = refl
encoded_bytes_agree f v w i j (suc n) h =
    let i0 : i ≡ i + 0 = omega arith in
    let j0 : j + 0 ≡ j = omega arith in
    let first : get_or v i 0 ≡ get_or w j 0 = ap (λ k. get_or v k 0) i0 ∙ h 0 (omega arith) ∙ ap (λ k. get_or w k 0) j0 in
    let rest : (k : ℕ) → k < n + 3 → get_or v (i + 1 + k) 0 ≡ get_or w (j + 1 + k) 0 = λ k l.
    (let ik : i + 1 + k ≡ i + (k + 1) = omega arith in
    let jk : j + (k + 1) ≡ j + 1 + k = omega arith in
    ap (λ m. get_or v m 0) ik ∙ h (k + 1) (omega arith) ∙ ap (λ m. get_or w m 0) jk) in
    rw (first, h 1 (omega arith), h 2 (omega arith), h 3 (omega arith), encoded_bytes_agree f v w (i + 1) (j + 1) n rest) refl

-- What is written for a list of bytes that follows two others.
written : Flavor → ℕ → ℕ → List ℕ → List ℕ
written f x y [] = []
written f x y (b ∷ bytes) = encoded_byte f x y b (get_or bytes 0 0) ++ written f y b bytes

-- ---- the definition by offsets, and the one along the list

-- A byte before the window does not matter.
all_later : (f : Flavor) (x : ℕ) (window : List ℕ) (i n : ℕ) → encoded_bytes f (x ∷ window) (i + 1) n ≡ encoded_bytes f window i n
all_later f x window i n = encoded_bytes_agree f (x ∷ window) window (i + 1) i n (λ k l.
    let next : i + 1 + k ≡ suc (i + k) = omega arith in
    ap (λ m. get_or (x ∷ window) m 0) next)

-- The definition by offsets and the one along the list agree.
by_offsets : (f : Flavor) (x y : ℕ) (bytes : List ℕ) → encoded_bytes f (x ∷ y ∷ bytes) 0 (length bytes) ≡ written f x y bytes
unfolding written encoded_bytes
by_offsets f x y [] = refl
by_offsets f x y (b ∷ bytes) =
    ap (λ l. encoded_byte f x y b (get_or bytes 0 0) ++ l) (all_later f x (y ∷ b ∷ bytes) 0 (length bytes) ∙ by_offsets f y b bytes)

-- ---- what is written for one byte

-- Joining no bits changes nothing.
pub or_zero : (a : ℕ) → bit_or a 0 ≡ a
or_zero a = omega (arith, or_add_and a 0, and_zero_r a)

-- If neither the byte nor the two before it lead four bytes, the byte is unchanged, except that
-- MUTF-8 writes 0 as C0 80. `short_form` is used here for bytes from 80 (hexadecimal) on too.
plain : (f : Flavor) (x y b n : ℕ) → x < 0xF0 → y < 0xF0 → b < 0xF0 → encoded_byte f x y b n ≡ short_form f b
plain f x y b n hx hy hb = grind (arith, nat_tests, common_steps, cases_eq, lt-leb, ne_eqb, or_zero)

-- If the byte is not 0, and neither it nor the two before it lead four bytes, it is unchanged.
same : (f : Flavor) (x y b n : ℕ) → x < 0xF0 → y < 0xF0 → b < 0xF0 → 0 < b → encoded_byte f x y b n ≡ b ∷ []
same f x y b n hx hy hb some = plain f x y b n hx hy hb ∙ short_form_other f b (λ null. omega arith)

-- A byte other than 0 is no null.
not_null : (f : Flavor) (b : ℕ) → 0 < b → is_null f b ≡ false
not_null Cesu8 b some = refl
not_null Mutf8 b some = ne_eqb b 0 (λ null. omega arith)

-- The six bits as arithmetic on the two bytes.
six_bits_by_digits : (b n : ℕ) → b < 0x100 → six_bits b n ≡ b % 0x10 * 4 + n / 0x10 % 4
six_bits_by_digits b n h =
    let high : bit_and (b * 4 % 0x100) 0x3C ≡ b % 0x10 * 4 =
    eqb-true _ _ (agree_below_at (λ b. eqb (bit_and (b * 4 % 0x100) 0x3C) (b % 0x10 * 4)) (λ _. true) 0x100 b refl h) in
    let low : bit_and (n / 0x10) 3 ≡ n / 0x10 % 4 = and_mask (n / 0x10) 2 in
    rw (high, low) (or_shifted (b % 0x10) 2 (n / 0x10 % 4) (omega arith))

-- The second byte of a low surrogate.
low_surrogate : (c : ℕ) → c < 0x40 → bit_or (0x80 + c) 0x30 ≡ 0xB0 + c % 0x10
low_surrogate c h = eqb-true _ _ (agree_below_at (λ c. eqb (bit_or (0x80 + c) 0x30) (0xB0 + c % 0x10)) (λ _. true) 0x40 c refl h)

-- What is written for the first of four bytes.
lead_offset : (f : Flavor) (x y a b : ℕ) → 0xF0 ≤ a → encoded_byte f x y a b ≡ 0xED ∷ (six_bits a b + 0x9F) ∷ []
lead_offset f x y a b h = rw (le-leb 0xF0 a h, not_null f a (omega arith)) refl

-- What is written for the second of four bytes.
second_offset : (f : Flavor) (x a b c : ℕ) → x < 0xF0 → 0xF0 ≤ a → b < 0xF0 → 0 < b → encoded_byte f x a b c ≡ (six_bits b c + 0x80) ∷ []
second_offset f x a b c hx ha hb some = rw (lt-leb 0xF0 x hx, le-leb 0xF0 a ha, lt-leb 0xF0 b hb, not_null f b some) refl

-- What is written for the third of four bytes.
third_offset : (f : Flavor) (a b c d : ℕ) → 0xF0 ≤ a → b < 0xF0 → c < 0xF0 → 0 < c → encoded_byte f a b c d ≡ 0xED ∷ bit_or c 0x30 ∷ []
third_offset f a b c d ha hb hc some =
    rw (le-leb 0xF0 a ha, lt-leb 0xF0 b hb, lt-leb 0xF0 c hc, not_null f c some, or_zero (bit_or c 0x30)) refl

-- ---- what is written for one character

-- What is written for a character of four bytes is its surrogate pair. The digits w to z are the
-- parts of its value that the four bytes other than ED hold. The bytes p and q precede the
-- character, and `encoded` is what is written for the rest.
pair_written : (f : Flavor) (c w x y z p q : ℕ) (rest encoded : List ℕ) → IsPair c w x y z → p < 0xF0 → q < 0xF0 →
    ((p q : ℕ) → p < 0xF0 → q < 0xF0 → written f p q rest ≡ encoded) →
    written f p q ((0xF0 + (w + 1) / 4) ∷ (0x80 + ((w + 1) % 4 * 0x10 + x / 4)) ∷ (0x80 + (x % 4 * 0x10 + y)) ∷ (0x80 + z) ∷ rest)
    ≡ 0xED ∷ (0xA0 + w) ∷ (0x80 + x) ∷ 0xED ∷ (0xB0 + y) ∷ (0x80 + z) ∷ encoded
unfolding written
pair_written f c w x y z p q rest encoded digits hp hq continues = grind (arith, nat_tests, common_steps, lead_offset, low_surrogate, same, second_offset, six_bits_by_digits, third_offset)

-- What is written for any character is its encoding.
character_written : (f : Flavor) (c p q : ℕ) (rest encoded : List ℕ) → Shape c → p < 0xF0 → q < 0xF0 →
    ((p q : ℕ) → p < 0xF0 → q < 0xF0 → written f p q rest ≡ encoded) →
    written f p q (utf8_of c ++ rest) ≡ encoding f (c ∷ []) ++ encoded
unfolding written
character_written f c p q rest encoded (one ascii) hp hq continues =
    grind (arith, nat_tests, common_steps, utf8_of_one, encoding_one, plain)
character_written f c p q rest encoded (two x y digits) hp hq continues =
    rw (utf8_of_two c x y digits, encoding_two f c x y digits) (grind (arith, nat_tests, common_steps, same))
character_written f c p q rest encoded (three x y z digits) hp hq continues =
    rw (utf8_of_three c x y z digits, encoding_three f c x y z digits) (grind (arith, nat_tests, common_steps, same))
character_written f c p q rest encoded (pair w x y z digits) hp hq continues =
    rw (utf8_of_pair c w x y z digits, encoding_pair f c w x y z digits)
    (pair_written f c w x y z p q rest encoded digits hp hq continues)

-- What is written for a text's UTF-8, whatever precedes it without a four-byte lead, is its
-- encoding.
text_written : (f : Flavor) (text : List ℕ) → IsText text → (p q : ℕ) → p < 0xF0 → q < 0xF0 → written f p q (utf8 text) ≡ encoding f text
unfolding written
text_written f [] is_text p q hp hq = sym (encoding_nil f)
text_written f (c ∷ text) is_text p q hp hq =
    character_written f c p q (utf8 text) (encoding f text) (shape c is_text.0) hp hq (text_written f text is_text.1)
    ∙ sym (encoding_cons f c text)

-- What is written for a text's UTF-8, with zeros around it, is its encoding.
recoded_utf8 : (f : Flavor) (text : List ℕ) → IsText text → recoded f (utf8 text) ≡ encoding f text
recoded_utf8 f text is_text = by_offsets f 0 0 (utf8 text) ∙ text_written f text is_text 0 0 (omega arith) (omega arith)

-- What is written for the bytes of a string in std is its encoding.
pub recoded_chars : (f : Flavor) (bytes text : List ℕ) → text ≡ bytes → IsUtf8 bytes → recoded f text ≡ encoding f (chars bytes)
recoded_chars f bytes text same_bytes is_utf8 =
    let of_chars = IsUtf8Of_chars bytes is_utf8 in
    ap (recoded f) (same_bytes ∙ sym of_chars.1) ∙ recoded_utf8 f (chars bytes) of_chars.0
