-- The byte patterns of encoded characters: the first bytes, given the character that they begin
-- with.
use Rattle.std.proofs.Common.{◌≡◌, ℕ, ◌+◌, ◌<◌, ◌≤◌, List, refl, arith, length, get_or}
use Rattle.std.proofs.lemmas.Bool.{cases_eq}
use Rattle.cesu8_text.specs.Encoding.{Flavor, Mutf8}
use Rattle.cesu8_text.specs.Reading.{BeginsWith}
use Rattle.cesu8_text.proofs.text.Shapes.{IsTwo, IsThree, IsPair, Shape, one, two, three, pair, shape}
use Rattle.cesu8_text.proofs.encoding.Forms.{encoding_one, encoding_two, encoding_three, encoding_pair, short_form_null, short_form_other}

-- The bytes begin with the pattern of the encoded character c, one case for each length, and one
-- for C0 80. The digits w to z are the parts of c that single bytes have (`Shapes`). Three bytes
-- are never a surrogate: after ED (x is 0D), the second byte is below A0.
pub data Pattern (f : Flavor) (bytes : List ℕ) (c : ℕ) : Type 0 where
  of_one : get_or bytes 0 0 ≡ c → c < 0x80 → (f ≡ Mutf8 → 0 < c) → Pattern f bytes c
  of_null : f ≡ Mutf8 → c ≡ 0 → get_or bytes 0 0 ≡ 0xC0 → get_or bytes 1 0 ≡ 0x80 → 2 ≤ length bytes → Pattern f bytes c
  of_two : (x y : ℕ) → IsTwo c x y → get_or bytes 0 0 ≡ 0xC0 + x → get_or bytes 1 0 ≡ 0x80 + y → 2 ≤ length bytes →
      Pattern f bytes c
  of_three : (x y z : ℕ) → IsThree c x y z → (x ≡ 0x0D → y < 0x20) → get_or bytes 0 0 ≡ 0xE0 + x → get_or bytes 1 0 ≡ 0x80 + y →
      get_or bytes 2 0 ≡ 0x80 + z → 3 ≤ length bytes → Pattern f bytes c
  of_pair : (w x y z : ℕ) → IsPair c w x y z → get_or bytes 0 0 ≡ 0xED → get_or bytes 1 0 ≡ 0xA0 + w →
      get_or bytes 2 0 ≡ 0x80 + x → get_or bytes 3 0 ≡ 0xED → get_or bytes 4 0 ≡ 0xB0 + y → get_or bytes 5 0 ≡ 0x80 + z →
      6 ≤ length bytes → Pattern f bytes c

-- Bytes that begin with an encoded character have its pattern.
pub pattern : (f : Flavor) (bytes : List ℕ) (c : ℕ) (rest : List ℕ) → BeginsWith f bytes c rest → Pattern f bytes c
pattern f bytes c rest begins = by (shape c begins.scalar)
  where
    by : Shape c → Pattern f bytes c
    by (one ascii) = grind (arith, encoding_one, short_form_null, short_form_other, cases_eq)
    by (two x y digits) = rw (begins.bytes_are, encoding_two f c x y digits) (of_two x y digits refl refl (omega arith))
    by (three x y z digits) =
        rw (begins.bytes_are, encoding_three f c x y z digits)
        (of_three x y z digits (grind arith) refl refl refl (omega arith))
    by (pair w x y z digits) =
        rw (begins.bytes_are, encoding_pair f c w x y z digits)
        (of_pair w x y z digits refl refl refl refl refl refl (omega arith))
