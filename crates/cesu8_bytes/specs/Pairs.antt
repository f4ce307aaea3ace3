-- Encoded surrogate pairs, and C0 80 in MUTF-8.
use Rattle.std.specs.Prelude.{◌≡◌, ℕ, ◌+◌, ◌*◌, ◌<◌, ◌&&◌, ◌==◌, Bool, false, List, [], ◌∷◌, slice_index, ◌≤◌}
use Rattle.cesu8_text.specs.Encoding.{Flavor, Cesu8, Mutf8}
use Rattle.cesu8_text.specs.Text.{utf8_of}
use Rattle.cesu8_text.specs.Patterns.{EndsPair, IsPair}

-- The bytes begin with an encoded surrogate pair.
pub record HasPair (bytes : List ℕ) : Type 0 where
  pub lead : slice_index bytes 0 ≡ 0xED
  pub high : (0xA0 ≤ slice_index bytes 1) × (slice_index bytes 1 < 0xB0)
  pub ends : EndsPair (slice_index bytes 2) (slice_index bytes 3) (slice_index bytes 4) (slice_index bytes 5)

-- If these four bytes have the digits of a surrogate pair, `written` is the UTF-8 of its character
-- c. The digits w, x, y and z are the bits that differ from pair to pair (`IsPair`).
abbrev pub IsUtf8OfDigits : List ℕ → List ℕ → Type 0
IsUtf8OfDigits four written = (c w x y z : ℕ) → IsPair c w x y z → four ≡ (0xA0 + w) ∷ (0x80 + x) ∷ (0xB0 + y) ∷ (0x80 + z) ∷ [] →
    written ≡ utf8_of c

-- The bytes of an encoded surrogate pair that have digits: the second, third, fifth and sixth.
abbrev pub second_third_fifth_sixth : List ℕ → List ℕ
second_third_fifth_sixth bytes = slice_index bytes 1 ∷ slice_index bytes 2 ∷ slice_index bytes 4 ∷ slice_index bytes 5 ∷ []

-- The word of the bytes a, b, d, e, g and h, the first in the lowest bits, and of two more, which
-- are one number.
abbrev pub word_of : ℕ → ℕ → ℕ → ℕ → ℕ → ℕ → ℕ → ℕ
word_of a b d e g h more =
    a + b * 0x100 + d * 0x10000 + e * 0x1000000 + g * 0x100000000 + h * 0x10000000000 + more * 0x1000000000000

-- Whether two bytes are the null character of MUTF-8, C0 80.
abbrev pub null_at : Flavor → ℕ → ℕ → Bool
null_at Cesu8 a b = false
null_at Mutf8 a b = a == 0xC0 && b == 0x80
