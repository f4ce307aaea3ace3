-- The UTF-8 of one scalar value, with its digits as variables. A digit is the part of the value
-- that one byte of its encoding has. In a surrogate pair, the four bytes that are not ED have one
-- each: w, x, y and z. The first, w, is one less than the value's bits from bit 16 on (`IsPair`),
-- so `utf8_of_pair` has w + 1.
use Rattle.std.proofs.lemmas.Bool.Decides.{nat_tests}
use Rattle.std.proofs.Common.{◌≡◌, ℕ, ◌+◌, ◌-◌, ◌*◌, ◌/◌, ◌%◌, ◌<◌, ◌≤◌, ◌⊎◌, [], ◌∷◌, inl, inr, arith}
use Rattle.std.proofs.lemmas.Bool.{cases_lt}
use Rattle.cesu8_text.specs.Text.{IsScalarValue, utf8_of}
pub use Rattle.cesu8_text.specs.Patterns.{IsPair}

-- The digits of a scalar value that takes two bytes.
pub record IsTwo (c x y : ℕ) : Type 0 where
  pub value : c ≡ x * 0x40 + y
  pub low : 2 ≤ x
  pub high : x < 0x20
  pub last : y < 0x40

-- The digits of a scalar value that takes three bytes.
pub record IsThree (c x y z : ℕ) : Type 0 where
  pub value : c ≡ x * 0x1000 + y * 0x40 + z
  pub low : 0x800 ≤ c
  pub high : x < 0x10
  pub middle : y < 0x40
  pub last : z < 0x40

-- A scalar value by the number of its bytes, with its digits.
pub data Shape (c : ℕ) : Type 0 where
  one : c < 0x80 → Shape c
  two : (x y : ℕ) → IsTwo c x y → Shape c
  three : (x y z : ℕ) → IsThree c x y z → Shape c
  pair : (w x y z : ℕ) → IsPair c w x y z → Shape c

-- Each scalar value has one of these shapes.
pub shape : (c : ℕ) → IsScalarValue c → Shape c
shape c scalar = by (cases_lt c 0x80) (cases_lt c 0x800) (cases_lt c 0x10000)
  where
    by : (c < 0x80) ⊎ (0x80 ≤ c) → (c < 0x800) ⊎ (0x800 ≤ c) → (c < 0x10000) ⊎ (0x10000 ≤ c) → Shape c
    by (inl ascii) _ _ = one ascii
    by (inr low) (inl high) _ = two (c / 0x40) (c % 0x40) (grind arith)
    by (inr _) (inr low) (inl high) = three (c / 0x1000) (c / 0x40 % 0x40) (c % 0x40) (grind arith)
    by (inr _) (inr _) (inr low) =
        pair ((c - 0x10000) / 0x10000) ((c - 0x10000) / 0x400 % 0x40) ((c - 0x10000) / 0x40 % 0x10) ((c - 0x10000) % 0x40)
        (grind arith)

-- The UTF-8 of a scalar value of one byte, two, three and four, by its digits.
pub utf8_of_one : (c : ℕ) → c < 0x80 → utf8_of c ≡ c ∷ []
unfolding utf8_of
utf8_of_one c low = grind (arith, nat_tests)

pub utf8_of_two : (c x y : ℕ) → IsTwo c x y → utf8_of c ≡ (0xC0 + x) ∷ (0x80 + y) ∷ []
unfolding utf8_of
utf8_of_two c x y digits = grind (arith, nat_tests)

pub utf8_of_three : (c x y z : ℕ) → IsThree c x y z → utf8_of c ≡ (0xE0 + x) ∷ (0x80 + y) ∷ (0x80 + z) ∷ []
unfolding utf8_of
utf8_of_three c x y z digits = grind (arith, nat_tests)

pub utf8_of_pair : (c w x y z : ℕ) → IsPair c w x y z →
    utf8_of c ≡ (0xF0 + (w + 1) / 4) ∷ (0x80 + ((w + 1) % 4 * 0x10 + x / 4)) ∷ (0x80 + (x % 4 * 0x10 + y)) ∷ (0x80 + z) ∷ []
unfolding utf8_of
utf8_of_pair c w x y z digits = grind (arith, nat_tests)
