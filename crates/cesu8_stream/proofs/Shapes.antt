-- A scalar value by its digits, the groups of its bits that its bytes hold, and its bytes in each
-- way of writing.
use Rattle.std.proofs.lemmas.Bool.Decides.{nat_tests}
use Rattle.std.proofs.Common.{◌≡◌, ℕ, ◌+◌, ◌-◌, ◌*◌, ◌/◌, ◌%◌, ◌<◌, ◌≤◌, ◌⊎◌, [], ◌∷◌, inl, inr, arith, append-nil}
use Rattle.std.proofs.lemmas.Bool.{cases_lt}
use Rattle.simd_cesu8.specs.Text.{IsScalarValue, utf8_of, utf8}
use Rattle.simd_cesu8.specs.Utf16.{units_of}
use Rattle.simd_cesu8.specs.Encoding.{Flavor, short_form, form, encoding}

-- The digits of a character of two bytes, of one of three, and of a surrogate pair.
pub record IsTwo (c x y : ℕ) : Type 0 where
  pub value : c ≡ x * 0x40 + y
  pub low : 2 ≤ x
  pub high : x < 0x20
  pub last : y < 0x40

pub record IsThree (c x y z : ℕ) : Type 0 where
  pub value : c ≡ x * 0x1000 + y * 0x40 + z
  pub low : 0x800 ≤ c
  pub high : x < 0x10
  pub middle : y < 0x40
  pub last : z < 0x40

pub record IsPair (c w x y z : ℕ) : Type 0 where
  pub value : c ≡ 0x10000 + w * 0x10000 + x * 0x400 + y * 0x40 + z
  pub first : w < 0x10
  pub second : x < 0x40
  pub third : y < 0x10
  pub last : z < 0x40

pub data Shape (c : ℕ) : Type 0 where
  one : c < 0x80 → Shape c
  two : (x y : ℕ) → IsTwo c x y → Shape c
  three : (x y z : ℕ) → IsThree c x y z → Shape c
  pair : (w x y z : ℕ) → IsPair c w x y z → Shape c

-- Each scalar value has a shape.
pub shape : (c : ℕ) → IsScalarValue c → Shape c
shape c scalar = by (cases_lt c 0x80) (cases_lt c 0x800) (cases_lt c 0x10000)
  where
    by : (c < 0x80) ⊎ (0x80 ≤ c) → (c < 0x800) ⊎ (0x800 ≤ c) → (c < 0x10000) ⊎ (0x10000 ≤ c) → Shape c
    by (inl ascii) _ _ = one ascii
    by (inr low) (inl high) _ = two (c / 0x40) (c % 0x40) (grind arith)
    by (inr _) (inr low) (inl high) = three (c / 0x1000) (c / 0x40 % 0x40) (c % 0x40) (grind arith)
    by (inr _) (inr _) (inr low) =
        pair ((c - 0x10000) / 0x10000) ((c - 0x10000) / 0x400 % 0x40) ((c - 0x10000) / 0x40 % 0x10) ((c - 0x10000) % 0x40)
        (grind arith)

-- The encoding of one character.
pub encoding_one : (f : Flavor) (c : ℕ) → c < 0x80 → encoding f (c ∷ []) ≡ short_form f c
unfolding encoding form units_of
encoding_one f c low = grind (arith, nat_tests, append-nil)

pub encoding_two : (f : Flavor) (c x y : ℕ) → IsTwo c x y → encoding f (c ∷ []) ≡ (0xC0 + x) ∷ (0x80 + y) ∷ []
unfolding encoding form units_of
encoding_two f c x y digits = grind (arith, nat_tests)

pub encoding_three : (f : Flavor) (c x y z : ℕ) → IsThree c x y z →
    encoding f (c ∷ []) ≡ (0xE0 + x) ∷ (0x80 + y) ∷ (0x80 + z) ∷ []
unfolding encoding form units_of
encoding_three f c x y z digits = grind (arith, nat_tests)

pub encoding_pair : (f : Flavor) (c w x y z : ℕ) → IsPair c w x y z →
    encoding f (c ∷ []) ≡ 0xED ∷ (0xA0 + w) ∷ (0x80 + x) ∷ 0xED ∷ (0xB0 + y) ∷ (0x80 + z) ∷ []
unfolding encoding form units_of
encoding_pair f c w x y z digits = grind (arith, nat_tests)

-- The UTF-8 of one character. If it has four bytes, its digits (`IsFour`) are not those of a
-- surrogate pair: the first byte holds the bits from bit 18 on.
pub utf8_one : (c : ℕ) → c < 0x80 → utf8 (c ∷ []) ≡ c ∷ []
unfolding utf8_of
utf8_one c low = grind (arith, nat_tests)

pub utf8_two : (c x y : ℕ) → IsTwo c x y → utf8 (c ∷ []) ≡ (0xC0 + x) ∷ (0x80 + y) ∷ []
unfolding utf8_of
utf8_two c x y digits = grind (arith, nat_tests)

pub utf8_three : (c x y z : ℕ) → IsThree c x y z → utf8 (c ∷ []) ≡ (0xE0 + x) ∷ (0x80 + y) ∷ (0x80 + z) ∷ []
unfolding utf8_of
utf8_three c x y z digits = grind (arith, nat_tests)

pub record IsFour (c w x y z : ℕ) : Type 0 where
  pub value : c ≡ w * 0x40000 + x * 0x1000 + y * 0x40 + z
  pub low : 0x10000 ≤ c
  pub high : c < 0x110000
  pub first : x < 0x40
  pub second : y < 0x40
  pub last : z < 0x40

pub utf8_four : (c w x y z : ℕ) → IsFour c w x y z →
    utf8 (c ∷ []) ≡ (0xF0 + w) ∷ (0x80 + x) ∷ (0x80 + y) ∷ (0x80 + z) ∷ []
unfolding utf8_of
utf8_four c w x y z digits = grind (arith, nat_tests)
