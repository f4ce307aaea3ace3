-- The encoding of one scalar value as bytes, with its digits as variables. A digit is the part of
-- the value that one byte has (`Shapes`).
use Rattle.std.proofs.lemmas.Bool.Decides.{nat_tests}
use Rattle.std.proofs.Common.{◌≡◌, ℕ, ◌+◌, ◌<◌, [], ◌∷◌, refl, arith, append-nil}
use Rattle.cesu8_text.specs.Utf16.{units_of}
use Rattle.cesu8_text.specs.Encoding.{Flavor, Mutf8, short_form, form, encoding}
use Rattle.cesu8_text.proofs.text.Shapes.{IsTwo, IsThree, IsPair}

-- The encoding of a scalar value that takes one byte, two, three, or a surrogate pair.
pub encoding_one : (f : Flavor) (c : ℕ) → c < 0x80 → encoding f (c ∷ []) ≡ short_form f c
unfolding encoding form units_of
encoding_one f c low = grind (arith, nat_tests, append-nil)

pub encoding_two : (f : Flavor) (c x y : ℕ) → IsTwo c x y → encoding f (c ∷ []) ≡ (0xC0 + x) ∷ (0x80 + y) ∷ []
unfolding encoding form units_of
encoding_two f c x y digits = grind (arith, nat_tests)

pub encoding_three : (f : Flavor) (c x y z : ℕ) → IsThree c x y z →
    encoding f (c ∷ []) ≡ (0xE0 + x) ∷ (0x80 + y) ∷ (0x80 + z) ∷ []
unfolding encoding form units_of
encoding_three f c x y z digits = grind (arith, nat_tests)

pub encoding_pair : (f : Flavor) (c w x y z : ℕ) → IsPair c w x y z →
    encoding f (c ∷ []) ≡ 0xED ∷ (0xA0 + w) ∷ (0x80 + x) ∷ 0xED ∷ (0xB0 + y) ∷ (0x80 + z) ∷ []
unfolding encoding form units_of
encoding_pair f c w x y z digits = grind (arith, nat_tests)

-- MUTF-8 encodes the code unit 0 as two bytes.
pub short_form_null : (u : ℕ) → u ≡ 0 → short_form Mutf8 u ≡ 0xC0 ∷ 0x80 ∷ []
short_form_null u e = rw e refl

-- For every other number, `short_form` is that number alone. `form` uses it only for code units
-- below 80 (hexadecimal), but the proofs of what is written for a byte use it for any byte.
pub short_form_other : (f : Flavor) (u : ℕ) → (u ≡ 0 → ⊥) → short_form f u ≡ u ∷ []
short_form_other f u other = grind (arith, nat_tests)
