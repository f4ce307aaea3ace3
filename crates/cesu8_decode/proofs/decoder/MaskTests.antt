-- What the combinations of masks in `lanes/masks.rt` say about a byte and those after it: for
-- example, whether a character of three bytes begins there.
use Rattle.std.proofs.Common.{◌≡◌, ℕ, ◌<◌, Bool, true, false, not, ◌&&◌, ◌||◌, eqb, leb, ltb, ⊎_elim, refl, sym, ap, ◌∙◌, arith}
use Rattle.std.proofs.lemmas.Bool.{agree_below_at, cases_Bool, ne_eqb, both_ways}
use Rattle.std.proofs.lemmas.Bool.Decides.{nat_tests}
use Rattle.cesu8_text.specs.Encoding.{Flavor, Cesu8, Mutf8}
use Rattle.cesu8_text.specs.Class.{is_null}
use Rattle.cesu8_bytes.specs.Pairs.{null_at}
use Rattle.cesu8_decode.specs.DecodedOffsets.{continues, one_at, two_at, three_at, pair_at, first_width_by}
use Rattle.cesu8_decode.specs.Masks.{has_bit_below}
use Rattle.cesu8_decode.proofs.by_offset.WidthTests.{width_tells}

-- ---- one byte

-- A byte from 80 on whose next bit is clear is a continuation byte.
pub continuation_bit : (a : ℕ) → a < 256 → (leb 0x80 a && not (leb 0x80 a && has_bit_below 1 a)) ≡ continues a
continuation_bit a small = agree_below_at (λ a. leb 0x80 a && not (leb 0x80 a && has_bit_below 1 a)) continues 256 a refl small

-- A byte from 80 on whose next bit is set, and which is less than C2, is C0 or C1.
pub below_c2_bit : (a : ℕ) → a < 256 → ((leb 0x80 a && has_bit_below 1 a) && not (leb 0xC2 a)) ≡ (leb 0xC0 a && ltb a 0xC2)
below_c2_bit a small = agree_below_at (λ a. (leb 0x80 a && has_bit_below 1 a) && not (leb 0xC2 a)) (λ a. leb 0xC0 a && ltb a 0xC2) 256 a refl small

-- A byte from C2 on has the third highest bit set exactly if it is E0 or more.
pub wide_lead_bit : (a : ℕ) → a < 256 → (leb 0xC2 a && has_bit_below 2 a) ≡ leb 0xE0 a
wide_lead_bit a small = agree_below_at (λ a. leb 0xC2 a && has_bit_below 2 a) (leb 0xE0) 256 a refl small

pub two_lead_bit : (a : ℕ) → a < 256 → (leb 0xC2 a && not (has_bit_below 2 a)) ≡ (leb 0xC2 a && ltb a 0xE0)
two_lead_bit a small = agree_below_at (λ a. leb 0xC2 a && not (has_bit_below 2 a)) (λ a. leb 0xC2 a && ltb a 0xE0) 256 a refl small

-- A byte from E0 on has the fourth highest bit set exactly if it is F0 or more.
three_lead_bit : (a : ℕ) → a < 256 → (leb 0xE0 a && not (has_bit_below 3 a)) ≡ (leb 0xE0 a && ltb a 0xF0)
three_lead_bit a small = agree_below_at (λ a. leb 0xE0 a && not (has_bit_below 3 a)) (λ a. leb 0xE0 a && ltb a 0xF0) 256 a refl small

-- A continuation byte has the third highest bit set exactly if it is A0 or more, and both the third
-- and the fourth exactly if it is B0 or more.
wide_bit : (b : ℕ) → b < 256 → (continues b && has_bit_below 2 b) ≡ (leb 0xA0 b && ltb b 0xC0)
wide_bit b small = agree_below_at (λ b. continues b && has_bit_below 2 b) (λ b. leb 0xA0 b && ltb b 0xC0) 256 b refl small

odd_bit : (b : ℕ) → b < 256 → ((continues b && has_bit_below 2 b) && has_bit_below 3 b) ≡ (leb 0xB0 b && ltb b 0xC0)
odd_bit b small = agree_below_at (λ b. (continues b && has_bit_below 2 b) && has_bit_below 3 b) (λ b. leb 0xB0 b && ltb b 0xC0) 256 b refl small

-- ---- three bytes

-- The tests of `threes_and_pairs`. p is bit 10 (hexadecimal) of the first byte, and q and r are
-- bits 20 and 10 of the second. p2, q2 and r2 are those of the fourth and of the fifth byte.
abbrev pub whole_by : (a b d : ℕ) (p : Bool) → Bool
whole_by a b d p = ((leb 0xE0 a && continues b) && continues d) && not p

abbrev pub surrogate_by : (a b d : ℕ) (p q : Bool) → Bool
surrogate_by a b d p q = (whole_by a b d p && q) && eqb a 0xED

abbrev three_by : (a b d : ℕ) (p q : Bool) → Bool
three_by a b d p q = whole_by a b d p && not (surrogate_by a b d p q || (eqb a 0xE0 && not q))

abbrev pub pair_by : (a b d e g h : ℕ) (p q r p2 q2 r2 : Bool) → Bool
pair_by a b d e g h p q r p2 q2 r2 =
    (surrogate_by a b d p q && not (surrogate_by a b d p q && r)) && (surrogate_by e g h p2 q2 && r2)

-- If the bits are those of the bytes, as the assumptions state, the tests by bits equal those by
-- whole bytes, such as `three_at`.
three_tests : (a b d : ℕ) (p q : Bool) → (leb 0xE0 a && not p) ≡ (leb 0xE0 a && ltb a 0xF0) → (continues b && q) ≡ (leb 0xA0 b && ltb b 0xC0) →
    three_by a b d p q ≡ three_at a b d
three_tests a b d p q lead wide = grind (arith, nat_tests)

surrogate_tests : (a b d : ℕ) (p q : Bool) → (leb 0xE0 a && not p) ≡ (leb 0xE0 a && ltb a 0xF0) → (continues b && q) ≡ (leb 0xA0 b && ltb b 0xC0) →
    surrogate_by a b d p q ≡ (eqb a 0xED && ((leb 0xA0 b && ltb b 0xC0) && continues d))
surrogate_tests a b d p q lead wide = grind (arith, nat_tests)

pair_tests : (a b d e g h : ℕ) (q r q2 r2 s s2 : Bool) → s ≡ (eqb a 0xED && ((leb 0xA0 b && ltb b 0xC0) && continues d)) →
    s2 ≡ (eqb e 0xED && ((leb 0xA0 g && ltb g 0xC0) && continues h)) →
    (continues b && q) ≡ (leb 0xA0 b && ltb b 0xC0) → ((continues b && q) && r) ≡ (leb 0xB0 b && ltb b 0xC0) →
    (continues g && q2) ≡ (leb 0xA0 g && ltb g 0xC0) → ((continues g && q2) && r2) ≡ (leb 0xB0 g && ltb g 0xC0) →
    ((s && not (s && r)) && (s2 && r2)) ≡ pair_at a b d e g h
pair_tests a b d e g h q r q2 r2 s s2 s_is s2_is wide odd wide2 odd2 = grind (arith, nat_tests)

module _ (a b d : ℕ) (small_a : a < 256) (small_b : b < 256) where
  -- The tests identify characters of three bytes.
  pub three_bits : three_by a b d (has_bit_below 3 a) (has_bit_below 2 b) ≡ three_at a b d
  three_bits = three_tests a b d (has_bit_below 3 a) (has_bit_below 2 b) (three_lead_bit a small_a) (wide_bit b small_b)

  -- The tests identify surrogates.
  surrogate_bits : surrogate_by a b d (has_bit_below 3 a) (has_bit_below 2 b) ≡ (eqb a 0xED && ((leb 0xA0 b && ltb b 0xC0) && continues d))
  surrogate_bits = surrogate_tests a b d (has_bit_below 3 a) (has_bit_below 2 b) (three_lead_bit a small_a) (wide_bit b small_b)

  -- Without a surrogate there is no surrogate pair.
  pub no_surrogate : (e g h : ℕ) → surrogate_by a b d (has_bit_below 3 a) (has_bit_below 2 b) ≡ false → pair_at a b d e g h ≡ false
  no_surrogate e g h none = unpaired (sym surrogate_bits ∙ none)
    where
      unpaired : (eqb a 0xED && ((leb 0xA0 b && ltb b 0xC0) && continues d)) ≡ false → pair_at a b d e g h ≡ false
      unpaired none = grind (arith, nat_tests)

  -- The tests identify surrogate pairs.
  pub pair_bits : (e g h : ℕ) → e < 256 → g < 256 →
      pair_by a b d e g h (has_bit_below 3 a) (has_bit_below 2 b) (has_bit_below 3 b) (has_bit_below 3 e) (has_bit_below 2 g) (has_bit_below 3 g)
      ≡ pair_at a b d e g h
  pair_bits e g h small_e small_g = grind (arith, nat_tests, pair_tests, surrogate_bits, surrogate_tests, three_lead_bit, wide_bit, odd_bit)

-- ---- offsets without a lead byte

pub no_lead_no_three : (a b d : ℕ) → (leb 0xE0 a && continues b) ≡ false → three_at a b d ≡ false
no_lead_no_three a b d none = grind (arith, nat_tests)

pub no_lead_no_pair : (a b d e g h : ℕ) → (leb 0xE0 a && continues b) ≡ false → pair_at a b d e g h ≡ false
no_lead_no_pair a b d e g h none = grind (arith, nat_tests)

-- ---- C0 80, and characters of one byte

pub null_test : (f : Flavor) (a b : ℕ) → f ≡ Mutf8 → (eqb a 0xC0 && eqb b 0x80) ≡ null_at f a b
null_test f a b mutf8 = ap (λ g. null_at g a b) (sym mutf8)

pub null_byte : (f : Flavor) (a : ℕ) → f ≡ Mutf8 → eqb a 0 ≡ is_null f a
null_byte f a mutf8 = ap (λ g. is_null g a) (sym mutf8)

-- CESU-8 has neither C0 80 nor a null byte that is encoded otherwise.
pub no_null_byte : (f : Flavor) (a : ℕ) → (f ≡ Mutf8 → ⊥) → is_null f a ≡ false
no_null_byte Cesu8 a other = refl
no_null_byte Mutf8 a other = absurd (other refl)

pub no_null_of : (f : Flavor) (a b : ℕ) → (f ≡ Mutf8 → ⊥) → null_at f a b ≡ false
no_null_of Cesu8 a b other = refl
no_null_of Mutf8 a b other = absurd (other refl)

pub no_null : (f : Flavor) (a b : ℕ) → (leb 0xC0 a && ltb a 0xC2) ≡ false → null_at f a b ≡ false
no_null f a b none = grind (arith, nat_tests)

pub other_test : (f : Flavor) (a : ℕ) → (leb 0x80 a || is_null f a) ≡ not (one_at f a)
other_test f a = grind (arith, nat_tests)

-- A character of one byte begins no other form.
module _ (f : Flavor) (a b : ℕ) (one : not (one_at f a) ≡ false) where
  pub one_not_null : null_at f a b ≡ false
  one_not_null = grind (arith, nat_tests)

  pub one_not_two : two_at a b ≡ false
  one_not_two = grind (arith, nat_tests)

  pub one_not_three : (d : ℕ) → three_at a b d ≡ false
  one_not_three d = grind (arith, nat_tests)

  pub one_not_pair : (d e g h : ℕ) → pair_at a b d e g h ≡ false
  one_not_pair d e g h = grind (arith, nat_tests)

-- A surrogate pair passes no other test of a form.
pub pair_alone : (f : Flavor) (a b d e g h : ℕ) → pair_at a b d e g h ≡ true →
    (one_at f a ≡ false) × (null_at f a b ≡ false) × (two_at a b ≡ false) × (three_at a b d ≡ false)
pair_alone f a b d e g h pair = grind (arith, nat_tests)

pub pair_width : (f : Flavor) (a b d e g h : ℕ) → eqb (first_width_by f a b d e g h) 6 ≡ pair_at a b d e g h
unfolding first_width_by
pair_width f a b d e g h =
    ⊎_elim (λ (pair : pair_at a b d e g h ≡ true).
    let others = pair_alone f a b d e g h pair in
    rw (others.0, others.1, others.2, others.3, pair) refl)
    (λ (none : pair_at a b d e g h ≡ false).
    ne_eqb (first_width_by f a b d e g h) 6 (λ six. both_ways (pair_at a b d e g h) none ((width_tells f a b d e g h).3 six)) ∙ sym none)
    (cases_Bool (pair_at a b d e g h))
