-- Lane by lane, `pair_classes` of `lanes/following.rt` returns the class of each pair of bytes, and
-- `required_classes` the class that is required. These lemmas prove both. The bits of a required
-- class are 80 (hexadecimal, `TWO_CONTS`) and 20 (`SURROGATE`).
use Rattle.std.proofs.Common.{◌≡◌, ℕ, ◌+◌, ◌%◌, ◌^◌, ◌<◌, ⊎_elim, Bool, true, false, cond, ◌&&◌, List, map, length, replicate, eqb, leb, ltb, bit_and, bit_or, refl, sym, ap, ◌∙◌, arith, Fits, w8, ◌-◌, add-zero, get_or}
use Rattle.std.proofs.lemmas.Bool.{agree_below, agree_below_at, and_parts, eqb-true, ne_eqb, cases_eq, cases_Bool}
use lib.Lanes.{zip2, sel_l, top, Each1}
use Rattle.cesu8_text.specs.Class.{is_null}
use Rattle.cesu8_text.specs.Encoding.{Flavor, Cesu8, Mutf8}
use Rattle.cesu8_bytes.specs.Kernels.{mask}
use Rattle.cesu8_decode.specs.Following.{table_bits}
use Rattle.cesu8_decode.proofs.decoder.TableLookups.{half, half_tests, bits_by_halves, and_false}
use Rattle.cesu8_decode.proofs.decoder.LanesByIndex.{on_range, lanes_are, lane_fits}
use Rattle.cesu8_decode.specs.Following.{CharacterSet, Encoded, Unchanged, has_changed, first_low, rule, pair_class, later}
use Rattle.cesu8_decode.specs.declared.lanes.character_set.Rule.{Rule}
use Rattle.cesu8_decode.specs.declared.lanes.character_set.TheConstants.{ENCODED, UNCHANGED}
use Rattle.cesu8_bytes.proofs.lists.Lanes.{ones}

-- ---- the class of a pair, by three look-ups

-- The bits that three table entries of a set have in common.
abbrev pub by_equal_test : Rule → ℕ → ℕ → ℕ
by_equal_test t = table_bits t.by_high t.by_low t.by_next

-- `half b` is b with its lower half cleared. The class in CESU-8 does not depend on that half.
low_half : (s : CharacterSet) (b : ℕ) → leb (first_low s) (half b) ≡ leb (first_low s) b
low_half Encoded b = (half_tests b 0xB).0
low_half Unchanged b = (half_tests b 0xA).0

by_half : (s : CharacterSet) (a b : ℕ) → pair_class s Cesu8 a (half b) ≡ pair_class s Cesu8 a b
unfolding pair_class
by_half s a b =
    let test = half_tests b in
    rw ((test 8).0, low_half s b, (test 0xA).1, (test 0xC).1) refl

table_bits_is : (s : CharacterSet) (a b : ℕ) → a < 0x100 → b < 0x100 → by_equal_test (rule s) a b ≡ pair_class s Cesu8 a b
unfolding pair_class
table_bits_is Encoded = bits_by_halves ENCODED.by_high ENCODED.by_low ENCODED.by_next (pair_class Encoded Cesu8) refl (by_half Encoded)
table_bits_is Unchanged = bits_by_halves UNCHANGED.by_high UNCHANGED.by_low UNCHANGED.by_next (pair_class Unchanged Cesu8) refl (by_half Unchanged)

-- The class bits that are kept in MUTF-8: all but 10 (hexadecimal, `OVERLONG_C0`) for a second byte
-- 80, if the set has C0 80.
abbrev kept_of : CharacterSet → ℕ → ℕ
kept_of s b = cond (has_changed s && eqb b 0x80) 0xEF 0xFF

-- The class in MUTF-8, from the class n in CESU-8 and the second byte b.
abbrev in_mutf8 : CharacterSet → ℕ → ℕ → ℕ
in_mutf8 s n b = bit_or (bit_and n (kept_of s b)) (mask (eqb b 0))

or_cond : (t : Bool) (x y m : ℕ) → bit_or (bit_and (cond t x y) 0xFF) m ≡ cond t (bit_or (bit_and x 0xFF) m) (bit_or (bit_and y 0xFF) m)
or_cond t x y m = grind arith

-- After each first byte, the second bytes 00 and 80 have the right class in MUTF-8.
null_agrees : CharacterSet → ℕ → Bool
null_agrees s a =
    eqb (in_mutf8 s (pair_class s Cesu8 a 0) 0) (pair_class s Mutf8 a 0) && eqb (in_mutf8 s (pair_class s Cesu8 a 0x80) 0x80) (pair_class s Mutf8 a 0x80)

nulls_agree : (s : CharacterSet) (a : ℕ) → a < 0x100 → null_agrees s a ≡ true
unfolding pair_class null_agrees
nulls_agree Encoded a h = agree_below_at (null_agrees Encoded) (λ _. true) 0x100 a refl h
nulls_agree Unchanged a h = agree_below_at (null_agrees Unchanged) (λ _. true) 0x100 a refl h

mutf8_is : (s : CharacterSet) (a b : ℕ) → a < 0x100 → in_mutf8 s (pair_class s Cesu8 a b) b ≡ pair_class s Mutf8 a b
unfolding pair_class null_agrees
mutf8_is s a b ha =
    let agree = and_parts _ _ (nulls_agree s a ha) in
    ⊎_elim (λ (null : b ≡ 0). rw null (eqb-true _ _ agree.0))
    (λ some. ⊎_elim (λ (long : b ≡ 0x80). rw long (eqb-true _ _ agree.1))
    (λ other. rw (ne_eqb b 0 some, ne_eqb b 0x80 other, and_false (has_changed s)) (simp or_cond)) (cases_eq b 0x80))
    (cases_eq b 0)

-- ---- the lanes of these look-ups

-- In CESU-8 the look-ups give the class of each pair of bytes.
pub cesu8_lanes : (s : CharacterSet) (first second : List ℕ) → length first ≡ 32 → length second ≡ 32 → Each1 (Fits w8) first → Each1 (Fits w8) second →
    zip2 (by_equal_test (rule s)) first second ≡ zip2 (pair_class s Cesu8) first second
cesu8_lanes s first second long long_second fits_first fits_second =
    let a = λ (i : ℕ). get_or first i 0 in
    let b = λ (i : ℕ). get_or second i 0 in
    rw (lanes_are first long, lanes_are second long_second)
    (on_range (λ i. by_equal_test (rule s) (a i) (b i)) (λ i. pair_class s Cesu8 (a i) (b i)) 0 32
    (λ i low inside. table_bits_is s (a i) (b i) (lane_fits first long fits_first i inside) (lane_fits second long_second fits_second i inside)))

-- An encoding that is not MUTF-8 is CESU-8.
pub cesu8_unless : (f : Flavor) → ¬ (f ≡ Mutf8) → f ≡ Cesu8
cesu8_unless f other = grind arith

-- In MUTF-8 the look-ups give the class, corrected for second bytes 00 and 80.
pub mutf8_lanes : (s : CharacterSet) (first second kept nulls : List ℕ) → length first ≡ 32 → length second ≡ 32 →
    Each1 (Fits w8) first → Each1 (Fits w8) second → kept ≡ map (kept_of s) second → nulls ≡ map (λ b. mask (is_null Mutf8 b)) second →
    zip2 bit_or (zip2 bit_and (zip2 (by_equal_test (rule s)) first second) kept) nulls ≡ zip2 (pair_class s Mutf8) first second
mutf8_lanes s first second kept nulls long long_second fits_first fits_second kept_are nulls_are =
    let a = λ (i : ℕ). get_or first i 0 in
    let b = λ (i : ℕ). get_or second i 0 in
    rw (cesu8_lanes s first second long long_second fits_first fits_second, kept_are, nulls_are, lanes_are first long, lanes_are second long_second)
    (on_range (λ i. in_mutf8 s (pair_class s Cesu8 (a i) (b i)) (b i)) (λ i. pair_class s Mutf8 (a i) (b i)) 0 32
    (λ i low inside. mutf8_is s (a i) (b i) (lane_fits first long fits_first i inside)))

-- If the set has no characters that need conversion, all class bits are kept.
pub all_kept : (s : CharacterSet) → has_changed s ≡ false → (bytes : List ℕ) → length bytes ≡ 32 → replicate {A = ℕ} 32 0xFF ≡ map (kept_of s) bytes
all_kept s none bytes long = rw (lanes_are bytes long, none) refl

-- ---- the class that is required

pub is_high_lane : (b : ℕ) → b < 0x100 → eqb (bit_and b 0xF0) 0xA0 ≡ (leb 0xA0 b && ltb b 0xB0)
is_high_lane b h = agree_below_at (λ b. eqb (bit_and b 0xF0) 0xA0) (λ b. leb 0xA0 b && ltb b 0xB0) 0x100 b refl h

-- The highest bit of b after a saturating subtraction of `less`. The code subtracts 60
-- (hexadecimal), so this bit is left exactly for the lead bytes from E0 on.
abbrev left_of : (less b : ℕ) → ℕ
left_of less b = bit_and ((cond (top 7 (ones (ltb b less))) less b + (2 ^ 8 - less)) % 2 ^ 8) 0x80

-- The vector of `left_of`, as the code computes it, and what it has to be: 80 for each byte from
-- `lead` on.
abbrev left_lanes : (n less : ℕ) → List ℕ → List ℕ
left_lanes n less bytes =
    zip2 bit_and (zip2 (λ a b. (a + (2 ^ 8 - b)) % 2 ^ 8) (sel_l (map (top 7) (zip2 (λ a b. ones (ltb a b)) bytes (replicate n less)))
    (replicate n less) bytes) (replicate n less)) (replicate n 0x80)

abbrev led_lanes : ℕ → List ℕ → List ℕ
led_lanes lead bytes = map (λ b. cond (leb lead b) 0x80 0) bytes

-- If the subtraction leaves 80 for exactly the bytes from `lead` on, tested for all 256 bytes, it
-- does that in each lane.
module _ (less lead : ℕ) (agree : agree_below (λ b. eqb (left_of less b) (cond (leb lead b) 0x80 0)) (λ _. true) 0x100 ≡ true) where
  pub led_are : (bytes : List ℕ) → length bytes ≡ 32 → Each1 (Fits w8) bytes → left_lanes 32 less bytes ≡ led_lanes lead bytes
  led_are bytes long fits =
      rw (lanes_are bytes long) (on_range (λ i. left_of less (get_or bytes i 0)) (λ i. cond (leb lead (get_or bytes i 0)) 0x80 0) 0 32
      (λ i low inside. eqb-true _ _ (agree_below_at (λ b. eqb (left_of less b) (cond (leb lead b) 0x80 0)) (λ _. true) 0x100 _ agree (lane_fits bytes long fits i inside))))

-- 80 for each byte from E0 on, two places earlier, is the class that `later` requires.
pub third_are : (three two third : List ℕ) → length three ≡ 32 → length two ≡ 32 → third ≡ led_lanes 0xE0 two →
    third ≡ zip2 (λ b d. later d) three two
third_are three two third long_three long_two is =
    is ∙ rw (lanes_are three long_three, lanes_are two long_two)
    (on_range (λ i. cond (leb 0xE0 (get_or two i 0)) 0x80 0) (λ i. later (get_or two i 0)) 0 32 (λ i low inside. refl))

-- The two class bits differ, so `|` gives their sum.
both : (third lead second : Bool) →
    bit_or (cond third 0x80 0) (bit_and (bit_and (mask lead) (mask second)) 0x20) ≡ cond third 0x80 0 + cond (lead && second) 0x20 0
both third lead second = grind (arith, cases_Bool)

-- The vector that `required_classes` returns. `later` has 80 if a third byte is required. `lead`
-- has FF if ED is four places earlier, `second` if a byte from A0 to AF is three places earlier.
abbrev required_lanes : ℕ → (later lead second : List ℕ) → List ℕ
required_lanes n later lead second =
    zip2 bit_or later (zip2 bit_and (zip2 bit_and lead second) (replicate n 0x20))

-- The class that is required by three bytes, for sets with and without surrogate pairs, and its
-- lanes.
abbrev required_if : CharacterSet → Bool → (a b d : ℕ) → ℕ
required_if s pairs a b d = later d + cond (pairs && (eqb a 0xED && (leb 0xA0 b && ltb b 0xB0))) 0x20 0

abbrev wants : CharacterSet → Bool → (four three two : List ℕ) → List ℕ
wants s pairs four three two = zip2 (λ want d. want d) (zip2 (required_if s pairs) four three) two

module _ (s : CharacterSet) where
  -- Without surrogate pairs only third bytes are required.
  pub alone_are : has_changed s ≡ false → (four three two later_lanes : List ℕ) → length four ≡ 32 → length three ≡ 32 → length two ≡ 32 →
      later_lanes ≡ zip2 (λ b d. later d) three two → later_lanes ≡ wants s (has_changed s) four three two
  alone_are none four three two later_lanes long_four long_three long_two is =
      let alone = λ (i : ℕ). later (get_or two i 0) in
      rw (none, is, lanes_are four long_four, lanes_are three long_three, lanes_are two long_two)
      (on_range alone (λ i. alone i + 0) 0 32 (λ i low inside. sym (add-zero (alone i))))

  -- With surrogate pairs, the second byte of a low surrogate is required too.
  pub required_are : has_changed s ≡ true → (four three two later_lanes lead second : List ℕ) → length four ≡ 32 → length three ≡ 32 → length two ≡ 32 → Each1 (Fits w8) three →
      later_lanes ≡ zip2 (λ b d. later d) three two → lead ≡ map (λ b. mask (eqb b 0xED)) four →
      second ≡ map (λ b. mask (eqb b 0xA0)) (zip2 bit_and three (replicate 32 0xF0)) → required_lanes 32 later_lanes lead second ≡ wants s (has_changed s) four three two
  required_are meant four three two later_lanes lead second long_four long_three long_two fits later_is lead_is second_is =
      let a = λ (i : ℕ). get_or four i 0 in
      let b = λ (i : ℕ). get_or three i 0 in
      let d = λ (i : ℕ). get_or two i 0 in
      rw (meant, later_is, lead_is, second_is, lanes_are four long_four, lanes_are three long_three, lanes_are two long_two)
      (on_range (λ i. bit_or (later (d i)) (bit_and (bit_and (mask (eqb (a i) 0xED)) (mask (eqb (bit_and (b i) 0xF0) 0xA0))) 0x20))
      (λ i. required_if s true (a i) (b i) (d i)) 0 32
      (λ i low inside. both (leb 0xE0 (d i)) (eqb (a i) 0xED) (eqb (bit_and (b i) 0xF0) 0xA0)
      ∙ ap (λ t. later (d i) + cond (eqb (a i) 0xED && t) 0x20 0) (is_high_lane (b i) (lane_fits three long_three fits i inside))))
