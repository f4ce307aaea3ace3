-- `window_of_lanes` (`lanes/windows.rt`) computes a mask of covered offsets from the masks of the
-- characters' starts. This module proves that the mask marks exactly the offsets that are covered
-- by a character of two bytes or more that begins at one of n offsets, from `at` on.
use Rattle.std.proofs.Common.{◌≡◌, ℕ, zero, suc, ◌+◌, ◌-◌, ◌*◌, ◌%◌, ◌^◌, ◌<◌, ◌≤◌, ◌⊎◌, ⊎_elim, Bool, cond, true, false, ◌&&◌, ◌||◌, eqb, leb, ltb, List, get_or, bit_or, refl, sym, ap, ◌∙◌, arith}
use Rattle.std.proofs.lemmas.Bool.{cases_lt, or_cases, and_parts, and_from, lt-ltb, le-leb, ltb-true, leb-true, or_left, or_right, eq-eqb, eqb-true}
use Rattle.std.proofs.lemmas.Bool.Decides.{nat_tests}
use Rattle.cesu8_text.specs.Encoding.{Flavor}
use Rattle.cesu8_bytes.specs.Pairs.{null_at}
use Rattle.cesu8_decode.specs.DecodedOffsets.{one_at, two_at, three_at, pair_at, first_width_by, width_at}
use Rattle.cesu8_decode.specs.Masks.{HasBits, is_two_at, is_three_at, is_pair_at, is_null_at}
use Rattle.cesu8_decode.proofs.by_offset.CharacterBoundaries.{width_bounds}
use Rattle.cesu8_decode.proofs.by_offset.WidthTests.{width_tells}
use Rattle.cesu8_decode.proofs.decoder.MaskBits.{or_bits, earlier_bits}

-- ---- the widths of forms

-- The width w of the character that begins, by which of the five forms it has.
pub record Forms (w : ℕ) (one null two three pair : Bool) : Type 0 where
  pub is_one : one ≡ true → w ≡ 1
  pub is_null : null ≡ true → w ≡ 2
  is_two : two ≡ true → w ≡ 2
  is_three : three ≡ true → w ≡ 3
  pub is_pair : pair ≡ true → w ≡ 6

-- `first_width_by` makes the tests in this order. A test that passes gives the width, since no
-- earlier test that gives another width passes too.
chain : (one null two three six : Bool) →
    (null ≡ true → one ≡ false) → (two ≡ true → (one ≡ false)) → (three ≡ true → (one ≡ false) × (null ≡ false) × (two ≡ false)) →
    let w : ℕ = cond one 1 (cond null 2 (cond two 2 (cond three 3 (cond six 6 0)))) in
    (one ≡ true → w ≡ 1) × (null ≡ true → w ≡ 2) × (two ≡ true → w ≡ 2) × (three ≡ true → w ≡ 3)
chain one null two three six h1 h2 h3 = grind arith

pub forms : (f : Flavor) (a b d e g h : ℕ) → let w = first_width_by f a b d e g h in
    Forms w (one_at f a) (null_at f a b) (two_at a b) (three_at a b d) (eqb w 6)
unfolding first_width_by
forms f a b d e g h =
    let c = chain (one_at f a) (null_at f a b) (two_at a b) (three_at a b d) (pair_at a b d e g h)
    (λ null. grind (arith, nat_tests)) (λ two. grind (arith, nat_tests))
    (λ three. (grind (arith, nat_tests), grind (arith, nat_tests), grind (arith, nat_tests))) in
    record { is_one = c.0; is_null = c.1; is_two = c.2; is_three = c.3; is_pair = eqb-true (first_width_by f a b d e g h) 6 }

-- ---- covered offsets

module _ (f : Flavor) (bytes : List ℕ) (at n : ℕ) where
  -- The width of the character that begins at offset i. Offsets count from `at` on.
  abbrev w : ℕ → ℕ
  w i = width_at f bytes (at + i)

  pub formed : (i : ℕ) →
      Forms (w i) (one_at f (get_or bytes (at + i) 0)) (is_null_at f bytes (at + i)) (is_two_at bytes (at + i)) (is_three_at bytes (at + i)) (is_pair_at f bytes (at + i))
  formed i = grind (arith, nat_tests, forms)

  by_three : (i : ℕ) → w i ≡ 3 → is_three_at bytes (at + i) ≡ true
  by_three i = (width_tells f (get_or bytes (at + i) 0) _ _ _ _ _).4

  by_two : (i : ℕ) → w i ≡ 2 → (is_null_at f bytes (at + i) ≡ true) ⊎ (is_two_at bytes (at + i) ≡ true)
  by_two i = (width_tells f (get_or bytes (at + i) 0) _ _ _ _ _).5

  -- An offset below n that passes a test.
  abbrev first : (ℕ → Bool) → ℕ → Bool
  first test i = ltb i n && test (at + i)

  -- An offset k bytes after one that passes a test. A mask has no bit for an offset from 64 on.
  abbrev pub after : ℕ → (ℕ → Bool) → ℕ → Bool
  after k test i = ltb i 64 && (leb k i && test (i - k))

  -- The starts of three bytes. A surrogate pair has two of them.
  abbrev pub threes_by : ℕ → Bool
  threes_by i = (first (is_three_at bytes) i || first (is_pair_at f bytes) i) || after 3 (first (is_pair_at f bytes)) i

  -- The starts of two bytes or more.
  abbrev begins_by : ℕ → Bool
  begins_by i = (first (is_two_at bytes) i || first (is_null_at f bytes) i) || threes_by i

  -- The offsets that characters of two bytes or more cover.
  abbrev pub covered_by : ℕ → Bool
  covered_by i = (begins_by i || after 1 begins_by i) || after 2 threes_by i

  -- A character that begins s bytes before an offset has at least m bytes from that offset on.
  pub record Part (m i : ℕ) : Type 0 where
    pub s : ℕ
    pub near : s ≤ i
    pub begins : i - s < n
    pub reaches : s + m ≤ w (i - s)

  -- ---- an offset that is marked is covered

  part_here : (m i : ℕ) → i < n → m ≤ w i → Part m i
  part_here m i inside wide =
      let same : i - 0 ≡ i = omega arith in
      record { s = 0; near = omega arith; begins = omega arith; reaches = omega (arith, ap w same) }

  part_after : (k m i : ℕ) → k ≤ i → Part (m + k) (i - k) → Part m i
  part_after k m i low part =
      let s = part.s in
      let near = part.near in
      let begins = part.begins in
      let same : i - k - s ≡ i - (s + k) = omega arith in
      record { s = s + k; near = omega arith; begins = omega arith; reaches = omega (arith, part.reaches, ap w same) }

  marked : (test : ℕ → Bool) (i : ℕ) → first test i ≡ true → (i < n) × (test (at + i) ≡ true)
  marked test i set = let parts = and_parts (ltb i n) (test (at + i)) set in (ltb-true i n parts.0, parts.1)

  marked_after : (k : ℕ) (test : ℕ → Bool) (i : ℕ) → after k test i ≡ true → (k ≤ i) × (test (i - k) ≡ true)
  marked_after k test i set = grind (arith, nat_tests, and_parts, leb-true)

  from_threes : (i : ℕ) → threes_by i ≡ true → Part 3 i
  from_threes i set =
      let three = first (is_three_at bytes) in
      let pair = first (is_pair_at f bytes) in
      ⊎_elim (λ (whole : (three i || pair i) ≡ true).
      ⊎_elim (λ (h : three i ≡ true). let m = marked (is_three_at bytes) i h in part_here 3 i m.0 (omega (arith, (formed i).is_three m.1)))
      (λ (h : pair i ≡ true). let m = marked (is_pair_at f bytes) i h in part_here 3 i m.0 (omega (arith, (formed i).is_pair m.1)))
      (or_cases (three i) (pair i) whole))
      (λ (second : after 3 pair i ≡ true).
      let later = marked_after 3 pair i second in
      let m = marked (is_pair_at f bytes) (i - 3) later.1 in
      part_after 3 3 i later.0 (part_here 6 (i - 3) m.0 (omega (arith, (formed (i - 3)).is_pair m.1))))
      (or_cases (three i || pair i) (after 3 pair i) set)

  fewer : (m k i : ℕ) → m ≤ k → Part k i → Part m i
  fewer m k i low part = record { s = part.s; near = part.near; begins = part.begins; reaches = omega (arith, part.reaches) }

  from_begins : (i : ℕ) → begins_by i ≡ true → Part 2 i
  from_begins i set =
      let two = first (is_two_at bytes) in
      let null = first (is_null_at f bytes) in
      ⊎_elim (λ (h : (two i || null i) ≡ true).
      ⊎_elim (λ (h : two i ≡ true). let m = marked (is_two_at bytes) i h in part_here 2 i m.0 (omega (arith, (formed i).is_two m.1)))
      (λ (h : null i ≡ true). let m = marked (is_null_at f bytes) i h in part_here 2 i m.0 (omega (arith, (formed i).is_null m.1)))
      (or_cases (two i) (null i) h))
      (λ (h : threes_by i ≡ true). fewer 2 3 i (omega arith) (from_threes i h))
      (or_cases (two i || null i) (threes_by i) set)

  pub from_covered : (i : ℕ) → covered_by i ≡ true → Part 1 i
  from_covered i set =
      ⊎_elim (λ (h : (begins_by i || after 1 begins_by i) ≡ true).
      ⊎_elim (λ (h : begins_by i ≡ true). fewer 1 2 i (omega arith) (from_begins i h))
      (λ (h : after 1 begins_by i ≡ true). let later = marked_after 1 begins_by i h in part_after 1 1 i later.0 (from_begins (i - 1) later.1))
      (or_cases (begins_by i) (after 1 begins_by i) h))
      (λ (h : after 2 threes_by i ≡ true). let later = marked_after 2 threes_by i h in part_after 2 1 i later.0 (from_threes (i - 2) later.1))
      (or_cases (begins_by i || after 1 begins_by i) (after 2 threes_by i) set)

  -- ---- an offset that is covered is marked

  mark : (test : ℕ → Bool) (i : ℕ) → i < n → test (at + i) ≡ true → first test i ≡ true
  mark test i inside passes = and_from (ltb i n) (test (at + i)) (lt-ltb i n inside) passes

  mark_after : (k : ℕ) (test : ℕ → Bool) (i j : ℕ) → i ≡ j + k → i < 64 → test j ≡ true → after k test i ≡ true
  mark_after k test i j there small passes = grind (arith, nat_tests, and_from, lt-ltb, le-leb)

  to_threes : (i : ℕ) → i < n → 3 ≤ w i → threes_by i ≡ true
  to_threes i inside wide = grind (arith, nat_tests, or_left, mark, by_three, or_right, eq-eqb, width_bounds)

  abbrev two : ℕ → Bool
  two = first (is_two_at bytes)

  abbrev null : ℕ → Bool
  null = first (is_null_at f bytes)

  to_begins : (i : ℕ) → i < n → 2 ≤ w i → begins_by i ≡ true
  to_begins i inside wide =
      ⊎_elim (λ (short : w i < 3). or_left (two i || null i) (threes_by i)
      (⊎_elim (λ (h : is_null_at f bytes (at + i) ≡ true). or_right (two i) (null i) (mark (is_null_at f bytes) i inside h))
      (λ (h : is_two_at bytes (at + i) ≡ true). or_left (two i) (null i) (mark (is_two_at bytes) i inside h))
      (by_two i (omega arith))))
      (λ (long : 3 ≤ w i). or_right (two i || null i) (threes_by i) (to_threes i inside long))
      (cases_lt (w i) 3)

  -- The second three bytes of a surrogate pair are marked.
  threes_later : (j i : ℕ) → j < n → 4 ≤ w j → i ≡ j + 3 → i < 64 → threes_by i ≡ true
  threes_later j i inside wide there small = grind (arith, nat_tests, width_bounds, or_right, mark_after, mark, eq-eqb)

  from_begin : (i : ℕ) → begins_by i ≡ true → covered_by i ≡ true
  from_begin i set = or_left (begins_by i || after 1 begins_by i) (after 2 threes_by i) (or_left (begins_by i) (after 1 begins_by i) set)

  from_next : (j i : ℕ) → i ≡ j + 1 → i < 64 → begins_by j ≡ true → covered_by i ≡ true
  from_next j i there small set =
      or_left (begins_by i || after 1 begins_by i) (after 2 threes_by i) (or_right (begins_by i) (after 1 begins_by i) (mark_after 1 begins_by i j there small set))

  from_third : (j i : ℕ) → i ≡ j + 2 → i < 64 → threes_by j ≡ true → covered_by i ≡ true
  from_third j i there small set = or_right (begins_by i || after 1 begins_by i) (after 2 threes_by i) (mark_after 2 threes_by i j there small set)

  three_begins : (i : ℕ) → threes_by i ≡ true → begins_by i ≡ true
  three_begins i set = or_right (first (is_two_at bytes) i || first (is_null_at f bytes) i) (threes_by i) set

  -- Each offset that a character of two bytes or more covers is marked: offset i is s bytes after
  -- the start j of the character.
  pub to_covered : (j s i : ℕ) → j < n → s < w j → 2 ≤ w j → i ≡ j + s → i < 64 → covered_by i ≡ true
  to_covered j zero i inside reach wide there small =
      let same : j ≡ i = omega (arith, there) in ap covered_by (sym same) ∙ from_begin j (to_begins j inside wide)
  to_covered j (suc zero) i inside reach wide there small = from_next j i there small (to_begins j inside wide)
  to_covered j (suc (suc zero)) i inside reach wide there small = from_third j i there small (to_threes j inside (omega arith))
  to_covered j (suc (suc (suc zero))) i inside reach wide there small = from_begin i (three_begins i (threes_later j i inside (omega arith) there small))
  to_covered j (suc (suc (suc (suc zero)))) i inside reach wide there small =
      from_next (j + 3) i (omega (arith, there)) small (three_begins (j + 3) (threes_later j (j + 3) inside (omega arith) refl (omega arith)))
  to_covered j (suc (suc (suc (suc (suc zero))))) i inside reach wide there small =
      from_third (j + 3) i (omega (arith, there)) small (threes_later j (j + 3) inside (omega arith) refl (omega arith))
  to_covered j (suc (suc (suc (suc (suc (suc s)))))) i inside reach wide there small =
      absurd (omega (arith, reach, width_bounds f bytes (at + j)))

  -- ---- the masks of the code

  pub threes_mask : {threes pairs : ℕ} → HasBits threes (first (is_three_at bytes)) → HasBits pairs (first (is_pair_at f bytes)) →
      HasBits (bit_or (bit_or threes pairs) (pairs * 2 ^ 3 % 2 ^ 64)) threes_by
  threes_mask of_threes of_pairs = or_bits (or_bits of_threes of_pairs) (earlier_bits 3 of_pairs)

  pub covered_mask : {begins threes : ℕ} → HasBits begins begins_by → HasBits threes threes_by →
      HasBits (bit_or (bit_or begins (begins * 2 ^ 1 % 2 ^ 64)) (threes * 2 ^ 2 % 2 ^ 64)) covered_by
  covered_mask of_begins of_threes = or_bits (or_bits of_begins (earlier_bits 1 of_begins)) (earlier_bits 2 of_threes)
