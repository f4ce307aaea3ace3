-- The masks of all forms of characters at the first n offsets, from masks of classes of bytes. They
-- are computed by `masks_of` (`lanes/masks.rt`), and most have the names that they have there.
use Rattle.std.proofs.Common.{◌≡◌, ℕ, zero, suc, ◌∷◌, map, add-zero, ◌+◌, ◌/◌, ◌^◌, ◌<◌, ◌≤◌, Bool, true, false, not, ◌&&◌, ◌||◌, eqb, leb, ltb, List, get_or, bit_and, bit_or, ap, sym, ◌∙◌, refl, arith, w64, zero-add, Fits, w8}
use Rattle.std.specs.Int.{bit_not}
use Rattle.std.specs.List.{range_with_len}
use lib.Lanes.{mask_l, Each1}
use Rattle.cesu8_bytes.specs.Pairs.{null_at}
use Rattle.std.proofs.lemmas.Bool.{lt-ltb}
use Rattle.cesu8_text.specs.Class.{is_null}
use Rattle.cesu8_text.specs.Encoding.{Flavor}
use Rattle.cesu8_decode.specs.DecodedOffsets.{continues, one_at, two_at, three_at}
use Rattle.cesu8_decode.specs.Masks.{HasBits, AreMasks, Marks, has_bit_below, is_long_lead_at, is_other_at, is_two_at, is_three_at, is_six_at, is_pair_at, is_null_at}
use Rattle.cesu8_decode.specs.declared.lanes.masks.Masks.{Masks}
use Rattle.cesu8_decode.proofs.by_offset.WindowOffsets.{Agree, agree_later, width_agrees}
use Rattle.cesu8_decode.proofs.decoder.MaskBits.{class_bits, lanes_below, by_equal_test, and_bits, or_bits, without_bits, later_bits, none_set, no_marks, marks_first}
use Rattle.cesu8_decode.proofs.decoder.MaskTests.{continuation_bit, below_c2_bit, wide_lead_bit, two_lead_bit, other_test, one_not_null, one_not_two, one_not_three, one_not_pair, pair_width}
use Rattle.cesu8_decode.proofs.decoder.ThreeMasks.{and_fits}

turned : (p q r : Bool) → ((p && q) && r) ≡ ((p && r) && q)
turned p q r = grind arith

regrouped : (p q r : Bool) → ((p && q) && r) ≡ (p && (q && r))
regrouped p q r = grind arith

within : (p q : Bool) → q ≡ true → (p && q) ≡ false → p ≡ false
within p q inside none = grind arith

first_of_two : (s t u : Bool) → t ≡ true → (s || (t && u)) ≡ (s || u)
first_of_two s t u inside = grind arith

module _ (f : Flavor) (xs : List ℕ) (fit : Each1 (Fits w8) xs) where
  abbrev x : ℕ → ℕ
  x i = get_or xs i 0

  small : (i : ℕ) → x i < 256
  small = lanes_below xs fit

  -- The bytes that are no character of one byte, among the first n of a vector of `lanes` lanes.
  module _ (n : ℕ) {lanes first high null : ℕ} (few : n ≤ lanes) (of_first : HasBits first (λ i. ltb i n))
      (high_is : high ≡ mask_l (map (leb 0x80) xs)) (of_null : HasBits null (λ i. ltb i lanes && is_null f (x i))) where
    of_high : HasBits high (λ i. leb 0x80 (x i))
    of_high = class_bits (leb 0x80) xs refl high_is

    other : (i : ℕ) → i < n → (leb 0x80 (x i) || (ltb i lanes && is_null f (x i))) ≡ is_other_at f xs i
    other i inside =
        first_of_two (leb 0x80 (x i)) (ltb i lanes) (is_null f (x i)) (lt-ltb i lanes (omega arith)) ∙ other_test f (x i)

    pub others_are : Marks (bit_and (bit_or high null) first) (is_other_at f xs) 0 n
    others_are = marks_first (is_other_at f xs) n (or_bits of_high of_null) of_first other

    -- If there is no such byte, all are characters of one byte.
    one : bit_and (bit_or high null) first ≡ 0 → (i : ℕ) → i < n → not (one_at f (x (0 + i))) ≡ false
    one none i inside =
        ap (λ j. not (one_at f (x j))) (zero-add i)
        ∙ sym (other i inside) ∙ within _ (ltb i n) (lt-ltb i n inside) (none_set none (and_bits (or_bits of_high of_null) of_first) i)

    pub ones_alone : bit_and (bit_or high null) first ≡ 0 → AreMasks f xs 0 n (record { others = 0; twos = 0; threes = 0; pairs = 0; nulls = 0 })
    ones_alone none =
        let w = λ (i s : ℕ). x (0 + i + s) in record {
          others = no_marks (is_other_at f xs) 0 n (one none);
          twos = no_marks (is_two_at xs) 0 n (λ i inside. one_not_two f (x (0 + i)) (w i 1) (one none i inside));
          threes = no_marks (is_three_at xs) 0 n (λ i inside. one_not_three f (x (0 + i)) (w i 1) (one none i inside) (w i 2));
          pairs = no_marks (is_pair_at f xs) 0 n (λ i inside.
              pair_width f (x (0 + i)) (w i 1) (w i 2) (w i 3) (w i 4) (w i 5)
              ∙ one_not_pair f (x (0 + i)) (w i 1) (one none i inside) (w i 2) (w i 3) (w i 4) (w i 5));
          nulls = no_marks (is_null_at f xs) 0 n (λ i inside. one_not_null f (x (0 + i)) (w i 1) (one none i inside));
        }

  -- The masks of continuation bytes, of lead bytes, and of characters of two bytes. `below` marks
  -- the bytes with bit 40 (hexadecimal), and `wide` those with bit 20.
  module _ {high below from_c2 wide : ℕ} (high_is : high ≡ mask_l (map (leb 0x80) xs)) (of_below : HasBits below (λ i. has_bit_below 1 (x i)))
      (c2_is : from_c2 ≡ mask_l (map (leb 0xC2) xs)) (of_wide : HasBits wide (λ i. has_bit_below 2 (x i)))
      (high_fits : high < 2 ^ 64) (c2_fits : from_c2 < 2 ^ 64) (wide_fits : wide < 2 ^ 64) where
    of_c2 : HasBits from_c2 (λ i. leb 0xC2 (x i))
    of_c2 = class_bits (leb 0xC2) xs refl c2_is

    abbrev from_c0 : ℕ
    from_c0 = bit_and high below

    abbrev second : ℕ
    second = bit_and high (bit_not w64 from_c0) / 2

    from_c0_fits : from_c0 < 2 ^ 64
    from_c0_fits = and_fits high below high_fits

    -- `second` marks the bytes that precede a continuation byte.
    pub second_are : HasBits second (λ i. continues (x (i + 1)))
    second_are =
        later_bits 1 (by_equal_test (λ i. continues (x i)) (λ i. continuation_bit (x i) (small i))
        (without_bits high_fits from_c0_fits (class_bits (leb 0x80) xs refl high_is) (and_bits (class_bits (leb 0x80) xs refl high_is) of_below)))

    -- This mask marks the lead bytes from E0 on that precede a continuation byte.
    pub long_leads_are : HasBits (bit_and (bit_and from_c2 second) wide) (is_long_lead_at xs)
    long_leads_are =
        by_equal_test (is_long_lead_at xs)
        (λ i. turned (leb 0xC2 (x i)) (continues (x (i + 1))) (has_bit_below 2 (x i)) ∙ ap (λ t. t && continues (x (i + 1))) (wide_lead_bit (x i) (small i)))
        (and_bits (and_bits of_c2 second_are) of_wide)

    -- This mask marks the bytes C0 and C1.
    pub below_c2_are : HasBits (bit_and from_c0 (bit_not w64 from_c2)) (λ i. leb 0xC0 (x i) && ltb (x i) 0xC2)
    below_c2_are =
        by_equal_test (λ i. leb 0xC0 (x i) && ltb (x i) 0xC2) (λ i. below_c2_bit (x i) (small i))
        (without_bits from_c0_fits c2_fits (and_bits (class_bits (leb 0x80) xs refl high_is) of_below) of_c2)

    -- This mask marks the characters of two bytes that begin at the first n offsets.
    pub twos_are : (n first : ℕ) → HasBits first (λ i. ltb i n) →
        Marks (bit_and (bit_and (bit_and from_c2 second) (bit_not w64 wide)) first) (is_two_at xs) 0 n
    twos_are n first of_first =
        marks_first (is_two_at xs) n (without_bits (and_fits from_c2 second c2_fits) wide_fits (and_bits of_c2 second_are) of_wide) of_first
        (λ i inside.
        turned (leb 0xC2 (x i)) (continues (x (i + 1))) (not (has_bit_below 2 (x i)))
        ∙ ap (λ t. t && continues (x (i + 1))) (two_lead_bit (x i) (small i))
        ∙ regrouped (leb 0xC2 (x i)) (ltb (x i) 0xE0) (continues (x (i + 1))))

  -- A mask of a form, limited to the first n bits, marks the characters that begin there.
  pub threes_first : (n : ℕ) {a first : ℕ} → HasBits a (is_three_at xs) → HasBits first (λ i. ltb i n) → Marks (bit_and a first) (is_three_at xs) 0 n
  threes_first n h of_first = marks_first (is_three_at xs) n h of_first (λ i inside. refl)

  pub nulls_first : (n : ℕ) {a first : ℕ} → HasBits a (is_null_at f xs) → HasBits first (λ i. ltb i n) → Marks (bit_and a first) (is_null_at f xs) 0 n
  nulls_first n h of_first = marks_first (is_null_at f xs) n h of_first (λ i inside. refl)

  pub pairs_first : (n : ℕ) {a first : ℕ} → HasBits a (is_six_at xs) → HasBits first (λ i. ltb i n) → Marks (bit_and a first) (is_pair_at f xs) 0 n
  pairs_first n h of_first = marks_first (is_pair_at f xs) n h of_first (λ i inside. sym (pair_width f (x i) (x (i + 1)) (x (i + 2)) (x (i + 3)) (x (i + 4)) (x (i + 5))))

-- ---- bytes at another offset

-- Tests that agree at each offset give the same list.
pub map_alike : (p q : ℕ → Bool) (i j n : ℕ) → ((k : ℕ) → k < n → p (i + k) ≡ q (j + k)) → map p (range_with_len i n) ≡ map q (range_with_len j n)
map_alike p q i j zero same = refl
map_alike p q i j (suc n) same =
    let first : p i ≡ q j = ap p (sym (add-zero i)) ∙ same 0 (omega arith) ∙ ap q (add-zero j) in
    let rest = map_alike p q (i + 1) (j + 1) n (λ k small.
    let here : i + 1 + k ≡ i + (1 + k) = omega arith in
    let there : j + 1 + k ≡ j + (1 + k) = omega arith in
    ap p here ∙ same (1 + k) (omega arith) ∙ ap q (sym there)) in
    (λ k. first k ∷ rest k)

-- The masks of a vector are the masks of any bytes that agree with it, up to five bytes after the
-- offsets.
pub masks_moved : (f : Flavor) (lanes bytes : List ℕ) (at n : ℕ) (masks : Masks) → Agree lanes bytes 0 at (n + 5) → AreMasks f lanes 0 n masks →
    AreMasks f bytes at n masks
masks_moved f lanes bytes at n masks agree are =
    let first : (i : ℕ) → i < n → get_or lanes (0 + i) 0 ≡ get_or bytes (at + i) 0 = λ i inside. agree i (omega arith) in
    let next : (i : ℕ) → i < n → Agree lanes bytes (0 + i) (at + i) 6 = λ i inside. agree_later lanes bytes 0 at (n + 5) i 6 (omega arith) agree in
    record {
      others = are.others ∙ ap mask_l (map_alike (is_other_at f lanes) (is_other_at f bytes) 0 at n (λ i inside k. not (one_at f (first i inside k))));
      twos = are.twos ∙ ap mask_l (map_alike (is_two_at lanes) (is_two_at bytes) 0 at n (λ i inside k. two_at (first i inside k) (next i inside 1 (omega arith) k)));
      threes = are.threes ∙ ap mask_l (map_alike (is_three_at lanes) (is_three_at bytes) 0 at n (λ i inside k.
          three_at (first i inside k) (next i inside 1 (omega arith) k) (next i inside 2 (omega arith) k)));
      pairs = are.pairs ∙ ap mask_l (map_alike (is_pair_at f lanes) (is_pair_at f bytes) 0 at n (λ i inside.
          ap (λ w. eqb w 6) (width_agrees f lanes bytes (0 + i) (at + i) (next i inside))));
      nulls = are.nulls ∙ ap mask_l (map_alike (is_null_at f lanes) (is_null_at f bytes) 0 at n (λ i inside k.
          null_at f (first i inside k) (next i inside 1 (omega arith) k)));
    }
