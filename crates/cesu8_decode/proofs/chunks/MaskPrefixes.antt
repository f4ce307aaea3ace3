-- What the masks of at most 64 bytes say about their prefixes, for `prefix_by_window` and
-- `valid_up_to_other`. What `is_ill_formed_at` says of the window at offset i is about byte i of
-- the bytes, since `window_of` puts five zeros before them.
use Rattle.std.proofs.Common.{◌≡◌, ℕ, ◌+◌, ◌<◌, ◌≤◌, ⊎_elim, Bool, true, false, ltb, min, bit_or, zero-add, ◌&&◌, ◌||◌, List, sym, ap, ◌∙◌, subst, arith, length}
use Rattle.std.proofs.lemmas.Bool.{cases_lt, or_parts, or_cases}
use Rattle.std.proofs.lemmas.Bool.Decides.{nat_tests}
use Rattle.std.specs.Int.{trailing_zeros, bit_at, w64}
use Rattle.std.specs.Int.Count.{trailing_of_zero}
use Rattle.std.proofs.lemmas.Nat.Bits.{bit_at-trailing_zeros, bit_at-zero}
use Rattle.cesu8_text.specs.Encoding.{Flavor}
use Rattle.cesu8_text.specs.Reading.{HasNoStrictReading}
use Rattle.cesu8_decode.specs.DecodedOffsets.{window_of, is_ill_formed_at}
use Rattle.cesu8_decode.specs.declared.lanes.windows.Window.{Window}
use Rattle.cesu8_decode.specs.Following.{Encoded, Unchanged}
use Rattle.cesu8_decode.specs.Prefixes.{IsLongestPrefix, AreChanges, is_changed_at}
use Rattle.cesu8_decode.specs.Masks.{IsWindow, Marks, is_pair_at, is_null_at}
use Rattle.cesu8_decode.proofs.by_offset.IllFormed.{IsCovered, encoding_covered}
use Rattle.cesu8_decode.proofs.decoder.MaskBits.{marked, unmarked, marks_fit, bits_from, marks_from, or_bits, by_equal_test}
use Rattle.cesu8_decode.proofs.chunks.EventPrefixes.{valid_prefix, unchanged_prefix, none_covers}

-- The bits of both masks together mark the offsets that pass either test.
either_marks : (p q : ℕ → Bool) (n : ℕ) {a b : ℕ} → Marks a p 0 n → Marks b q 0 n → Marks (bit_or a b) (λ i. p i || q i) 0 n
either_marks p q n first second =
    marks_from (λ i. p i || q i) 0 n (by_equal_test (λ i. ltb i n && (p (0 + i) || q (0 + i))) (λ i. spread (ltb i n) (p (0 + i)) (q (0 + i)))
    (or_bits (bits_from p 0 n first) (bits_from q 0 n second)))
  where
    spread : (t p q : Bool) → ((t && p) || (t && q)) ≡ (t && (p || q))
    spread t p q = grind (arith, nat_tests)

-- The first m of n offsets fail a test, and the next one passes it.
record IsFirst (test : ℕ → Bool) (n m : ℕ) : Type 0 where
  pub within : m ≤ n
  pub before : (i : ℕ) → i < m → test i ≡ false
  pub there : m < n → test m ≡ true

-- The lowest bit of a mask is the first offset that passes.
first_marked : (test : ℕ → Bool) (n mask : ℕ) → n ≤ 64 → Marks mask test 0 n → (m : ℕ) →
    m ≡ min (trailing_zeros w64 mask) n → IsFirst test n m
first_marked test n mask few marks m is =
    ⊎_elim (λ (some : 0 < mask).
    let bits = bit_at-trailing_zeros w64 mask some (marks_fit test 0 n few marks) in
    let first = marked mask test 0 n marks (trailing_zeros w64 mask) bits.1 in
    let here : m ≡ trailing_zeros w64 mask = omega (arith, is, first.0) in record {
      within = omega (arith, is);
      before = λ i early. at_zero i false (unmarked mask test 0 n marks i (bits.2 i (omega (arith, early, here))) (omega (arith, early, here, first.0)));
      there = λ _. ap test (here ∙ sym (zero-add (trailing_zeros w64 mask))) ∙ first.1;
    })
    (λ (none : mask ≤ 0).
    let empty : mask ≡ 0 = omega arith in
    let all : m ≡ n = omega (arith, is, few, ap (trailing_zeros w64) empty, trailing_of_zero 64) in record {
      within = omega (arith, all);
      before = λ i early. at_zero i false (unmarked mask test 0 n marks i (ap (λ a. bit_at a i) empty ∙ bit_at-zero i) (omega (arith, early, all)));
      there = λ more. absurd (omega (arith, more, all));
    })
    (cases_lt 0 mask)
  where
    at_zero : (i : ℕ) (t : Bool) → test (0 + i) ≡ t → test i ≡ t
    at_zero i t is = ap test (sym (zero-add i)) ∙ is

-- ---- at most 64 bytes

module _ (f : Flavor) (bytes : List ℕ) (window : Window) (few : length bytes ≤ 64) (is : IsWindow f bytes 0 window) (all : is.n ≡ length bytes) where
  abbrev ill : ℕ
  ill = window.ill_formed

  abbrev pairs : ℕ
  pairs = window.pairs

  abbrev nulls : ℕ
  nulls = window.nulls

  of_ill : Marks ill (is_ill_formed_at f (window_of bytes)) 0 (length bytes)
  of_ill = subst (Marks ill (is_ill_formed_at f (window_of bytes)) 0) all is.ill_formed

  of_pairs : Marks pairs (is_pair_at f bytes) 0 (length bytes)
  of_pairs = subst (Marks pairs (is_pair_at f bytes) 0) all is.pairs

  of_nulls : Marks nulls (is_null_at f bytes) 0 (length bytes)
  of_nulls = subst (Marks nulls (is_null_at f bytes) 0) all is.nulls

  -- The mask of ill-formed bytes gives the valid prefix.
  pub valid_by_mask : (m : ℕ) → m ≡ min (trailing_zeros w64 ill) (length bytes) → IsLongestPrefix Encoded f bytes m
  valid_by_mask m m_is =
      let first = first_marked (is_ill_formed_at f (window_of bytes)) (length bytes) ill few of_ill m m_is in
      valid_prefix f bytes m first.within first.before first.there

  changed_marks : Marks (bit_or pairs nulls) (is_changed_at f bytes) 0 (length bytes)
  changed_marks = either_marks (is_pair_at f bytes) (is_null_at f bytes) (length bytes) of_pairs of_nulls

  -- The masks of a window give the unchanged prefix.
  pub unchanged_by_masks : (m : ℕ) →
      m ≡ min (trailing_zeros w64 (bit_or ill (bit_or pairs nulls))) (length bytes) → IsLongestPrefix Unchanged f bytes m
  unchanged_by_masks m m_is =
      let ill_at = is_ill_formed_at f (window_of bytes) in
      let events = either_marks ill_at (is_changed_at f bytes) (length bytes) of_ill changed_marks in
      let first = first_marked (λ i. ill_at i || is_changed_at f bytes i) (length bytes) (bit_or ill (bit_or pairs nulls)) few events m m_is in
      let neither = λ (i : ℕ) (early : i < m). or_parts (ill_at i) (is_changed_at f bytes i) (first.before i early) in
      unchanged_prefix f bytes m first.within (λ i early. (neither i early).0) (λ i early. (neither i early).1)
      (λ more. or_cases (ill_at m) (is_changed_at f bytes m) (first.there more))

  -- If no byte is ill-formed, the masks mark the characters that need conversion.
  pub changes_by_masks : ill ≡ 0 → AreChanges f bytes (bit_or pairs nulls)
  changes_by_masks none = record {
    marks = changed_marks;
    whole = λ i inside. ap (is_ill_formed_at f (window_of bytes)) (sym (zero-add i))
        ∙ unmarked ill (is_ill_formed_at f (window_of bytes)) 0 (length bytes) of_ill i (ap (λ a. bit_at a i) none ∙ bit_at-zero i) inside;
  }

  -- If no byte is ill-formed, and the prefix is not all bytes, some character needs conversion.
  pub some_change : ill ≡ 0 → (m : ℕ) → m ≡ min (trailing_zeros w64 (bit_or ill (bit_or pairs nulls))) (length bytes) → m < length bytes →
      ¬ (bit_or pairs nulls ≡ 0)
  some_change none m m_is more no_change =
      let zero : bit_or ill (bit_or pairs nulls) ≡ 0 = (λ i. bit_or (none i) (no_change i)) in
      omega (arith, more, m_is, few, ap (trailing_zeros w64) zero, trailing_of_zero 64)

  -- If a byte is ill-formed, there is no strict reading.
  pub none_by_mask : 0 < ill → HasNoStrictReading f bytes
  none_by_mask some text reads =
      let bits = bit_at-trailing_zeros w64 ill some (marks_fit (is_ill_formed_at f (window_of bytes)) 0 (length bytes) few of_ill) in
      let bad = marked ill (is_ill_formed_at f (window_of bytes)) 0 (length bytes) of_ill (trailing_zeros w64 ill) bits.1 in
      none_covers f bytes (trailing_zeros w64 ill) (omega (arith, bad.0)) bad.0
      (ap (is_ill_formed_at f (window_of bytes)) (sym (zero-add (trailing_zeros w64 ill))) ∙ bad.1)
      (subst (λ bs. IsCovered f bs (trailing_zeros w64 ill)) reads.1
      (encoding_covered f text (trailing_zeros w64 ill) reads.0 (omega (arith, bad.0, ap length reads.1))))
