-- How many bytes offsets save, by how many bits of each mask are set, for `lengths/counts.rt`. A
-- character of n bytes that becomes m bytes of UTF-8 saves 3 * n - m. Ill-formed bytes save none.
use Rattle.std.proofs.Common.{◌≡◌, ℕ, zero, suc, ◌+◌, ◌-◌, ◌*◌, ◌≤◌, Bool, cond, true, false, not, eqb, List, ◌++◌, map, drop, take, replicate, length, get_or, count_by, count_ones, refl, ap, sym, ◌∙◌, arith, zero-add}
use Rattle.std.specs.List.{range_with_len}
use Rattle.std.proofs.lemmas.Bool.Decides.{nat_tests}
use Rattle.std.proofs.lemmas.List.Sums.{sum_by-cons}
use Rattle.std.proofs.lemmas.List.{get_or_past, get_or_append_left, get_or-append_right, get_or-replicate, length-replicate, length-drop, get_or-drop, drop-drop, take_all}
use Rattle.std.proofs.lemmas.Simd.{get_or-chunk, ones-mask_l}
use lib.Lanes.{mask_l, chunk}
use Rattle.cesu8_text.specs.Encoding.{Flavor}
use Rattle.cesu8_bytes.specs.Pairs.{null_at}
use Rattle.cesu8_decode.specs.DecodedOffsets.{one_at, two_at, three_at, pair_at, first_width_by, saved, saved_between, total_saved}
use Rattle.cesu8_decode.specs.Masks.{AreMasks, is_other_at, is_two_at, is_three_at, is_pair_at, is_null_at}
use Rattle.cesu8_decode.specs.declared.lanes.masks.Masks.{Masks}
use Rattle.cesu8_decode.proofs.by_offset.WindowOffsets.{saved_agrees}
use Rattle.cesu8_decode.proofs.by_offset.SavedTotals.{all_offsets, saved_by_parts}
use Rattle.cesu8_decode.proofs.decoder.MaskTests.{pair_width}

-- ---- one offset

abbrev one_if : Bool → ℕ
one_if t = cond t 1 0

-- If at most one of the tests of the five forms passes, it decides what is saved. `is_c0` says
-- whether the first byte is C0. If there is no character of one byte, both sides are 2 more than
-- what is saved.
by_forms : (one null two three pair is_c0 : Bool) →
    (one ≡ true → (null ≡ false) × (two ≡ false) × (three ≡ false) × (pair ≡ false)) →
    (null ≡ true → (two ≡ false) × (three ≡ false) × (pair ≡ false) × (is_c0 ≡ true)) →
    (two ≡ true → (three ≡ false) × (pair ≡ false) × (is_c0 ≡ false)) → (three ≡ true → pair ≡ false) →
    let w : ℕ = cond one 1 (cond null 2 (cond two 2 (cond three 3 (cond pair 6 0)))) in
    (cond (eqb w 1) 2 (cond (eqb w 2) (cond is_c0 5 4) (cond (eqb w 3) 6 (cond (eqb w 6) 14 0))) + 2 * one_if (not one)
    ≡ 2 + 4 * one_if two + 6 * one_if three + 14 * one_if pair + 5 * one_if null)
    × (one_if two + one_if three + one_if pair + one_if null ≤ one_if (not one))
by_forms one null two three pair is_c0 h1 h2 h3 h4 = grind arith

-- An offset saves 2 if a character of one byte is there, and otherwise what the form that begins
-- there saves. At most one other form begins there, and none at a character of one byte.
offset_saves : (f : Flavor) (a b d e g h : ℕ) →
    (saved (first_width_by f a b d e g h) a + 2 * one_if (not (one_at f a))
    ≡ 2 + 4 * one_if (two_at a b) + 6 * one_if (three_at a b d) + 14 * one_if (pair_at a b d e g h) + 5 * one_if (null_at f a b))
    × (one_if (two_at a b) + one_if (three_at a b d) + one_if (pair_at a b d e g h) + one_if (null_at f a b) ≤ one_if (not (one_at f a)))
unfolding first_width_by
offset_saves f a b d e g h =
    by_forms (one_at f a) (null_at f a b) (two_at a b) (three_at a b d) (pair_at a b d e g h) (eqb a 0xC0)
    (λ one. (grind (arith, nat_tests), grind (arith, nat_tests), grind (arith, nat_tests), grind (arith, nat_tests)))
    (λ null. (grind (arith, nat_tests), grind (arith, nat_tests), grind (arith, nat_tests), grind (arith, nat_tests)))
    (λ two. (grind (arith, nat_tests), grind (arith, nat_tests), grind (arith, nat_tests)))
    (λ three. grind (arith, nat_tests))

at_most_one : (t : Bool) → one_if t ≤ 1
at_most_one t = grind arith

-- ---- many

module _ (f : Flavor) (bytes : List ℕ) where
  -- What n offsets save, by the number of offsets at which each form begins.
  saved_by_counts : (i n : ℕ) →
      let count : (ℕ → Bool) → ℕ = λ test. count_by test (range_with_len i n) in
      (saved_between f bytes i n + 2 * count (is_other_at f bytes)
      ≡ 2 * n + 4 * count (is_two_at bytes) + 6 * count (is_three_at bytes) + 14 * count (is_pair_at f bytes) + 5 * count (is_null_at f bytes))
      × (count (is_two_at bytes) + count (is_three_at bytes) + count (is_pair_at f bytes) + count (is_null_at f bytes) ≤ count (is_other_at f bytes))
      × (count (is_other_at f bytes) ≤ n)
  unfolding saved_between
  saved_by_counts i zero = (refl, omega arith, omega arith)
  saved_by_counts i (suc n) =
      let w = λ (k : ℕ). get_or bytes k 0 in
      let first = offset_saves f (w i) (w (i + 1)) (w (i + 2)) (w (i + 3)) (w (i + 4)) (w (i + 5)) in
      let pair = ap one_if (pair_width f (w i) (w (i + 1)) (w (i + 2)) (w (i + 3)) (w (i + 4)) (w (i + 5))) in
      let rest = saved_by_counts (i + 1) n in
      let others = sum_by-cons (λ k. one_if (is_other_at f bytes k)) i (range_with_len (i + 1) n) in
      let twos = sum_by-cons (λ k. one_if (is_two_at bytes k)) i (range_with_len (i + 1) n) in
      let threes = sum_by-cons (λ k. one_if (is_three_at bytes k)) i (range_with_len (i + 1) n) in
      let pairs = sum_by-cons (λ k. one_if (is_pair_at f bytes k)) i (range_with_len (i + 1) n) in
      let nulls = sum_by-cons (λ k. one_if (is_null_at f bytes k)) i (range_with_len (i + 1) n) in (
        omega (arith, first.0, pair, rest.0, others, twos, threes, pairs, nulls),
        omega (arith, first.1, pair, rest.1, others, twos, threes, pairs, nulls),
        omega (arith, at_most_one (is_other_at f bytes i), rest.2, others),
      )

-- ---- bits

-- The number of bits of a mask is the number of offsets that pass.
bits_count : (test : ℕ → Bool) (n mask : ℕ) → mask ≡ mask_l (map test (range_with_len 0 n)) →
    count_ones mask ≡ count_by test (range_with_len 0 n)
bits_count test n mask is = ap count_ones is ∙ ones-mask_l test (range_with_len 0 n)

-- What `saved_by_lanes` cites by `using`: the masks give what n offsets save.
module _ (f : Flavor) (bytes : List ℕ) (n : ℕ) (masks : Masks) (are : AreMasks f bytes 0 n masks) where
  sums : (count_ones masks.others ≤ n)
      × (2 * (n - count_ones masks.others) + 4 * count_ones masks.twos + 6 * count_ones masks.threes + 14 * count_ones masks.pairs + 5 * count_ones masks.nulls
      ≡ saved_between f bytes 0 n)
      × (count_ones masks.others ≡ 0 → 2 * n ≡ saved_between f bytes 0 n)
  sums =
      let sums = saved_by_counts f bytes 0 n in
      let others = bits_count (is_other_at f bytes) n masks.others are.others in
      let twos = bits_count (is_two_at bytes) n masks.twos are.twos in
      let threes = bits_count (is_three_at bytes) n masks.threes are.threes in
      let pairs = bits_count (is_pair_at f bytes) n masks.pairs are.pairs in
      let nulls = bits_count (is_null_at f bytes) n masks.nulls are.nulls in (
        omega (arith, sums.2, others),
        omega (arith, sums.0, sums.2, others, twos, threes, pairs, nulls),
        λ none. omega (arith, sums.0, sums.1, others, none),
      )

  pub saved_if_others : saved_between f bytes 0 n
      ≡ 2 * (n - count_ones masks.others) + 4 * count_ones masks.twos + 6 * count_ones masks.threes + 14 * count_ones masks.pairs + 5 * count_ones masks.nulls
  saved_if_others = sym sums.1

  pub saved_if_none : count_ones masks.others ≡ 0 → saved_between f bytes 0 n ≡ 2 * n
  saved_if_none none = sym (sums.2 none)

pub others_within : (masks : Masks) (f : Flavor) (bytes : List ℕ) (n : ℕ) → AreMasks f bytes 0 n masks → count_ones masks.others ≤ n
others_within masks f bytes n are = (sums f bytes n masks are).0

pub ruleset counts_of_masks = (saved_if_others, saved_if_none, others_within)

-- ---- vectors of bytes

zeros : (n k : ℕ) → get_or {A = ℕ} (replicate n 0) k 0 ≡ 0
zeros n k = grind (arith, nat_tests, get_or-replicate, get_or_past, length-replicate)

-- Bytes with zeros after them agree with the bytes at every offset.
pub with_zeros : (bytes : List ℕ) (n k : ℕ) → get_or (bytes ++ replicate n 0) k 0 ≡ get_or bytes k 0
with_zeros bytes n k = grind (arith, nat_tests, get_or_append_left, get_or-append_right, zeros, get_or_past)

module _ (f : Flavor) (bytes : List ℕ) where
  -- Bytes with zeros after them save what they save without the zeros.
  pub saved_before_zeros : (n : ℕ) → saved_between f (bytes ++ replicate n 0) 0 (length bytes) ≡ total_saved f bytes
  saved_before_zeros n =
      saved_agrees f (bytes ++ replicate n 0) bytes 0 0 (length bytes) (λ k small. with_zeros bytes n (0 + k)) ∙ all_offsets f bytes

  -- The first n offsets of a vector save what they save in the bytes: the vector also has the five
  -- bytes after them, to which a character that begins there can extend.
  pub saved_in_chunk : (at n : ℕ) → n + 5 ≤ 64 → saved_between f (chunk at 64 bytes) 0 n ≡ saved_between f bytes at n
  saved_in_chunk at n few =
      saved_agrees f (chunk at 64 bytes) bytes 0 at n
      (λ k small. ap (λ i. get_or (chunk at 64 bytes) i 0) (zero-add k) ∙ get_or-chunk at 64 bytes k 0 (omega arith))

  -- The bytes from an offset on save what the next n offsets save and what the bytes after these
  -- save.
  pub saved_next : (at n : ℕ) → at + n ≤ length bytes →
      total_saved f (drop at bytes) ≡ saved_between f bytes at n + total_saved f (drop (at + n) bytes)
  saved_next at n fits =
      let rest = drop at bytes in
      let parts = saved_by_parts f rest n (omega (arith, length-drop at bytes)) in
      let here = saved_agrees f rest bytes 0 at n (λ k small. ap (λ i. get_or rest i 0) (zero-add k) ∙ get_or-drop at bytes k 0) in
      let there = ap (total_saved f) (drop-drop n at bytes) in
      omega (arith, parts, here, there)

  -- Like `saved_next`, with the next n offsets in a vector that is loaded at the offset.
  pub saved_next_in_chunk : (at n : ℕ) → n + 5 ≤ 64 → at + n ≤ length bytes →
      total_saved f (drop at bytes) ≡ saved_between f (chunk at 64 bytes) 0 n + total_saved f (drop (at + n) bytes)
  saved_next_in_chunk at n few fits =
      omega (arith, saved_next at n fits, saved_in_chunk at n few)

  -- `&bytes[at..]` is `drop at bytes` cut to its own length, which cuts off nothing.
  pub saved_in_rest : (at : ℕ) → total_saved f (take (length bytes - at) (drop at bytes)) ≡ total_saved f (drop at bytes)
  saved_in_rest at = ap (total_saved f) (take_all (length bytes - at) (drop at bytes) (omega (arith, length-drop at bytes)))
