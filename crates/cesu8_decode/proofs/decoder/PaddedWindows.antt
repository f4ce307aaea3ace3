-- The window of at most 64 bytes is also that of these bytes with zeros after them. This is for
-- `window_of_padded` of `lanes/windows.rt` and for `pass/short.rt`. `window_of` puts five zeros
-- before the bytes, so that what is said of `window_of bytes` at offset i is about byte i of these.
use Rattle.std.proofs.Common.{◌≡◌, ℕ, ◌+◌, ◌^◌, ◌<◌, ◌≤◌, ⊎_elim, Bool, true, false, not, ◌&&◌, ◌||◌, eqb, ltb, List, ◌++◌, length, take, replicate, get_or, bit_and, sym, ap, ◌∙◌, arith, w64, zero-add}
use Rattle.std.specs.Int.{bit_not}
use Rattle.std.proofs.lemmas.Bool.{cases_lt, le-ltb}
use Rattle.std.proofs.lemmas.Bool.Decides.{nat_tests}
use Rattle.std.proofs.lemmas.List.{get_or_past, get_or-take, length-take-le}
use lib.Lanes.{mask_l}
use Rattle.cesu8_text.specs.Encoding.{Flavor, Mutf8}
use Rattle.cesu8_bytes.specs.Pairs.{null_at}
use Rattle.cesu8_bytes.proofs.vectors.Loads.{padded, zeros_at}
use Rattle.cesu8_decode.specs.DecodedOffsets.{width_at, window_of, is_ill_formed_at, pair_at}
use Rattle.cesu8_decode.specs.Prefixes.{AreChanges, is_changed_at}
use Rattle.cesu8_decode.specs.Masks.{HasBits, IsWindow, is_pair_at, is_null_at}
use Rattle.cesu8_decode.specs.declared.lanes.windows.Window.{Window}
use Rattle.cesu8_decode.proofs.by_offset.WindowOffsets.{width_agrees, ill_formed_agrees, boundary_agrees}
use Rattle.cesu8_decode.proofs.decoder.WrittenWindows.{windows_alike}
use Rattle.cesu8_decode.proofs.decoder.FormMasks.{map_alike}
use Rattle.cesu8_decode.proofs.decoder.MaskBits.{and_bits, without_bits, no_bits, by_equal_test, dropped, marks_from, bits_from, no_marks}
use Rattle.cesu8_decode.proofs.decoder.MaskTests.{pair_alone, pair_width, no_null_of}
use Rattle.cesu8_decode.proofs.by_offset.CharacterBoundaries.{boundary_at_zero}
use Rattle.cesu8_decode.proofs.decoder.WindowEnds.{ends_at_zero}

-- Bytes with zeros after them agree with the bytes at every offset, also after their end.
pub alike_with_zeros : (bytes source : List ℕ) (m : ℕ) → source ≡ bytes ++ replicate m 0 → (k : ℕ) → get_or source k 0 ≡ get_or bytes k 0
alike_with_zeros bytes source m is k = ap (λ bs. get_or bs k 0) is ∙ padded bytes (replicate m 0) (zeros_at m) k

-- Bytes without the zeros at their end agree with the bytes at every offset.
pub alike_without_zeros : (source : List ℕ) (n : ℕ) → n ≤ length source → ((i : ℕ) → n ≤ i → get_or source i 0 ≡ 0) → (k : ℕ) →
    get_or (take n source) k 0 ≡ get_or source k 0
alike_without_zeros source n fits zeros k = grind (arith, nat_tests, get_or-take, get_or_past, length-take-le)

-- A window of all bytes ends at their end.
pub ends_with_bytes : (f : Flavor) (bytes : List ℕ) (window : Window) (is : IsWindow f bytes 0 window) → is.n ≡ length bytes → window.len ≡ length bytes
ends_with_bytes f bytes window is all = ends_at_zero f bytes 0 window is (get_or_past bytes (0 + is.n) 0 (omega (arith, all))) ∙ all

-- A window of some bytes is also a window of any bytes that agree with these at every offset.
pub window_of_alike : (f : Flavor) (a b : List ℕ) (at : ℕ) (window : Window) → ((k : ℕ) → get_or a k 0 ≡ get_or b k 0) → IsWindow f a at window →
    IsWindow f b at window
window_of_alike f a b at window alike is = record {
  n = is.n;
  few = is.few;
  ill_formed = is.ill_formed ∙ ap mask_l (map_alike (is_ill_formed_at f (window_of a)) (is_ill_formed_at f (window_of b)) at at is.n (λ k _. ill_formed (at + k)));
  pairs = is.pairs ∙ ap mask_l (map_alike (is_pair_at f a) (is_pair_at f b) at at is.n (λ k _. ap (λ w. eqb w 6) (width (at + k))));
  nulls = is.nulls ∙ ap mask_l (map_alike (is_null_at f a) (is_null_at f b) at at is.n (λ k _. null (at + k)));
  len = is.len;
  fits = is.fits;
  rest = λ i from to.
      let rest = is.rest i from to in
      (sym (width i) ∙ rest.0, sym (ill_formed i) ∙ rest.1);
  boundary = sym (boundary_agrees f (window_of a) (window_of b) (at + window.len) (at + window.len) (λ k _. windows_alike a b alike (at + window.len + k)))
      ∙ is.boundary;
}
  where
    width : (i : ℕ) → width_at f a i ≡ width_at f b i
    width i = width_agrees f a b i i (λ k _. alike (i + k))

    null : (i : ℕ) → is_null_at f a i ≡ is_null_at f b i
    null i = (λ j. null_at f (alike i j) (alike (i + 1) j))

    ill_formed : (i : ℕ) → is_ill_formed_at f (window_of a) i ≡ is_ill_formed_at f (window_of b) i
    ill_formed i = ill_formed_agrees f (window_of a) (window_of b) i i (λ k _. windows_alike a b alike (i + k))

-- ---- the window from the characters that need conversion

-- At the start of C0 80 no surrogate pair begins, since the first bytes differ.
pair_not_null : (f : Flavor) (bytes : List ℕ) (i : ℕ) → is_pair_at f bytes i ≡ true → is_null_at f bytes i ≡ false
pair_not_null f bytes i pair = grind (arith, nat_tests, pair_alone, pair_width)

pair_lead : (a b d e g h : ℕ) → pair_at a b d e g h ≡ true → eqb a 0xC0 ≡ false
pair_lead a b d e g h pair = grind (arith, nat_tests)

pair_not_c0 : (f : Flavor) (bytes : List ℕ) (i : ℕ) → is_pair_at f bytes i ≡ true → eqb (get_or bytes i 0) 0xC0 ≡ false
pair_not_c0 f bytes i pair = grind (arith, nat_tests, pair_lead, pair_width)

null_lead : (f : Flavor) (a b : ℕ) → null_at f a b ≡ true → eqb a 0xC0 ≡ true
null_lead f a b null = grind (arith, nat_tests)

-- Among the bits of the characters that need conversion, those with a first byte C0 are C0 80, and
-- the others are surrogate pairs. `t` says whether the offset is in the bytes.
nulls_among : (t pair null c0 : Bool) → (pair ≡ true → c0 ≡ false) → (null ≡ true → c0 ≡ true) → ((t && (pair || null)) && c0) ≡ (t && null)
nulls_among t pair null c0 of_pair of_null = grind arith

pairs_among : (t pair null : Bool) → (pair ≡ true → null ≡ false) → ((t && (pair || null)) && not (t && null)) ≡ (t && pair)
pairs_among t pair null apart = grind arith

module _ (f : Flavor) (bytes : List ℕ) (changed : ℕ) (given : AreChanges f bytes changed) where
  abbrev n : ℕ
  n = length bytes

  of_changed : HasBits changed (λ i. ltb i n && is_changed_at f bytes (0 + i))
  of_changed = bits_from (is_changed_at f bytes) 0 n given.marks

  -- In MUTF-8, the characters marked by `changed` that begin with C0 are C0 80.
  pub nulls_of_changed : (lanes : List ℕ) (c0 : ℕ) → ((i : ℕ) → i < n → get_or lanes i 0 ≡ get_or bytes i 0) → HasBits c0 (λ i. eqb (get_or lanes i 0) 0xC0) →
      HasBits (bit_and changed c0) (λ i. ltb i n && is_null_at f bytes (0 + i))
  nulls_of_changed lanes c0 alike of_c0 = by_equal_test (λ i. ltb i n && is_null_at f bytes (0 + i)) tested (and_bits of_changed of_c0)
    where
      tested : (i : ℕ) → ((ltb i n && is_changed_at f bytes (0 + i)) && eqb (get_or lanes i 0) 0xC0) ≡ (ltb i n && is_null_at f bytes (0 + i))
      tested i =
          ⊎_elim (λ (inside : i < n).
          let same : get_or lanes i 0 ≡ get_or bytes (0 + i) 0 = alike i inside ∙ ap (λ k. get_or bytes k 0) (sym (zero-add i)) in
          ap (λ b. (ltb i n && is_changed_at f bytes (0 + i)) && eqb b 0xC0) same
          ∙ nulls_among (ltb i n) (is_pair_at f bytes (0 + i)) (is_null_at f bytes (0 + i)) (eqb (get_or bytes (0 + i) 0) 0xC0)
          (pair_not_c0 f bytes (0 + i)) (null_lead f (get_or bytes (0 + i) 0) (get_or bytes (0 + i + 1) 0)))
          (λ (past : n ≤ i).
          ap (λ t. (t && is_changed_at f bytes (0 + i)) && eqb (get_or lanes i 0) 0xC0) (le-ltb i n past)
          ∙ ap (λ t. t && is_null_at f bytes (0 + i)) (sym (le-ltb i n past)))
          (cases_lt i n)

  -- CESU-8 has no C0 80.
  pub no_nulls_of_changed : (f ≡ Mutf8 → ⊥) → HasBits 0 (λ i. ltb i n && is_null_at f bytes (0 + i))
  no_nulls_of_changed other = grind (arith, nat_tests, by_equal_test, no_null_of, dropped, no_bits)

  -- `changed & !nulls` and `nulls` are the masks of a window of all bytes: the other characters
  -- marked by `changed` are surrogate pairs, and no byte is ill-formed.
  pub changed_is_window : (nulls : ℕ) → n ≤ 64 → changed < 2 ^ 64 → nulls < 2 ^ 64 → HasBits nulls (λ i. ltb i n && is_null_at f bytes (0 + i)) →
      IsWindow f bytes 0 (record { ill_formed = 0; pairs = bit_and changed (bit_not w64 nulls); nulls = nulls; len = n })
  changed_is_window nulls few changed_fits nulls_fit of_nulls = record {
    n = n;
    few = few;
    ill_formed = no_marks (is_ill_formed_at f (window_of bytes)) 0 n (λ i inside. given.whole (0 + i) (omega (arith, inside)));
    pairs = marks_from (is_pair_at f bytes) 0 n (by_equal_test (λ i. ltb i n && is_pair_at f bytes (0 + i))
        (λ i. pairs_among (ltb i n) (is_pair_at f bytes (0 + i)) (is_null_at f bytes (0 + i)) (pair_not_null f bytes (0 + i)))
        (without_bits changed_fits nulls_fit of_changed of_nulls));
    nulls = marks_from (is_null_at f bytes) 0 n of_nulls;
    len = (omega arith, omega arith);
    fits = few;
    rest = λ i from to. absurd (omega (arith, from, to));
    boundary = boundary_at_zero f bytes (0 + n) (get_or_past bytes (0 + n) 0 (omega arith));
  }
