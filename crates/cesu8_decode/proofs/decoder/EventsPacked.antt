-- What shuffles pack for a window is, byte by byte, what decoding writes for it. `write_nulls`
-- packs 32 offsets at a time and at most one byte for each, `write_replaced` 16 and at most three.
use Rattle.std.proofs.Common.{◌≡◌, ◌≢◌, ℕ, zero, suc, ◌+◌, ◌-◌, ◌*◌, ◌/◌, ◌%◌, ◌^◌, ◌<◌, ◌≤◌, ⊎_elim, Bool, false, true≢false, cond, eqb, List, [], ◌∷◌, ◌++◌, refl, sym, ap, ◌∙◌, subst, arith, length, take, get_or, map, replicate, add-zero, zero-add}
use Rattle.std.specs.Int.{bit_at}
use Rattle.std.specs.List.{flat_map, range_with_len}
use Rattle.std.specs.Simd.Lanes.{mask_l}
use Rattle.std.proofs.lemmas.Bool.{ne_eqb, cases_eq}
use Rattle.std.proofs.lemmas.Bool.Decides.{nat_tests}
use Rattle.std.proofs.lemmas.Nat.Bits.{bit_at_above, bit_at-zero}
use Rattle.std.proofs.lemmas.Simd.{map-map}
use lib.Lanes.{chunk}
use Rattle.cesu8_bytes.specs.Puts.{WritesAt}
use Rattle.cesu8_text.specs.Encoding.{Flavor}
use Rattle.cesu8_decode.specs.DecodedOffsets.{window_of, is_ill_formed_at, decoded_at, decoded}
use Rattle.cesu8_decode.specs.Masks.{HoldWindow, IsWindow, is_null_at, is_pair_at}
use Rattle.cesu8_decode.specs.declared.lanes.windows.Window.{Window}
use Rattle.cesu8_decode.proofs.by_offset.WindowOffsets.{decoded_split}
use Rattle.cesu8_decode.proofs.chunks.Changed.{null_lead}
use Rattle.cesu8_decode.proofs.decoder.EventBits.{unset, shifted_first, shifted_next}
use Rattle.cesu8_decode.proofs.decoder.MaskBits.{marks_fit}
use Rattle.cesu8_decode.proofs.decoder.WindowEnds.{none_changes, null_set, ill_set, pair_unset, null_unset, ill_unset, none_in_window, ends_within, none_inside}
use Rattle.cesu8_decode.proofs.decoder.WrittenWindows.{one_or_none, at_most_three}
use Rattle.cesu8_decode.proofs.decoder.EventsDecoded.{plain_at, no_lone_lead, null_wide, null_at_decoded, replaced_at}
use Rattle.cesu8_bytes.specs.Packing.{written_for, written}
use Rattle.cesu8_decode.proofs.decoder.PackedLanes.{range_split, range_same, written_on_range, Packs, AreStored, next_stored}

-- ---- C0 80

-- What is packed for an offset, by the mask of C0 80: nothing for the second byte, 00 for C0, and
-- any other byte itself. The mask of the second bytes is `nulls << 1`.
abbrev pub null_packed : (bytes : List ℕ) (at nulls : ℕ) → ℕ → List ℕ
null_packed bytes at nulls i =
    written_for (eqb (bit_at (nulls * 2 % 2 ^ 64) i) 1) false (cond (eqb (get_or bytes (at + i) 0) 0xC0) 0 (get_or bytes (at + i) 0))

module _ {f : Flavor} {bytes : List ℕ} {at : ℕ} {window : Window} (holds : HoldWindow f bytes at 64 window) (no_pairs : window.pairs ≡ 0) (none : window.ill_formed ≡ 0) where
  abbrev is : IsWindow f bytes at window
  is = holds.is_window

  abbrev left_out : ℕ
  left_out = window.nulls * 2 % 2 ^ 64

  abbrev byte : ℕ → ℕ
  byte i = get_or bytes (at + i) 0

  abbrev packed : ℕ → List ℕ
  packed = null_packed bytes at window.nulls

  pair_none : (i : ℕ) → at ≤ i → i < at + window.len → is_pair_at f bytes i ≡ false
  pair_none i low inside = pair_unset is i low inside (ap (λ m. bit_at m (i - at)) no_pairs ∙ bit_at-zero (i - at))

  null_none : (i : ℕ) → i < window.len → bit_at window.nulls i ≡ 0 → is_null_at f bytes (at + i) ≡ false
  null_none i inside unset =
      let there : at + i - at ≡ i = omega arith in
      null_unset is (at + i) (omega arith) (omega arith) (ap (bit_at window.nulls) there ∙ unset)

  next_bit : (i : ℕ) → i < 64 → bit_at window.nulls i ≡ 0 → bit_at left_out (i + 1) ≡ 0
  next_bit i small unset = grind (arith, nat_tests, shifted_next, bit_at_above)

  unchanged_packed : (i : ℕ) → bit_at left_out i ≡ 0 → byte i ≢ 0xC0 → packed i ≡ byte i ∷ []
  unchanged_packed i unset other = rw (unset, ne_eqb (byte i) 0xC0 other) refl

  lead_packed : (i : ℕ) → bit_at left_out i ≡ 0 → byte i ≡ 0xC0 → packed i ≡ 0 ∷ []
  lead_packed i unset lead = rw (unset, lead) refl

  second_packed : (i : ℕ) → bit_at left_out i ≡ 1 → packed i ≡ []
  second_packed i set = rw set refl

  -- From an offset that is not the second byte of C0 80, what is packed is what decoding writes: 00
  -- for C0 80 if it begins there, and otherwise the byte itself, which then is not C0. `r` bytes of
  -- the window are left, and `m` bounds the steps: each takes C0 80 or one byte.
  packed_from : (m r i : ℕ) → r ≤ m → i + r ≡ window.len → bit_at left_out i ≡ 0 → ((j : ℕ) → i ≡ j + 1 → is_null_at f bytes (at + j) ≡ false) →
      flat_map packed (range_with_len i r) ≡ decoded f (window_of bytes) (at + i) r
  unfolding decoded
  packed_from m zero i few there clear before = refl
  packed_from zero (suc r) i few there clear before = absurd (omega arith)
  packed_from (suc m) (suc r) i few there clear before =
      ⊎_elim (λ (set : bit_at window.nulls i ≡ 1).
      let begins = null_set is i set in
      let fits : at + i + 2 ≤ length bytes = omega (arith, holds.after, begins.0, is.len) in
      let wide = null_wide f bytes (at + i) fits begins.1 in
      let within = ends_within is i 2 (omega arith) wide begins.0 in
      let next : bit_at window.nulls (i + 1) ≡ 0 = unset window.nulls (i + 1) (λ set.
      true≢false (sym (null_set is (i + 1) set).1
      ∙ (none_changes is (at + (i + 1)) (none_inside is i 2 (omega arith) wide begins.0 (omega (arith, holds.after)) (i + 1) (omega arith) (omega arith))).1)) in
      let all : 2 + (r - 1) ≡ suc r = omega arith in
      let after : at + (i + 2) ≡ at + i + 2 = omega arith in
      let second : i + 1 + 1 ≡ i + 2 = omega arith in
      let lead = lead_packed i clear (null_lead f (byte i) (get_or bytes (at + i + 1) 0) begins.1) in
      let gone = second_packed (i + 1) (shifted_next window.nulls (i + 1) i (omega (arith, within, is.fits)) refl ∙ set) in
      let first : flat_map packed (range_with_len i 2) ≡ decoded f (window_of bytes) (at + i) 2 =
      (λ k. lead k ++ (gone k ++ [])) ∙ sym (null_at_decoded f bytes (at + i) fits begins.1) in
      let rest : flat_map packed (range_with_len (i + 2) (r - 1)) ≡ decoded f (window_of bytes) (at + i + 2) (r - 1) =
      packed_from m (r - 1) (i + 2) (omega arith) (omega arith)
      (ap (bit_at left_out) (sym second) ∙ next_bit (i + 1) (omega (arith, within, is.fits)) next)
      (λ j there. let here : j ≡ i + 1 = omega arith in
      ap (λ j. is_null_at f bytes (at + j)) here ∙ null_none (i + 1) (omega arith) next)
      ∙ ap (λ k. decoded f (window_of bytes) k (r - 1)) after in
      ap (λ n. flat_map packed (range_with_len i n)) (sym all) ∙ range_split packed i 2 (r - 1) ∙ (λ k. first k ++ rest k)
      ∙ sym (decoded_split f (window_of bytes) (at + i) 2 (r - 1)) ∙ ap (decoded f (window_of bytes) (at + i)) all)
      (λ (other : ¬ (bit_at window.nulls i ≡ 1)).
      let none_here : bit_at window.nulls i ≡ 0 = unset window.nulls i other in
      let null = null_none i (omega arith) none_here in
      let fine = none_in_window f bytes at window is none (at + i) (omega arith) (omega arith) in
      let lone = no_lone_lead f bytes at window.len holds.boundary pair_none (at + i) (omega arith) (omega arith) null fine in
      let plain = plain_at f bytes at window.len holds.boundary pair_none (at + i) (omega arith) (omega arith) null
      (λ j low there. let here : j ≡ at + (j - at) = omega arith in
      ap (is_null_at f bytes) here ∙ before (j - at) (omega arith)) fine in
      let first = unchanged_packed i clear lone ∙ sym plain in
      let after : at + (i + 1) ≡ at + i + 1 = omega arith in
      let rest =
      packed_from m r (i + 1) (omega arith) (omega arith) (next_bit i (omega (arith, is.fits)) none_here)
      (λ j there. let here : j ≡ i = omega arith in ap (λ j. is_null_at f bytes (at + j)) here ∙ null)
      ∙ ap (λ k. decoded f (window_of bytes) k r) after in
      (λ k. first k ++ rest k))
      (cases_eq (bit_at window.nulls i) 1)

  -- For each offset after the window one byte is packed.
  one_after : (i : ℕ) → window.len ≤ i → i < 64 → length (packed i) ≡ 1
  one_after i past small =
      let clear : bit_at left_out i ≡ 0 =
      ⊎_elim (λ (start : i ≡ 0). ap (bit_at left_out) start ∙ shifted_first window.nulls)
      (λ (later : ¬ (i ≡ 0)).
      let there : i ≡ i - 1 + 1 = omega (arith, later) in
      ap (bit_at left_out) there
      ∙ next_bit (i - 1) (omega arith) (unset window.nulls (i - 1) (λ set.
      let begins = null_set is (i - 1) set in
      let fits : at + (i - 1) + 2 ≤ length bytes = omega (arith, holds.after, begins.0, is.len) in
      omega (arith, later, past, ends_within is (i - 1) 2 (omega arith) (null_wide f bytes (at + (i - 1)) fits begins.1) begins.0))))
      (cases_eq i 0) in
      ap length (written_clear clear)
    where
      written_clear : bit_at left_out i ≡ 0 → packed i ≡ cond (eqb (byte i) 0xC0) 0 (byte i) ∷ []
      written_clear clear = rw clear refl

  pub nulls_packed : Packs f bytes at window packed 1
  nulls_packed = record {
    text = packed_from window.len window.len 0 (omega arith) (omega arith) (shifted_first window.nulls) (λ j never. absurd (omega arith))
        ∙ ap (λ k. decoded f (window_of bytes) k window.len) (add-zero at);
    after = one_after;
    most = λ i. one_or_none (eqb (bit_at left_out i) 1) (cond (eqb (byte i) 0xC0) 0 (byte i));
  }

  -- The next block is stored after the blocks before it: from `middle` to `last`.
  pub block_stored : (n start middle last : ℕ) (block old mid new : List ℕ) → n + 32 ≤ 64 → block ≡ map (λ b. cond (eqb b 0xC0) 0 b) (chunk (at + n) 32 bytes) →
      AreStored f bytes at window packed 1 32 n start old mid middle →
      ((tests : List Bool) → 32 ≤ length tests → left_out / 2 ^ n ≡ mask_l tests → WritesAt (written (take 32 tests) (replicate 32 false) block) middle mid new last) →
      AreStored f bytes at window packed 1 32 (n + 32) start old new last
  block_stored n start middle last block old mid new within block_is before stored =
      let zeroed : ℕ → ℕ = λ b. cond (eqb b 0xC0) 0 b in
      next_stored f bytes at window (λ t b. written_for t false (zeroed b)) left_out (omega arith) 1 32 (λ tests bs. written tests (replicate 32 false) (map zeroed bs))
      (λ t z. ap (written (map t (range_with_len 0 32)) (replicate 32 false)) (map-map zeroed z (range_with_len 0 32)) ∙ written_on_range t (λ _. false) (λ i. zeroed (z i)) 0 32)
      n start middle last old mid new within (omega (arith, holds.after)) before
      (λ tests many is. subst (λ bs. WritesAt (written (take 32 tests) (replicate 32 false) bs) middle mid new last) block_is (stored tests many is))

-- ---- replacement characters

-- What is packed for an offset, by the mask of ill-formed bytes: U+FFFD, or the byte itself.
abbrev pub replaced : (bytes : List ℕ) (at ill : ℕ) → ℕ → List ℕ
replaced bytes at ill i = written_for false (eqb (bit_at ill i) 1) (get_or bytes (at + i) 0)

module _ {f : Flavor} {bytes : List ℕ} {at : ℕ} {window : Window} (holds : HoldWindow f bytes at 64 window) (no_pairs : window.pairs ≡ 0) (no_nulls : window.nulls ≡ 0) where
  abbrev stored : ℕ → List ℕ
  stored = replaced bytes at window.ill_formed

  replaced_one : (i : ℕ) → bit_at window.ill_formed i ≡ 1 → stored i ≡ 0xEF ∷ 0xBF ∷ 0xBD ∷ []
  replaced_one i set = rw set refl

  kept_one : (i : ℕ) → bit_at window.ill_formed i ≡ 0 → stored i ≡ get_or bytes (at + i) 0 ∷ []
  kept_one i clear = rw clear refl

  -- What is packed for an offset is what decoding writes for it: the replacement character, or the
  -- byte itself.
  stored_at : (i : ℕ) → i < window.len → stored i ≡ decoded_at f (window_of bytes) (at + i)
  stored_at i inside =
      ⊎_elim (λ (set : bit_at window.ill_formed i ≡ 1).
      replaced_one i set ∙ replaced_at f bytes (at + i) (ill_set holds.is_window i set).1)
      (λ (other : ¬ (bit_at window.ill_formed i ≡ 1)).
      let clear = unset window.ill_formed i other in
      let there : at + i - at ≡ i = omega arith in
      let unset_in = λ (mask : ℕ) (none : mask ≡ 0) (i : ℕ). ap (λ m. bit_at m (i - at)) none ∙ bit_at-zero (i - at) in
      let nullless = λ (i : ℕ) (low : at ≤ i) (inside : i < at + window.len). null_unset holds.is_window i low inside (unset_in window.nulls no_nulls i) in
      kept_one i clear
      ∙ sym (plain_at f bytes at window.len holds.boundary (λ i low inside. pair_unset holds.is_window i low inside (unset_in window.pairs no_pairs i)) (at + i) (omega arith) (omega arith)
      (nullless (at + i) (omega arith) (omega arith)) (λ j low there. nullless j low (omega arith))
      (ill_unset holds.is_window (at + i) (omega arith) (omega arith) (ap (bit_at window.ill_formed) there ∙ clear))))
      (cases_eq (bit_at window.ill_formed i) 1)

  pub replaced_packed : Packs f bytes at window stored 3
  unfolding decoded
  replaced_packed = record {
    text = range_same stored (decoded_at f (window_of bytes)) 0 at window.len (λ k small.
        ap stored (zero-add k) ∙ stored_at k small);
    after = λ i past small.
        ap length (kept_one i (unset window.ill_formed i (λ set. omega (arith, past, holds.is_window.len, (ill_set holds.is_window i set).0))));
    most = λ i. at_most_three false (eqb (bit_at window.ill_formed i) 1) (get_or bytes (at + i) 0);
  }

  -- The next sixteen bytes are stored after those before them: from `middle` to `last`.
  pub half_stored : (n start middle last : ℕ) (half old mid new : List ℕ) → n + 16 ≤ 64 → half ≡ chunk (at + n) 16 bytes →
      AreStored f bytes at window stored 3 16 n start old mid middle →
      ((tests : List Bool) → 16 ≤ length tests → window.ill_formed / 2 ^ n ≡ mask_l tests → WritesAt (written (replicate 16 false) (take 16 tests) half) middle mid new last) →
      AreStored f bytes at window stored 3 16 (n + 16) start old new last
  half_stored n start middle last half old mid new within half_is before put =
      next_stored f bytes at window (λ t b. written_for false t b) window.ill_formed (marks_fit (is_ill_formed_at f (window_of bytes)) at holds.is_window.n holds.is_window.few holds.is_window.ill_formed)
      3 16 (λ tests bs. written (replicate 16 false) tests bs) (λ t z. written_on_range (λ _. false) t z 0 16) n start middle last old mid new within (omega (arith, holds.after)) before
      (λ tests many is. subst (λ bs. WritesAt (written (replicate 16 false) (take 16 tests) bs) middle mid new last) half_is (put tests many is))
