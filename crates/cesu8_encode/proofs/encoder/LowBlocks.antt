-- Blocks of a window without a byte of F0 or more (hexadecimal), for `write_nulls` of
-- src/blocks.rt: only null characters change in them. The block at offset i of a window begins with
-- byte i + 2, since the two bytes before it and the one after its 32 bytes are read too.
use Rattle.std.proofs.lemmas.Bool.Decides.{nat_tests}
use Rattle.std.proofs.lemmas.Grind.{common_steps}
use Rattle.std.proofs.Common.{◌≡◌, ℕ, zero, suc, ◌+◌, ◌<◌, ◌≤◌, Bool, false, List, ◌∷◌, map, refl, ap, ◌∙◌, arith, length, get_or, replicate, bit_and, bit_or}
use Rattle.std.specs.List.{flat_map, range_with_len}
use Rattle.std.proofs.lemmas.Bool.{false_from_ne_true}
use Rattle.std.proofs.lemmas.List.{get_or_default}
use Rattle.std.proofs.lemmas.List.FromFn.{length-map-range_with_len}
use Rattle.std.proofs.lemmas.Simd.{map-map}
use lib.Lanes.{chunk, zip2, mask_l}
use Rattle.cesu8_bytes.specs.Kernels.{AnyIn, mask}
use Rattle.cesu8_text.specs.Encoding.{Flavor}
use Rattle.cesu8_text.specs.Class.{is_null, is_at_least_f0}
use Rattle.cesu8_encode.specs.EncodedOffsets.{changed, encoded_byte_at, encoded_bytes, changed_at, is_doubled_at, packed, ArePackedTo}
use Rattle.cesu8_bytes.proofs.vectors.Loads.{loaded, marks_at}
use Rattle.cesu8_encode.proofs.encoder.RecodedText.{or_zero}

-- None of the n bytes from an offset on is F0 or more.
abbrev Low : List ℕ → ℕ → ℕ → Type 0
Low window i n = (k : ℕ) → i ≤ k → k < i + n → is_at_least_f0 (get_or window k 0) ≡ false

-- If no byte of the window is F0 or more, none at these offsets is.
low : (window : List ℕ) (i n : ℕ) → i + n ≤ length window → (AnyIn is_at_least_f0 window → ⊥) → Low window i n
low window i n room none k from to =
    let within : k < length window = omega arith in
    false_from_ne_true _ (λ is. none (k, get_or window k 0, within, get_or_default window k (get_or window k 0) 0 within, is))

-- ---- the lanes of such a block

-- What is written last for the byte b, if x and y precede it: b, with the highest bit set if it is
-- a null that changes.
low_changed : (f : Flavor) (x y b n : ℕ) → is_at_least_f0 x ≡ false → is_at_least_f0 y ≡ false → is_at_least_f0 b ≡ false →
    bit_or b (bit_and (mask (is_null f b)) 0x80) ≡ changed f x y b n
low_changed f x y b n hx hy hb = grind (arith, nat_tests, common_steps, or_zero)

module _ (f : Flavor) (window : List ℕ) where
  abbrev byte : ℕ → ℕ
  byte i = get_or window (i + 2) 0

  -- With the highest bit of each null set, the bytes are what is written last for each byte of the
  -- block.
  low_seconds : (i n : ℕ) → Low window i (n + 2) →
      zip2 bit_or (map byte (range_with_len i n)) (zip2 bit_and (map (λ j. mask (is_null f (byte j))) (range_with_len i n)) (replicate n 0x80))
      ≡ map (changed_at f window) (range_with_len i n)
  low_seconds i zero h = refl
  low_seconds i (suc n) h =
      let first = low_changed f (get_or window i 0) (get_or window (i + 1) 0) (byte i) (get_or window (i + 3) 0)
      (h i (omega arith) (omega arith)) (h (i + 1) (omega arith) (omega arith)) (h (i + 2) (omega arith) (omega arith)) in
      λ j. first j ∷ low_seconds (i + 1) n (λ k from to. h k (omega arith) (omega arith)) j

  -- A byte becomes two if and only if it is a null that changes.
  low_doubled : (i n : ℕ) → Low window i (n + 2) →
      map (λ j. is_null f (byte j)) (range_with_len i n) ≡ map (is_doubled_at f window) (range_with_len i n)
  low_doubled i zero h = refl
  low_doubled i (suc n) h =
      rw (h i (omega arith) (omega arith), h (i + 2) (omega arith) (omega arith), low_doubled (i + 1) n (λ k from to. h k (omega arith) (omega arith))) refl

  -- Packing with C0 as each first byte gives what is written for the block.
  low_written : (i n : ℕ) → Low window i (n + 2) →
      packed (map (is_doubled_at f window) (range_with_len i n)) (replicate n 0xC0) (map (changed_at f window) (range_with_len i n))
      ≡ flat_map (encoded_byte_at f window) (range_with_len i n)
  low_written i zero h = refl
  low_written i (suc n) h =
      rw (h i (omega arith) (omega arith), h (i + 2) (omega arith) (omega arith))
      (grind (arith, common_steps, low_written (i + 1) n (λ k from to. h k (omega arith) (omega arith))))

-- The lanes that are computed from the bytes and the mask of nulls are packed to what is written
-- for the block.
pub low_packed : (f : Flavor) (null_class : ℕ → Bool) (window : List ℕ) (at : ℕ) (null : List ℕ) (doubled : ℕ) → null_class ≡ is_null f → at + 35 ≤ length window →
    (AnyIn is_at_least_f0 window → ⊥) → null ≡ map (λ b. mask (is_null f b)) (chunk (at + 2) 32 window) →
    doubled ≡ mask_l (map null_class (chunk (at + 2) 32 window)) →
    ArePackedTo f window at (zip2 bit_or (chunk (at + 2) 32 window) (zip2 bit_and null (replicate 32 0x80))) (replicate 32 0xC0) doubled
unfolding encoded_bytes
low_packed f null_class window at null doubled are room none null_is doubled_is =
    let h = low window at 34 (omega arith) none in
    let load = loaded window at 2 32 (omega arith) in
    let null_at = marks_at (is_null f) window at 2 null (omega arith) null_is in
    let seconds_are : zip2 bit_or (chunk (at + 2) 32 window) (zip2 bit_and null (replicate 32 0x80)) ≡ map (changed_at f window) (range_with_len at 32) =
    rw (load, null_at) (low_seconds f window at 32 h) in
    record {
      seconds_long = ap length seconds_are ∙ length-map-range_with_len (changed_at f window) at 32;
      firsts_long = refl;
      doubled_is =
          doubled_is ∙ ap mask_l ((λ j. map (are j) (load j)) ∙ map-map (is_null f) (λ i. get_or window (i + 2) 0) (range_with_len at 32)
          ∙ low_doubled f window at 32 h);
      packed_to = ap (packed (map (is_doubled_at f window) (range_with_len at 32)) (replicate 32 0xC0)) seconds_are ∙ low_written f window at 32 h;
    }
