-- What is written for a part of a text, which the encoder reads through a window with zeros at the
-- ends. A text is here the bytes of a string.
use Rattle.std.proofs.lemmas.Bool.Decides.{nat_tests}
use Rattle.std.proofs.lemmas.Grind.{common_steps}
use Rattle.std.proofs.Common.{◌≡◌, ℕ, zero, suc, ◌+◌, ◌-◌, ◌*◌, ◌%◌, ◌^◌, ◌<◌, ◌≤◌, Bool, cond, List, [], ◌∷◌, ◌++◌, map, refl, sym, subst, ap, ◌∙◌, arith, length, take, drop, get_or, replicate, bit_and, length-append, append_assoc, count_ones, zero-add}
use Rattle.std.specs.List.{flat_map, range_with_len}
use Rattle.std.proofs.lemmas.List.{append-nil, get_or-drop, get_or-take, length-drop, length-take-le, take_all, take_at, take-take}
use Rattle.std.proofs.lemmas.List.Concat.{flat_map-append}
use Rattle.std.proofs.lemmas.List.FromFn.{length-range_with_len, length-map-range_with_len, take-map-range_with_len}
use Rattle.std.proofs.lemmas.Nat.{and_mask}
use Rattle.std.proofs.Math.Nat.{mod-eq_of_lt}
use lib.Pow.{pow_mono}
use Rattle.std.proofs.lemmas.Simd.{mask_l-lt, ones-mask_l_cons}
use lib.Count.{ones-le}
use lib.Lanes.{mask_l}
use Rattle.std.specs.Str.{IsUtf8, chars}
use Rattle.cesu8_text.specs.Encoding.{Flavor, encoding}
use Rattle.cesu8_encode.specs.EncodedOffsets.{encoded_byte_at, encoded_bytes, recoded, is_doubled_at, inserted_at, changed_at, packed, packed_len, IsWritten, AreLanes, ArePackedTo}
use Rattle.cesu8_encode.proofs.encoder.RecodedText.{encoded_bytes_agree, recoded_chars}
use Rattle.cesu8_encode.proofs.encoder.EncodedLanes.{packed_offsets}
use Rattle.cesu8_bytes.proofs.vectors.Rows.{mask_prefix}
use Rattle.cesu8_bytes.proofs.vectors.Loads.{zeros_at, padded}

-- A range of n + m offsets is a range of n and one of m.
range_parts : (i n m : ℕ) → range_with_len i (n + m) ≡ range_with_len i n ++ range_with_len (i + n) m
range_parts i zero m = grind arith
range_parts i (suc n) m =
    let e : suc n + m ≡ suc (n + m) = omega arith in
    let e' : i + suc n ≡ i + 1 + n = omega arith in
    rw (e, e') (ap (λ l. i ∷ l) (range_parts (i + 1) n m))

-- What is written for n + m bytes is what is written for n, and then for m.
encoded_bytes_append : (f : Flavor) (window : List ℕ) (i n m : ℕ) → encoded_bytes f window i (n + m) ≡ encoded_bytes f window i n ++ encoded_bytes f window (i + n) m
unfolding encoded_bytes
encoded_bytes_append f window i n m =
    ap (flat_map (encoded_byte_at f window)) (range_parts i n m) ∙ flat_map-append (encoded_byte_at f window) (range_with_len i n) (range_with_len (i + n) m)

-- The text from offset i on, as the code takes it.
abbrev part_from : ℕ → List ℕ → List ℕ
part_from i text = take (length text - i) (drop i text)

-- What is written for the part of a text from two bytes before offset i on is what is written for
-- the text there.
encoded_bytes_drop : (f : Flavor) (text : List ℕ) (i n : ℕ) → 2 ≤ i → encoded_bytes f (part_from (i - 2) text) 0 n ≡ encoded_bytes f (0 ∷ 0 ∷ text) i n
encoded_bytes_drop f text i n le = rw (take_all (length text - (i - 2)) (drop (i - 2) text) (omega (arith, length-drop (i - 2) text)))
    (encoded_bytes_agree f (drop (i - 2) text) (0 ∷ 0 ∷ text) 0 i n (λ k l.
    let there : suc (suc (i - 2 + k)) ≡ i + k = omega arith in
    grind (arith, get_or-drop (i - 2) text k 0, ap (λ m. get_or (0 ∷ 0 ∷ text) m 0) there)))

-- ---- the first bytes of a block

-- Packing gives a byte for each element, and one more for each that passes the test t.
length_written : (t : ℕ → Bool) (g h : ℕ → ℕ) (vs : List ℕ) →
    length (flat_map (λ v. cond (t v) (g v ∷ h v ∷ []) (h v ∷ [])) vs) ≡ length vs + count_ones (mask_l (map t vs))
unfolding lib.Count.ones
length_written t g h [] = refl
length_written t g h (v ∷ vs) =
    grind (arith, common_steps, ones-mask_l_cons (t v) (map t vs), length_written t g h vs)

-- The length of what is written for n bytes: n, and one more for each byte that becomes two.
length_offsets : (f : Flavor) (window : List ℕ) (i n : ℕ) →
    length (encoded_bytes f window i n) ≡ n + count_ones (mask_l (map (is_doubled_at f window) (range_with_len i n)))
unfolding encoded_bytes
length_offsets f window i n =
    length_written (is_doubled_at f window) (inserted_at f window) (changed_at f window) (range_with_len i n)
    ∙ ap (λ k. k + count_ones (mask_l (map (is_doubled_at f window) (range_with_len i n)))) (length-range_with_len i n)

-- At most two bytes are written for each of n bytes.
pub at_most_twice : (f : Flavor) (window : List ℕ) (i n : ℕ) → length (encoded_bytes f window i n) ≤ 2 * n
at_most_twice f window i n =
    let tests = map (is_doubled_at f window) (range_with_len i n) in
    let few = ones-le n (mask_l tests) (subst (λ k. mask_l tests < 2 ^ k) (length-map-range_with_len (is_doubled_at f window) i n) (mask_l-lt tests)) in
    omega (arith, length_offsets f window i n, few)

-- Packing the lanes of a block gives what is written for its offsets.
packed_block : (f : Flavor) (window : List ℕ) (i n : ℕ) →
    packed (map (is_doubled_at f window) (range_with_len i n)) (map (inserted_at f window) (range_with_len i n)) (map (changed_at f window) (range_with_len i n))
    ≡ encoded_bytes f window i n
unfolding encoded_bytes
packed_block f window i n = packed_offsets (is_doubled_at f window) (inserted_at f window) (changed_at f window) (range_with_len i n)

-- The number with the lowest n bits set, as the code computes it.
ones_are : (n : ℕ) → n ≤ 32 → 1 * 2 ^ n % 0x10000000000000000 - 1 ≡ 2 ^ n - 1
ones_are n le = grind (arith, nat_tests, common_steps, mod-eq_of_lt, pow_mono)

-- Counting the bits that the code selects gives `packed_len`.
pub counted : (n doubled : ℕ) → n ≤ 32 →
    n + count_ones (bit_and doubled (1 * 2 ^ n % 0x10000000000000000 - 1)) ≡ packed_len doubled n
counted n doubled le = ap (λ k. n + count_ones (bit_and doubled k)) (ones_are n le) ∙ ap (λ b. n + count_ones b) (and_mask doubled n)

-- `packed_len` is the length of what is written for the first n bytes of a block.
pub prefix_long : (f : Flavor) (window : List ℕ) (i n doubled : ℕ) → n ≤ 32 →
    doubled ≡ mask_l (map (is_doubled_at f window) (range_with_len i 32)) →
    packed_len doubled n ≡ length (encoded_bytes f window i n)
prefix_long f window i n doubled le doubled_is =
    let tests = is_doubled_at f window in
    let prefix : doubled % 2 ^ n ≡ mask_l (map tests (range_with_len i n)) =
    ap (λ m. m % 2 ^ n) doubled_is
    ∙ mask_prefix n (map tests (range_with_len i 32)) (omega (arith, length-map-range_with_len tests i 32))
    ∙ ap mask_l (take-map-range_with_len tests i 32 n le) in
    ap (λ b. n + count_ones b) prefix ∙ sym (length_offsets f window i n)

-- What is written for the first n bytes of a block is a prefix of what is stored for the block.
pub prefix_of_block : (f : Flavor) (window before out : List ℕ) (i n stored end : ℕ) → n ≤ 32 → stored ≤ length out →
    take stored out ≡ before ++ encoded_bytes f window i 32 → end ≡ length before + length (encoded_bytes f window i n) →
    take end out ≡ before ++ encoded_bytes f window i n
prefix_of_block f window before out i n stored end le within is end_is =
    let prefix = encoded_bytes f window i n in
    let others = encoded_bytes f window (i + n) (32 - n) in
    let parts : take stored out ≡ (before ++ prefix) ++ others = grind (arith, append_assoc, encoded_bytes_append f window i n (32 - n)) in
    let ends : end ≤ stored = omega (arith, ap length parts, length-append {A = ℕ}, length-take-le stored out within) in
    sym (take-take end stored out ends) ∙ ap (take end) parts ∙ take_at (before ++ prefix) others end (omega (arith, length-append before prefix))

-- The lanes of a block are packed to what is written for it.
pub lanes_packed : (f : Flavor) (window : List ℕ) (i : ℕ) (seconds firsts : List ℕ) (doubled : ℕ) → AreLanes f window i seconds firsts doubled →
    ArePackedTo f window i seconds firsts doubled
lanes_packed f window i seconds firsts doubled lanes = record {
  seconds_long = ap length lanes.seconds_are ∙ length-map-range_with_len (changed_at f window) i 32;
  firsts_long = ap length lanes.firsts_are ∙ length-map-range_with_len (inserted_at f window) i 32;
  doubled_is = lanes.doubled_is;
  packed_to =
      (λ j. packed (map (is_doubled_at f window) (range_with_len i 32)) (lanes.firsts_are j) (lanes.seconds_are j)) ∙ packed_block f window i 32;
}

-- Zeros without the first m of them are zeros.
zeros_left : (n m j : ℕ) → ◌≡◌ {A = ℕ} (get_or (drop m (replicate n 0)) j 0) 0
zeros_left n m j = get_or-drop m (replicate n 0) j 0 ∙ zeros_at n (m + j)

-- The first block: a window of two zeros, the first 33 bytes of the text and more zeros gives what
-- the text gives.
pub encoded_bytes_first : (f : Flavor) (text near : List ℕ) (zeros m n : ℕ) → n ≤ 32 → near ≡ take 33 text →
    encoded_bytes f (0 ∷ 0 ∷ (near ++ drop m (replicate zeros 0))) 0 n ≡ encoded_bytes f (0 ∷ 0 ∷ text) 0 n
encoded_bytes_first f text near zeros m n le is =
    encoded_bytes_agree f (0 ∷ 0 ∷ (near ++ drop m (replicate zeros 0))) (0 ∷ 0 ∷ text) 0 0 n (λ k l. first (0 + k) (omega arith))
  where
    first : (k : ℕ) → k < 35 → get_or (0 ∷ 0 ∷ (near ++ drop m (replicate zeros 0))) k 0 ≡ get_or (0 ∷ 0 ∷ text) k 0
    first zero l = refl
    first (suc zero) l = refl
    first (suc (suc k)) l = padded near _ (zeros_left zeros m) k ∙ ap (λ xs. get_or xs k 0) is ∙ get_or-take 33 text k 0 (omega arith)

-- What is written for a text of at most a block, from a window that ends in zeros, is its encoding.
pub encoded_short : (f : Flavor) (bytes text near : List ℕ) → near ≡ bytes ++ drop (length bytes) (replicate 33 0) →
    bytes ≡ text → IsUtf8 text → length text ≤ 32 →
    encoded_bytes f (0 ∷ 0 ∷ (near ++ [])) 0 (length bytes) ≡ encoding f (chars text)
encoded_short f bytes text near near_is same is_utf8 short =
    let le : length bytes ≤ 32 = omega (arith, ap length same) in
    ap (λ window. encoded_bytes f (0 ∷ 0 ∷ window) 0 (length bytes)) (append-nil near ∙ near_is)
    ∙ encoded_bytes_first f bytes bytes 33 (length bytes) (length bytes) le (sym (take_all 33 bytes (omega arith)))
    ∙ recoded_chars f text bytes same is_utf8

-- The last block: a window of the last bytes of the text, followed by zeros, gives what the text
-- gives.
pub encoded_bytes_last : (f : Flavor) (text near : List ℕ) (i n : ℕ) → 2 ≤ i → near ≡ part_from (i - 2) text →
    encoded_bytes f (near ++ drop (length (part_from (i - 2) text)) (replicate 35 0)) 0 n ≡ encoded_bytes f (0 ∷ 0 ∷ text) i n
encoded_bytes_last f text near i n le is =
    let m = length (part_from (i - 2) text) in
    encoded_bytes_agree f (near ++ drop m (replicate 35 0)) near 0 0 n
    (λ k l. padded near (drop m (replicate 35 0)) (zeros_left 35 m) (0 + k))
    ∙ ap (λ window. encoded_bytes f window 0 n) is ∙ encoded_bytes_drop f text i n le

-- A block inside the text: a window of the block, two bytes before it and one after it gives what
-- the text gives.
pub encoded_bytes_window : (f : Flavor) (text : List ℕ) (at n : ℕ) → n ≡ 35 →
    encoded_bytes f (take n (drop at text)) 0 32 ≡ encoded_bytes f text at 32
encoded_bytes_window f text at n all =
    let window = take n (drop at text) in
    encoded_bytes_agree f window text 0 at 32
    (λ k l. ap (λ i. get_or window i 0) (zero-add k) ∙ get_or-take n (drop at text) k 0 (omega arith) ∙ get_or-drop at text k 0)

-- What is written for n bytes and then for m fits if what is written for at least n + m bytes does.
pub room_for_parts : (f : Flavor) (window : List ℕ) (i n m whole : ℕ) → n + m ≤ whole →
    length (encoded_bytes f window i n) + length (encoded_bytes f window (i + n) m) ≤ length (encoded_bytes f window i whole)
room_for_parts f window i n m whole le =
    let rest = whole - (n + m) in
    grind (arith, length-append, encoded_bytes_append f window i n (m + rest), encoded_bytes_append f window (i + n) m rest)

-- ---- a text by blocks

module _ (f : Flavor) (text : List ℕ) where
  abbrev around : List ℕ
  around = 0 ∷ 0 ∷ text

  -- What is written for bytes inside a text does not depend on the zeros around it.
  pub encoded_bytes_here : (i n : ℕ) → 2 ≤ i → encoded_bytes f text (i - 2) n ≡ encoded_bytes f around i n
  encoded_bytes_here i n le = encoded_bytes_agree f text around (i - 2) i n (λ k l.
      let there : suc (suc (i - 2 + k)) ≡ i + k = omega arith in
      ap (λ m. get_or around m 0) there)

  -- What is written for the next n bytes fits after what is written for the first i.
  pub room_after : (i n end : ℕ) (out piece : List ℕ) → piece ≡ encoded_bytes f around i n → i + n ≤ length text → IsWritten f text i out end →
      length (recoded f text) ≤ length out → end + length piece ≤ length out
  room_after i n end out piece same le written room =
      grind (arith, same, written.0, length-take-le end out written.1, room_for_parts f around 0 i n (length text) le)

  -- After what is written for n more bytes is appended, the first i + n bytes are written.
  pub written_after : (i n end after : ℕ) (old out piece : List ℕ) → IsWritten f text i old end →
      take after out ≡ take end old ++ piece → piece ≡ encoded_bytes f around i n → after ≤ length out → IsWritten f text (i + n) out after
  written_after i n end after old out piece written is piece_is within = grind (arith, nat_tests, common_steps, encoded_bytes_append)

  -- The rows of a block fit if at least eight bytes follow it. A row is stored as 16 bytes. The
  -- last of the four begins after what is written for the block's first 24 bytes, and at least one
  -- byte is written for each of the 16 bytes from there on: eight of the block, and eight after it.
  pub rows_fit : (i end : ℕ) (out : List ℕ) → 2 ≤ i → i + 40 ≤ length text → IsWritten f text i out end →
      length (recoded f text) ≤ length out → end + length (encoded_bytes f text (i - 2) 24) + 16 ≤ length out
  rows_fit i end out le within written room =
      let fits = room_after i 40 end out (encoded_bytes f text (i - 2) 40) (encoded_bytes_here i 40 le) within written room in
      let parts = ap length (encoded_bytes_append f text (i - 2) 24 16) in
      omega (arith, fits, parts, length-append (encoded_bytes f text (i - 2) 24) (encoded_bytes f text (i - 2 + 24) 16), length_offsets f text (i - 2 + 24) 16)
