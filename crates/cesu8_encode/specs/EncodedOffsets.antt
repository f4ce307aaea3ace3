-- What is written for each byte of UTF-8. It depends only on the byte, the two before it and the
-- one after it. It is defined for any list of bytes, with zeros around it.
use Rattle.std.specs.Prelude.{ℕ, zero, suc, ◌+◌, ◌-◌, ◌*◌, ◌/◌, ◌%◌, Bool, ◌||◌, ◌==◌, if◌then◌else◌, ◌≡◌, ◌^◌, ◌<◌, ◌≤◌, List, [], ◌∷◌, ◌++◌, length, take, slice_index, slice_index_or, map, replicate, bit_and, bit_or, count_ones}
use Rattle.std.specs.List.{flat_map, range_with_len}
use Rattle.std.specs.Simd.Lanes.{mask_l}
use Rattle.cesu8_text.specs.Encoding.{Flavor}
use Rattle.cesu8_text.specs.Class.{is_at_least_f0, is_null}

-- Whether a byte becomes two: the first and the third byte of four do, and the null of MUTF-8.
-- Every other byte becomes one.
abbrev pub is_doubled : Flavor → ℕ → ℕ → Bool
is_doubled f two_before b = (is_at_least_f0 b || is_at_least_f0 two_before) || is_null f b

-- The first of two bytes: ED begins a surrogate, and C0 the null of MUTF-8.
abbrev pub inserted : Flavor → ℕ → ℕ
inserted f b = if is_null f b then 0xC0 else 0xED

-- The last four bits of a byte and two bits of the next one.
abbrev pub six_bits : ℕ → ℕ → ℕ
six_bits b next = bit_or (bit_and (b * 4 % 0x100) 0x3C) (bit_and (next / 0x10) 3)

-- The second of two bytes, or the only one. The second and the third byte of the high surrogate
-- have six bits each, from the first three bytes of four. The six bits of the first byte are the
-- plane, of which a surrogate stores one less: so 9F is added, not A0. The second byte of the low
-- surrogate has the last bits of the third.
abbrev pub changed : Flavor → ℕ → ℕ → ℕ → ℕ → ℕ
changed f two_before before b next =
    if is_at_least_f0 b || is_at_least_f0 before
    then six_bits b next + (if is_at_least_f0 b then 0x9F else 0x80)
    else bit_or (bit_or b (if is_at_least_f0 two_before then 0x30 else 0)) (if is_null f b then 0x80 else 0)

-- What is written for a byte.
abbrev pub encoded_byte : Flavor → ℕ → ℕ → ℕ → ℕ → List ℕ
encoded_byte f two_before before b next =
    if is_doubled f two_before b
    then inserted f b ∷ changed f two_before before b next ∷ []
    else changed f two_before before b next ∷ []

-- What is written for the byte of a window at offset i + 2: the first of two bytes, and the second
-- or only one.
abbrev pub inserted_at : Flavor → List ℕ → ℕ → ℕ
inserted_at f window i = inserted f (slice_index window (i + 2))

abbrev pub changed_at : Flavor → List ℕ → ℕ → ℕ
changed_at f window i =
    changed f (slice_index window i) (slice_index window (i + 1)) (slice_index window (i + 2)) (slice_index window (i + 3))

-- Whether the byte at offset i + 2 becomes two.
abbrev pub is_doubled_at : Flavor → List ℕ → ℕ → Bool
is_doubled_at f window i = is_doubled f (slice_index window i) (slice_index window (i + 2))

-- What is written for the byte at offset i + 2.
abbrev pub encoded_byte_at : Flavor → List ℕ → ℕ → List ℕ
encoded_byte_at f window i =
    encoded_byte f (slice_index window i) (slice_index window (i + 1)) (slice_index window (i + 2)) (slice_index window (i + 3))

-- What is written for the n bytes from offset i + 2 on.
unfoldable pub encoded_bytes : Flavor → List ℕ → ℕ → ℕ → List ℕ
encoded_bytes f window i n = flat_map (encoded_byte_at f window) (range_with_len i n)

-- What is written for all bytes of a text, with zeros around it.
abbrev pub recoded : Flavor → List ℕ → List ℕ
recoded f bytes = encoded_bytes f (0 ∷ 0 ∷ bytes) 0 (length bytes)

-- A slice begins with what is written for the first n bytes of a text, up to `end`.
abbrev pub IsWritten : Flavor → List ℕ → ℕ → List ℕ → ℕ → Type 0
IsWritten f bytes n out end = (take end out ≡ encoded_bytes f (0 ∷ 0 ∷ bytes) 0 n) × (end ≤ length out)

-- After a call, the slice has what `IsWritten` says, and its length is unchanged.
pub record Writes (f : Flavor) (bytes : List ℕ) (n : ℕ) (old new : List ℕ) (end : ℕ) : Type 0 where
  pub written : IsWritten f bytes n new end
  pub len : length new ≡ length old

-- What is written for a list of bytes: for each byte its second byte, preceded by its first one if
-- its test holds.
abbrev pub packed : List Bool → List ℕ → List ℕ → List ℕ
packed [] firsts seconds = []
packed (t ∷ ts) [] seconds = []
packed (t ∷ ts) (a ∷ firsts) [] = []
packed (t ∷ ts) (a ∷ firsts) (b ∷ seconds) = if t then a ∷ b ∷ packed ts firsts seconds else b ∷ packed ts firsts seconds

-- The length of `packed` for the first n bytes. Bit i of the number is the test of byte i.
abbrev pub packed_len : ℕ → ℕ → ℕ
packed_len doubled n = n + count_ones (doubled % 2 ^ n)

-- The lanes that packing keeps of a vector of eight seconds and then eight firsts, for n bytes from
-- second i on. Bit 0 of the number is the test of the first of these bytes.
abbrev pub kept_lanes : ℕ → ℕ → ℕ → List ℕ
kept_lanes doubled i zero = []
kept_lanes doubled i (suc n) =
    if doubled % 2 == 1 then (8 + i) ∷ i ∷ kept_lanes (doubled / 2) (i + 1) n
    else i ∷ kept_lanes (doubled / 2) (i + 1) n

-- The kept lanes as a shuffle of sixteen, whose last lanes are unused.
abbrev pub shuffle_of : ℕ → List ℕ
shuffle_of doubled =
    let kept = kept_lanes doubled 0 8 in kept ++ replicate (16 - length kept) 0

-- The table of these shuffles, one for each number below 100 (hexadecimal).
abbrev pub AreShuffles : List (List ℕ) → Type 0
AreShuffles rows = (doubled : ℕ) → doubled < 0x100 → slice_index_or rows doubled [] ≡ shuffle_of doubled

-- The lanes of the block of a window at offset i + 2: the last byte that is written for each byte,
-- the one before that, and a bit for each byte that becomes two.
pub record AreLanes (f : Flavor) (window : List ℕ) (i : ℕ) (seconds firsts : List ℕ) (doubled : ℕ) : Type 0 where
  pub seconds_are : seconds ≡ map (changed_at f window) (range_with_len i 32)
  pub firsts_are : firsts ≡ map (inserted_at f window) (range_with_len i 32)
  pub doubled_is : doubled ≡ mask_l (map (is_doubled_at f window) (range_with_len i 32))

-- Packing the lanes gives what is written for the block at offset i + 2. A bit is set for each byte
-- that becomes two.
pub record ArePackedTo (f : Flavor) (window : List ℕ) (i : ℕ) (seconds firsts : List ℕ) (doubled : ℕ) : Type 0 where
  pub seconds_long : length seconds ≡ 32
  pub firsts_long : length firsts ≡ 32
  pub doubled_is : doubled ≡ mask_l (map (is_doubled_at f window) (range_with_len i 32))
  pub packed_to : packed (map (is_doubled_at f window) (range_with_len i 32)) firsts seconds ≡ encoded_bytes f window i 32

-- What the lanes of a block are packed to, for its first `count` bytes, is written from offset `at`
-- on, and ends at n. What precedes `at` is unchanged.
pub record WritesLanes (seconds firsts : List ℕ) (doubled count at : ℕ) (old new : List ℕ) (n : ℕ) : Type 0 where
  pub bytes : (f : Flavor) → (window : List ℕ) → (i : ℕ) → ArePackedTo f window i seconds firsts doubled →
      take n new ≡ take at old ++ encoded_bytes f window i count
  pub end : n ≡ at + packed_len doubled count
  pub len : length new ≡ length old
