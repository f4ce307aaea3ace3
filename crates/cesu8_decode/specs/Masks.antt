-- Masks of 64 bits: which characters begin at the offsets of a window, and which bytes are
-- ill-formed.
use Rattle.std.specs.Prelude.{◌≡◌, ℕ, ◌+◌, ◌*◌, ◌^◌, ◌%◌, ◌<◌, ◌≤◌, ◌&&◌, ◌==◌, nat_le, if◌then◌else◌, not, Bool, true, false, List, [], length, map, slice_index, slice_index_or}
use Rattle.std.specs.Int.{bit_at}
use Rattle.std.specs.List.{range_with_len}
use Rattle.std.specs.Simd.Lanes.{mask_l}
use Rattle.cesu8_text.specs.Encoding.{Flavor}
use Rattle.cesu8_bytes.specs.Packing.{kept_of, shuffle_keeping}
use Rattle.cesu8_bytes.specs.Pairs.{null_at}
use Rattle.cesu8_decode.specs.declared.lanes.masks.Masks.{Masks}
use Rattle.cesu8_decode.specs.declared.lanes.windows.Window.{Window}
use Rattle.cesu8_decode.specs.DecodedOffsets.{one_at, two_at, three_at, width_at, window_of, is_ill_formed_at, is_boundary_at, continues, pair_at}

-- Bit i of the mask is set exactly if i passes the test.
pub record HasBits (mask : ℕ) (test : ℕ → Bool) : Type 0 where
  pub bit : (i : ℕ) → bit_at mask i ≡ if test i then 1 else 0

-- In byte b the bit is set that is `below` places below the highest one.
abbrev pub has_bit_below : ℕ → ℕ → Bool
has_bit_below below b = nat_le 0x80 (b * 2 ^ below % 2 ^ 8)

-- A byte from E0 on is at the offset, and a continuation byte follows it.
abbrev pub is_long_lead_at : List ℕ → ℕ → Bool
is_long_lead_at bytes i = nat_le 0xE0 (slice_index bytes i) && continues (slice_index bytes (i + 1))

-- The six bytes from the offset on are a surrogate pair.
abbrev pub is_six_at : List ℕ → ℕ → Bool
is_six_at bytes i =
    let b = slice_index bytes in
    pair_at (b i) (b (i + 1)) (b (i + 2)) (b (i + 3)) (b (i + 4)) (b (i + 5))

-- For each i below n, bit i of the mask is set exactly if offset `at + i` passes the test. All
-- other bits are 0.
abbrev pub Marks : ℕ → (ℕ → Bool) → (at n : ℕ) → Type 0
Marks mask test at n = mask ≡ mask_l (map test (range_with_len at n))

-- No character of one byte is at the offset.
abbrev pub is_other_at : Flavor → List ℕ → ℕ → Bool
is_other_at f bytes i = not (one_at f (slice_index bytes i))

-- C0 80 begins at the offset, in MUTF-8.
abbrev pub is_null_at : Flavor → List ℕ → ℕ → Bool
is_null_at f bytes i = null_at f (slice_index bytes i) (slice_index bytes (i + 1))

-- A character of two bytes other than C0 80 begins at the offset.
abbrev pub is_two_at : List ℕ → ℕ → Bool
is_two_at bytes i = two_at (slice_index bytes i) (slice_index bytes (i + 1))

-- A character of three bytes begins at the offset.
abbrev pub is_three_at : List ℕ → ℕ → Bool
is_three_at bytes i = three_at (slice_index bytes i) (slice_index bytes (i + 1)) (slice_index bytes (i + 2))

-- A surrogate pair begins at the offset.
abbrev pub is_pair_at : Flavor → List ℕ → ℕ → Bool
is_pair_at f bytes i = width_at f bytes i == 6

-- The masks mark the characters that begin at n offsets, from `at` on. The bytes count as followed
-- by zeros.
pub record AreMasks (f : Flavor) (bytes : List ℕ) (at n : ℕ) (masks : Masks) : Type 0 where
  pub others : Marks masks.others (is_other_at f bytes) at n
  pub twos : Marks masks.twos (is_two_at bytes) at n
  pub threes : Marks masks.threes (is_three_at bytes) at n
  pub pairs : Marks masks.pairs (is_pair_at f bytes) at n
  pub nulls : Marks masks.nulls (is_null_at f bytes) at n

-- The window holds the events of the n bytes from `at` on, and of the rest of a character that
-- begins in them. `window_of bytes` has five zeros before the bytes, so what `is_ill_formed_at`
-- says of it at offset i is about byte i of the bytes.
pub record IsWindow (f : Flavor) (bytes : List ℕ) (at : ℕ) (window : Window) : Type 0 where
  pub n : ℕ
  pub few : n ≤ 64
  pub ill_formed : Marks window.ill_formed (is_ill_formed_at f (window_of bytes)) at n
  pub pairs : Marks window.pairs (is_pair_at f bytes) at n
  pub nulls : Marks window.nulls (is_null_at f bytes) at n
  pub len : (n ≤ window.len) × (window.len ≤ n + 5)
  pub fits : window.len ≤ 64
  -- The bytes after the n offsets, up to the end of the window, are the last ones of a character.
  pub rest : (i : ℕ) → at + n ≤ i → i < at + window.len → (width_at f bytes i ≡ 0) × (is_ill_formed_at f (window_of bytes) i ≡ false)
  -- The window ends at a character boundary.
  pub boundary : is_boundary_at f (window_of bytes) (at + window.len) ≡ true

-- A window of at most `width` bytes begins at offset `at`, which is a character boundary, and
-- `width` bytes can be loaded after it.
pub record HoldWindow (f : Flavor) (bytes : List ℕ) (at width : ℕ) (window : Window) : Type 0 where
  pub is_window : IsWindow f bytes at window
  pub boundary : is_boundary_at f (window_of bytes) at ≡ true
  pub few : window.len ≤ width
  pub after : at + window.len + width ≤ length bytes

-- Row `ill_formed` is a shuffle of four bytes: it puts the replacement character in place of each
-- byte whose bit is set in `ill_formed`, and keeps the others.
abbrev pub AreShufflesOfReplaced : List (List ℕ) → Type 0
AreShufflesOfReplaced rows = (ill_formed : ℕ) → ill_formed < 0x10 → slice_index_or rows ill_formed [] ≡ shuffle_keeping (kept_of 0 ill_formed 0 4)
