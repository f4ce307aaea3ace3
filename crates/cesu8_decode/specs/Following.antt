-- Which bytes can follow which in whole encoded characters, as tests of five adjacent bytes.
use Rattle.std.specs.Prelude.{◌≡◌, ℕ, ◌+◌, ◌/◌, ◌%◌, ◌<◌, ◌≤◌, ◌&&◌, ◌||◌, ◌==◌, nat_le, nat_lt, if◌then◌else◌, not, Bool, true, false, List, ◌∷◌, length, slice_index, bit_and}
use Rattle.std.specs.Simd.Lanes.{chunk}
use Rattle.cesu8_text.specs.Class.{is_null}
use Rattle.cesu8_text.specs.Encoding.{Flavor}
use Rattle.cesu8_bytes.specs.Pairs.{null_at}
use Rattle.cesu8_decode.specs.DecodedOffsets.{continues}
use Rattle.cesu8_decode.specs.declared.lanes.character_set.Block.{Block}
use Rattle.cesu8_decode.specs.declared.lanes.character_set.Rule.{Rule}
use Rattle.cesu8_decode.specs.declared.lanes.character_set.TheConstants.{ENCODED, UNCHANGED}

-- A set of characters: all encoded characters, or those of them that are unchanged in UTF-8.
pub data CharacterSet : Type 0 where
  Encoded : CharacterSet
  Unchanged : CharacterSet

-- The rule of a set: whether it has surrogate pairs and C0 80, and its tables.
abbrev pub rule : CharacterSet → Rule
rule Encoded = ENCODED
rule Unchanged = UNCHANGED

abbrev pub has_changed : CharacterSet → Bool
has_changed s = (rule s).has_changed

-- ED and a byte from this one on begin no character of the set.
abbrev pub first_low : CharacterSet → ℕ
first_low Encoded = 0xB0
first_low Unchanged = 0xA0

-- What three tables have for two bytes: the bits that their entries have in common, by the upper
-- half of the first byte, by its lower half, and by the upper half of the second.
abbrev pub table_bits : (by_high by_low by_next : List ℕ) → ℕ → ℕ → ℕ
table_bits by_high by_low by_next a b =
    bit_and (bit_and (slice_index by_high (a / 0x10 % 0x10)) (slice_index by_low (a % 0x10))) (slice_index by_next (b / 0x10 % 0x10))

-- The class of byte b after byte a (numbers are hexadecimal): 80 after a continuation byte, so b is
-- a third byte; 20 if b is the second byte of a low surrogate, or of any surrogate if the set has
-- no pairs; 0 if b begins a character or is the second byte of another character. A byte from C0 on
-- that begins none, such as FF, is first taken to begin one: the byte after it has an error bit. In
-- every other case no character of the set has the two bytes, and the class has an error bit.
unfoldable pub pair_class : CharacterSet → Flavor → ℕ → ℕ → ℕ
pair_class s f a b =
    if is_null f b then 0xFF
    else if nat_le 0xF0 a then 0x40
    else if not (continues b) then (if nat_le 0xC0 a then 0x01 else 0)
    else if nat_lt a 0x80 then 0x02
    else if nat_lt a 0xC0 then 0x80
    else if a == 0xC0 then (if has_changed s && null_at f 0xC0 b then 0 else 0x10)
    else if a == 0xC1 then 0x08
    else if a == 0xE0 && nat_lt b 0xA0 then 0x04
    else if a == 0xED && nat_le (first_low s) b then 0x20
    else 0

-- Two bytes begin a high surrogate, and the set has surrogate pairs.
abbrev pub is_high_surrogate : CharacterSet → ℕ → ℕ → Bool
is_high_surrogate s a b = has_changed s && (a == 0xED && (nat_le 0xA0 b && nat_lt b 0xB0))

-- The class that a byte is required to have by the byte two places earlier: a third byte, if that
-- leads a character of three bytes.
abbrev pub later : ℕ → ℕ
later d = if nat_le 0xE0 d then 0x80 else 0

-- The class that a byte is required to have by the bytes four, three and two places earlier: also
-- the second byte of a low surrogate, if a high surrogate precedes it.
abbrev pub required_class : CharacterSet → (a b d : ℕ) → ℕ
required_class s a b d = later d + (if is_high_surrogate s a b then 0x20 else 0)

-- Byte g can follow the bytes a, b, d and e: its class is the required one.
abbrev pub follows : CharacterSet → Flavor → (a b d e g : ℕ) → Bool
follows s f a b d e g = pair_class s f e g == required_class s a b d

-- Byte i + 4 of a window can follow the four bytes before it.
abbrev pub follows_at : CharacterSet → Flavor → List ℕ → ℕ → Bool
follows_at s f window i =
    let w = slice_index window in
    follows s f (w i) (w (i + 1)) (w (i + 2)) (w (i + 3)) (w (i + 4))

-- A block holds 32 bytes of a window, from byte i + 4 on, and the bytes before each of them that
-- the set needs.
pub record IsBlockAt (s : CharacterSet) (window : List ℕ) (i : ℕ) (block : Block) : Type 0 where
  pub room : i + 36 ≤ length window
  pub bytes : block.bytes ≡ chunk (i + 4) 32 window
  pub one_before : block.one_before ≡ chunk (i + 3) 32 window
  pub two_before : block.two_before ≡ chunk (i + 2) 32 window
  pub three_before : has_changed s ≡ true → block.three_before ≡ chunk (i + 1) 32 window
  pub four_before : has_changed s ≡ true → block.four_before ≡ chunk i 32 window

-- The window of some bytes in these tests: four zeros precede them, and not five as in `window_of`.
-- In MUTF-8 too, each zero counts as a character of one byte, since whether a byte is a null is
-- tested only from the fifth byte of a window on.
abbrev pub after_fillers : List ℕ → List ℕ
after_fillers bytes = 0 ∷ 0 ∷ 0 ∷ 0 ∷ bytes

-- Each of n bytes of a window, from byte i + 4 on, can follow the four bytes before it.
abbrev pub AllFollow : CharacterSet → Flavor → List ℕ → ℕ → ℕ → Type 0
AllFollow s f window i n = (k : ℕ) → i ≤ k → k < i + n → follows_at s f window k ≡ true

-- Each of the first n bytes can follow the bytes before it.
pub record FirstFollow (s : CharacterSet) (f : Flavor) (bytes : List ℕ) (n : ℕ) : Type 0 where
  pub within : n ≤ length bytes
  pub follow : (k : ℕ) → k < n → follows_at s f (after_fillers bytes) k ≡ true

-- Each of the first n bytes can follow the bytes before it, and the next byte cannot.
pub record FollowUpTo (s : CharacterSet) (f : Flavor) (bytes : List ℕ) (n : ℕ) : Type 0 where
  pub first : FirstFollow s f bytes n
  pub stops : n < length bytes → follows_at s f (after_fillers bytes) n ≡ false

-- A character or a surrogate pair can cross an offset, by the four bytes before it.
abbrev pub crosses : CharacterSet → (a b d e : ℕ) → Bool
crosses s a b d e =
    nat_le 0xC0 e || (nat_le 0xE0 d || (is_high_surrogate s b d || is_high_surrogate s a b))

-- A character or a surrogate pair can cross the offset after byte i + 3 of a window.
abbrev pub crosses_at : CharacterSet → List ℕ → ℕ → Bool
crosses_at s window i =
    let w = slice_index window in
    crosses s (w i) (w (i + 1)) (w (i + 2)) (w (i + 3))
