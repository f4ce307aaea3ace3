-- Decoding described offset by offset: the width of the character that begins at an offset of a
-- window, what lossy decoding makes of the byte there, and by how much the offset shortens the
-- text. All three depend on a few nearby bytes only.
use Rattle.std.specs.Prelude.{◌≡◌, ℕ, zero, suc, ◌+◌, ◌*◌, ◌/◌, ◌%◌, ◌<◌, ◌&&◌, ◌||◌, ◌==◌, nat_le, nat_lt, if◌then◌else◌, not, Bool, true, List, [], ◌∷◌, slice_index, ◌⊎◌}
use Rattle.std.specs.List.{flat_map, range_with_len}
use Rattle.cesu8_text.specs.Encoding.{Flavor, Cesu8, Mutf8}
use Rattle.cesu8_text.specs.Reading.{standing, width_of}
use Rattle.cesu8_bytes.specs.Pairs.{null_at, HasPair}
use Rattle.cesu8_bytes.specs.Packing.{written_for}

-- The width of the encoded character that begins the bytes: its length, or 0 if none begins there.
abbrev pub first_width : Flavor → List ℕ → ℕ
first_width f bytes = width_of f (standing f bytes)

-- The first eight bytes are those of the prefix. Missing bytes count as zeros. A character has at
-- most six bytes, but the code loads eight as one word.
abbrev pub IsPrefixOf : List ℕ → List ℕ → Type 0
IsPrefixOf bytes prefix = (i : ℕ) → i < 8 → slice_index prefix i ≡ slice_index bytes i

-- The bytes begin with a character that needs conversion: a surrogate pair, or C0 80 in MUTF-8.
abbrev pub BeginsChanged : Flavor → List ℕ → Type 0
BeginsChanged f bytes = HasPair bytes ⊎ (null_at f (slice_index bytes 0) (slice_index bytes 1) ≡ true)

-- Byte b is a continuation byte. This and the following definitions test up to six bytes.
abbrev pub continues : ℕ → Bool
continues b = nat_le 0x80 b && nat_lt b 0xC0

-- Byte a is a character of one byte.
abbrev pub one_at : Flavor → ℕ → Bool
one_at Cesu8 a = nat_lt a 0x80
one_at Mutf8 a = nat_le 1 a && nat_lt a 0x80

-- Bytes a and b are a character of two bytes, but not C0 80.
abbrev pub two_at : ℕ → ℕ → Bool
two_at a b = nat_le 0xC2 a && (nat_lt a 0xE0 && continues b)

-- The second byte of a character of three bytes is A0 or more after E0, and less than A0 after ED.
abbrev pub fits_three : ℕ → ℕ → Bool
fits_three a b = if a == 0xE0 then nat_le 0xA0 b else if a == 0xED then nat_lt b 0xA0 else true

-- Bytes a, b and d are a character of three bytes.
abbrev pub three_at : ℕ → ℕ → ℕ → Bool
three_at a b d = nat_le 0xE0 a && (nat_lt a 0xF0 && (continues b && (continues d && fits_three a b)))

-- The six bytes are a surrogate pair.
abbrev pub pair_at : ℕ → ℕ → ℕ → ℕ → ℕ → ℕ → Bool
pair_at a b d e g h =
    a == 0xED && (nat_le 0xA0 b && (nat_lt b 0xB0 && (continues d && (e == 0xED && (nat_le 0xB0 g && (nat_lt g 0xC0 && continues h))))))

-- The width of the character that begins six bytes, by these tests.
unfoldable pub first_width_by : Flavor → ℕ → ℕ → ℕ → ℕ → ℕ → ℕ → ℕ
first_width_by f a b d e g h =
    if one_at f a then 1
    else if null_at f a b then 2
    else if two_at a b then 2
    else if three_at a b d then 3
    else if pair_at a b d e g h then 6
    else 0

-- The width of the character that begins at offset i of a window, from the six bytes there. The
-- window counts as followed by zeros.
abbrev pub width_at : Flavor → List ℕ → ℕ → ℕ
width_at f window i =
    let w = slice_index window in
    first_width_by f (w i) (w (i + 1)) (w (i + 2)) (w (i + 3)) (w (i + 4)) (w (i + 5))

-- The byte is dropped, by the widths at its offset and at the one before: it is one of the first
-- two bytes of a surrogate pair, or the first one of C0 80 in MUTF-8.
abbrev pub goes_by : (w0 w1 b : ℕ) → Bool
goes_by w0 w1 b = w0 == 6 || (w1 == 6 || (w0 == 2 && b == 0xC0))

-- No encoded character covers the byte, by the widths at its offset and at the five before.
abbrev pub ill_formed_by : (w0 w1 w2 w3 w4 w5 : ℕ) → Bool
ill_formed_by w0 w1 w2 w3 w4 w5 =
    not (nat_le 1 w0 || (nat_le 2 w1 || (nat_le 3 w2 || (w3 == 6 || (w4 == 6 || w5 == 6)))))

-- The byte that is written for a byte that is not dropped, from the widths at the four offsets
-- before it and the two bytes before it. The third, fourth and fifth byte of a surrogate pair are
-- converted, and the second byte of C0 80 becomes 00. Any other byte is unchanged.
abbrev pub byte_by : (w1 w2 w3 w4 two_before before b : ℕ) → ℕ
byte_by w1 w2 w3 w4 two_before before b =
    if w2 == 6 then 0xF0 + (before % 0x10 + 1) / 4
    else if w3 == 6 then 0x80 + ((two_before % 0x10 + 1) % 4 * 0x10 + before / 4 % 0x10)
    else if w4 == 6 then 0x80 + (two_before % 4 * 0x10 + b % 0x10)
    else if w1 == 2 && before == 0xC0 then 0
    else b

-- What is written for a byte: nothing if it is dropped, U+FFFD if it is ill-formed, and otherwise
-- one byte.
unfoldable pub decoded_byte : (w0 w1 w2 w3 w4 w5 two_before before b : ℕ) → List ℕ
decoded_byte w0 w1 w2 w3 w4 w5 two_before before b =
    written_for (goes_by w0 w1 b) (ill_formed_by w0 w1 w2 w3 w4 w5) (byte_by w1 w2 w3 w4 two_before before b)

-- What is written for byte i + 5 of a window.
abbrev pub decoded_at : Flavor → List ℕ → ℕ → List ℕ
decoded_at f window i =
    decoded_byte (width_at f window (i + 5)) (width_at f window (i + 4)) (width_at f window (i + 3)) (width_at f window (i + 2))
    (width_at f window (i + 1)) (width_at f window i) (slice_index window (i + 3)) (slice_index window (i + 4)) (slice_index window (i + 5))

-- The window of some bytes: five zeros precede them, so byte i of the bytes is byte i + 5 of the
-- window.
abbrev pub window_of : List ℕ → List ℕ
window_of bytes = 0 ∷ 0 ∷ 0 ∷ 0 ∷ 0 ∷ bytes

-- What is written for n bytes of a window, from byte i + 5 on.
unfoldable pub decoded : Flavor → List ℕ → ℕ → ℕ → List ℕ
decoded f window i n = flat_map (decoded_at f window) (range_with_len i n)

-- No encoded character covers byte i + 5 of a window.
abbrev pub is_ill_formed_at : Flavor → List ℕ → ℕ → Bool
is_ill_formed_at f window i =
    ill_formed_by (width_at f window (i + 5)) (width_at f window (i + 4)) (width_at f window (i + 3)) (width_at f window (i + 2))
    (width_at f window (i + 1)) (width_at f window i)

-- No encoded character crosses an offset, by the widths at the five offsets before it.
abbrev pub boundary_by : (w1 w2 w3 w4 w5 : ℕ) → Bool
boundary_by w1 w2 w3 w4 w5 = nat_le w1 1 && (nat_le w2 2 && (nat_le w3 3 && (nat_le w4 4 && nat_le w5 5)))

-- The offset before byte i + 5 of a window is a character boundary.
abbrev pub is_boundary_at : Flavor → List ℕ → ℕ → Bool
is_boundary_at f window i =
    boundary_by (width_at f window (i + 4)) (width_at f window (i + 3)) (width_at f window (i + 2)) (width_at f window (i + 1)) (width_at f window i)

-- How many bytes an offset saves, by the width w of the character that begins there and its first
-- byte b: three times w, less the length of its UTF-8. If none begins there, w is 0, and the offset
-- saves none.
abbrev pub saved : ℕ → ℕ → ℕ
saved w b =
    if w == 1 then 2
    else if w == 2 then (if b == 0xC0 then 5 else 4)
    else if w == 3 then 6
    else if w == 6 then 14
    else 0

-- What all offsets of the bytes save together.
unfoldable pub total_saved : Flavor → List ℕ → ℕ
total_saved f [] = 0
total_saved f (b ∷ bytes) = saved (first_width f (b ∷ bytes)) b + total_saved f bytes

-- What n offsets of a window save together, from offset i on.
unfoldable pub saved_between : Flavor → List ℕ → ℕ → ℕ → ℕ
saved_between f window i zero = 0
saved_between f window i (suc n) = saved (width_at f window i) (slice_index window i) + saved_between f window (i + 1) n
