-- A part of a character of UTF-8 is completed by the last bytes of a fixed character, which is
-- padded with zeros to six bytes. There are two: after ED and F4 the second byte has to be low
-- (`low_bytes`), and after E0 and F0 it has to be high (`high_bytes`).
use Rattle.std.proofs.Common.{◌≡◌, ℕ, ◌+◌, ◌*◌, ◌/◌, ◌%◌, ◌<◌, ◌≤◌, ◌⊎◌, List, [], ◌∷◌, ◌++◌, refl, ap, ◌∙◌, inl, inr, arith, length}
use Rattle.std.proofs.lemmas.Bool.{cases_eq}
use Rattle.simd_cesu8.specs.Text.{IsScalarValue, utf8}
use Rattle.cesu8_stream.specs.Written.{Begins, BeginsNone}
use Rattle.cesu8_stream.specs.Completions.{low_bytes, high_bytes, IsCompletedBy}
use Rattle.cesu8_stream.proofs.Shapes.{IsTwo, IsThree, IsPair, IsFour, Shape, one, two, three, pair, shape, utf8_one, utf8_two, utf8_three, utf8_four}
use Rattle.cesu8_stream.proofs.Completions.{BeginsSome, IsPart, cons_parts}

-- The missing bytes of one of the two fixed characters make a character of the bytes.
abbrev Completes : List ℕ → Type 0
Completes bytes = IsCompletedBy utf8 low_bytes bytes ⊎ IsCompletedBy utf8 high_bytes bytes

-- Bytes with the form of a character of UTF-8, of two bytes, three or four, begin with a character.
-- Its digits are w to z (Shapes.antt).
two_begins : (x y : ℕ) (rest : List ℕ) → 2 ≤ x → x < 0x20 → y < 0x40 →
    BeginsSome utf8 ((0xC0 + x) ∷ (0x80 + y) ∷ rest)
two_begins x y rest low high last =
    let digits : IsTwo (x * 0x40 + y) x y = record { value = refl; low = low; high = high; last = last } in
    (x * 0x40 + y, record { scalar = inl (omega arith); rest = rest; bytes_are = rw (utf8_two _ x y digits) refl })

three_begins : (x y z : ℕ) (rest : List ℕ) → IsScalarValue (x * 0x1000 + y * 0x40 + z) →
    0x800 ≤ x * 0x1000 + y * 0x40 + z → x < 0x10 → y < 0x40 → z < 0x40 →
    BeginsSome utf8 ((0xE0 + x) ∷ (0x80 + y) ∷ (0x80 + z) ∷ rest)
three_begins x y z rest scalar low high middle last =
    let c = x * 0x1000 + y * 0x40 + z in
    let digits : IsThree c x y z = record { value = refl; low = low; high = high; middle = middle; last = last } in
    (c, record { scalar = scalar; rest = rest; bytes_are = rw (utf8_three c x y z digits) refl })

four_begins : (w x y z : ℕ) (rest : List ℕ) → 0x10 ≤ w * 0x40 + x → w * 0x40 + x < 0x110 → x < 0x40 → y < 0x40 → z < 0x40 →
    BeginsSome utf8 ((0xF0 + w) ∷ (0x80 + x) ∷ (0x80 + y) ∷ (0x80 + z) ∷ rest)
four_begins w x y z rest low high first second last =
    let c = w * 0x40000 + x * 0x1000 + y * 0x40 + z in
    let digits : IsFour c w x y z =
    record { value = refl; low = omega arith; high = omega arith; first = first; second = second; last = last } in
    (c, record { scalar = inr (omega arith, omega arith); rest = rest; bytes_are = rw (utf8_four c w x y z digits) refl })

-- A character of one byte has no part that lacks a byte.
one_completes : (c : ℕ) → IsScalarValue c → c < 0x80 → (bytes more rest : List ℕ) → IsPart utf8 bytes →
    bytes ++ more ≡ c ∷ rest → Completes bytes
one_completes c scalar low [] more rest part same = absurd (let h = part.some in omega arith)
one_completes c scalar low (a ∷ bytes) more rest part same =
    absurd (part.none_begins c (record {
      scalar = scalar;
      rest = bytes;
      bytes_are = rw (utf8_one c low, (cons_parts a c (bytes ++ more) rest same).0) refl;
    }))

-- A part of a character of two bytes is its first byte, which 80 completes.
two_completes : (c x y : ℕ) → IsScalarValue c → IsTwo c x y → (bytes more rest : List ℕ) → IsPart utf8 bytes →
    bytes ++ more ≡ (0xC0 + x) ∷ (0x80 + y) ∷ rest → Completes bytes
two_completes c x y scalar digits [] more rest part same = absurd (let h = part.some in omega arith)
two_completes c x y scalar digits (a ∷ []) more rest part same =
    inl (rw ((cons_parts a (0xC0 + x) more ((0x80 + y) ∷ rest) same).0)
    (two_begins x 0 (0x80 ∷ 0x80 ∷ 0 ∷ 0 ∷ []) digits.low digits.high (omega arith)))
two_completes c x y scalar digits (a ∷ b ∷ bytes) more rest part same =
    let first = cons_parts a (0xC0 + x) (b ∷ bytes ++ more) ((0x80 + y) ∷ rest) same in
    let second = cons_parts b (0x80 + y) (bytes ++ more) rest first.1 in
    absurd (part.none_begins c (record {
      scalar = scalar;
      rest = bytes;
      bytes_are = rw (utf8_two c x y digits, first.0, second.0) refl;
    }))

-- A part of a character of three bytes is its first one or two bytes. `high_bytes` completes a
-- lone E0, and `low_bytes` every other part.
three_completes : (c x y z : ℕ) → IsScalarValue c → IsThree c x y z → (bytes more rest : List ℕ) → IsPart utf8 bytes →
    bytes ++ more ≡ (0xE0 + x) ∷ (0x80 + y) ∷ (0x80 + z) ∷ rest → Completes bytes
three_completes c x y z scalar digits [] more rest part same = absurd (let h = part.some in omega arith)
three_completes c x y z scalar digits (a ∷ []) more rest part same = by (cases_eq x 0)
  where
    first : a ≡ 0xE0 + x
    first = (cons_parts a (0xE0 + x) more ((0x80 + y) ∷ (0x80 + z) ∷ rest) same).0

    by : (x ≡ 0) ⊎ (x ≡ 0 → ⊥) → Completes (a ∷ [])
    by (inl zero) =
        inr (rw (first, zero)
        (three_begins 0 0x20 0 (0x80 ∷ 0 ∷ 0 ∷ []) (inl (omega arith)) (omega arith) (omega arith) (omega arith) (omega arith)))
    by (inr other) =
        let d = digits.high in
        inl (rw first
        (three_begins x 0 0 (0x80 ∷ 0 ∷ 0 ∷ []) (grind arith) (omega arith) digits.high (omega arith) (omega arith)))
three_completes c x y z scalar digits (a ∷ b ∷ []) more rest part same =
    let first = cons_parts a (0xE0 + x) (b ∷ more) ((0x80 + y) ∷ (0x80 + z) ∷ rest) same in
    let second = cons_parts b (0x80 + y) more ((0x80 + z) ∷ rest) first.1 in
    let v = digits.value in
    let l = digits.low in
    let t = digits.last in
    inl (rw (first.0, second.0)
    (three_begins x y 0 (0x80 ∷ 0 ∷ 0 ∷ []) (grind arith) (omega arith) digits.high digits.middle (omega arith)))
three_completes c x y z scalar digits (a ∷ b ∷ d ∷ bytes) more rest part same =
    let first = cons_parts a (0xE0 + x) (b ∷ d ∷ bytes ++ more) ((0x80 + y) ∷ (0x80 + z) ∷ rest) same in
    let second = cons_parts b (0x80 + y) (d ∷ bytes ++ more) ((0x80 + z) ∷ rest) first.1 in
    let third = cons_parts d (0x80 + z) (bytes ++ more) rest second.1 in
    absurd (part.none_begins c (record {
      scalar = scalar;
      rest = bytes;
      bytes_are = rw (utf8_three c x y z digits, first.0, second.0, third.0) refl;
    }))

-- A part of a character of four bytes is its first one to three bytes. `high_bytes` completes a
-- lone F0, and `low_bytes` every other part.
four_completes : (c w x y z : ℕ) → IsScalarValue c → IsFour c w x y z → (bytes more rest : List ℕ) → IsPart utf8 bytes →
    bytes ++ more ≡ (0xF0 + w) ∷ (0x80 + x) ∷ (0x80 + y) ∷ (0x80 + z) ∷ rest → Completes bytes
four_completes c w x y z scalar digits [] more rest part same = absurd (let h = part.some in omega arith)
four_completes c w x y z scalar digits (a ∷ []) more rest part same = by (cases_eq w 0)
  where
    first : a ≡ 0xF0 + w
    first = (cons_parts a (0xF0 + w) more ((0x80 + x) ∷ (0x80 + y) ∷ (0x80 + z) ∷ rest) same).0

    by : (w ≡ 0) ⊎ (w ≡ 0 → ⊥) → Completes (a ∷ [])
    by (inl zero) =
        inr (rw (first, zero)
        (four_begins 0 0x20 0 0 (0 ∷ 0 ∷ []) (omega arith) (omega arith) (omega arith) (omega arith) (omega arith)))
    by (inr other) =
        let v = digits.value in
        let h = digits.high in
        inl (rw first
        (four_begins w 0 0 0 (0 ∷ 0 ∷ []) (omega arith) (omega arith) (omega arith) (omega arith) (omega arith)))
four_completes c w x y z scalar digits (a ∷ b ∷ []) more rest part same =
    let first = cons_parts a (0xF0 + w) (b ∷ more) ((0x80 + x) ∷ (0x80 + y) ∷ (0x80 + z) ∷ rest) same in
    let second = cons_parts b (0x80 + x) more ((0x80 + y) ∷ (0x80 + z) ∷ rest) first.1 in
    let v = digits.value in
    let l = digits.low in
    let h = digits.high in
    let m = digits.second in
    let t = digits.last in
    inl (rw (first.0, second.0)
    (four_begins w x 0 0 (0 ∷ 0 ∷ []) (omega arith) (omega arith) digits.first (omega arith) (omega arith)))
four_completes c w x y z scalar digits (a ∷ b ∷ d ∷ []) more rest part same =
    let first = cons_parts a (0xF0 + w) (b ∷ d ∷ more) ((0x80 + x) ∷ (0x80 + y) ∷ (0x80 + z) ∷ rest) same in
    let second = cons_parts b (0x80 + x) (d ∷ more) ((0x80 + y) ∷ (0x80 + z) ∷ rest) first.1 in
    let third = cons_parts d (0x80 + y) more ((0x80 + z) ∷ rest) second.1 in
    let v = digits.value in
    let l = digits.low in
    let h = digits.high in
    let m = digits.second in
    let t = digits.last in
    inl (rw (first.0, second.0, third.0)
    (four_begins w x y 0 (0 ∷ 0 ∷ []) (omega arith) (omega arith) digits.first digits.second (omega arith)))
four_completes c w x y z scalar digits (a ∷ b ∷ d ∷ e ∷ bytes) more rest part same =
    let first = cons_parts a (0xF0 + w) (b ∷ d ∷ e ∷ bytes ++ more) ((0x80 + x) ∷ (0x80 + y) ∷ (0x80 + z) ∷ rest) same in
    let second = cons_parts b (0x80 + x) (d ∷ e ∷ bytes ++ more) ((0x80 + y) ∷ (0x80 + z) ∷ rest) first.1 in
    let third = cons_parts d (0x80 + y) (e ∷ bytes ++ more) ((0x80 + z) ∷ rest) second.1 in
    let fourth = cons_parts e (0x80 + z) (bytes ++ more) rest third.1 in
    absurd (part.none_begins c (record {
      scalar = scalar;
      rest = bytes;
      bytes_are = rw (utf8_four c w x y z digits, first.0, second.0, third.0, fourth.0) refl;
    }))

-- A scalar value from 10000 (hexadecimal) on, by the digits of UTF-8.
four : (c w x y z : ℕ) → IsPair c w x y z → IsFour c (c / 0x40000) (c / 0x1000 % 0x40) (c / 0x40 % 0x40) (c % 0x40)
four c w x y z digits = grind arith

-- A part of a character is completed by U+100000 or by U+20000.
pub utf8_part_completes : (bytes more : List ℕ) (c : ℕ) → 0 < length bytes → BeginsNone utf8 bytes →
    Begins utf8 (bytes ++ more) c → IsCompletedBy utf8 low_bytes bytes ⊎ IsCompletedBy utf8 high_bytes bytes
utf8_part_completes bytes more c some none begins = by (shape c begins.scalar)
  where
    part : IsPart utf8 bytes
    part = record { some = some; none_begins = none }

    along : (e : List ℕ) → utf8 (c ∷ []) ≡ e → bytes ++ more ≡ e ++ begins.rest
    along e is = begins.bytes_are ∙ ap (λ bs. bs ++ begins.rest) is

    by : Shape c → Completes bytes
    by (one low) = one_completes c begins.scalar low bytes more begins.rest part (along _ (utf8_one c low))
    by (two x y digits) =
        two_completes c x y begins.scalar digits bytes more begins.rest part (along _ (utf8_two c x y digits))
    by (three x y z digits) =
        three_completes c x y z begins.scalar digits bytes more begins.rest part (along _ (utf8_three c x y z digits))
    by (pair w x y z digits) =
        let d = four c w x y z digits in
        four_completes c _ _ _ _ begins.scalar d bytes more begins.rest part (along _ (utf8_four c _ _ _ _ d))
