-- The first k bytes of an encoded character become a character if the bytes of a fixed one from
-- offset k on follow them: those of U+10000 (`pair_bytes`), or of U+0000 in MUTF-8 (`null_bytes`,
-- padded with zeros). So `may_begin` of src/completion.rt tests only these two.
use Rattle.std.proofs.Common.{◌≡◌, ℕ, ◌+◌, ◌*◌, ◌<◌, ◌≤◌, ◌⊎◌, List, [], ◌∷◌, ◌++◌, refl, sym, ap, ◌∙◌, subst, inl, inr, arith, length, drop, take, length-append}
use Rattle.std.proofs.lemmas.Bool.{cases_eq, cases_lt}
use Rattle.std.proofs.lemmas.Grind.{common_steps}
use Rattle.std.proofs.lemmas.List.{take-append-drop}
use Rattle.std.proofs.lemmas.Bool.Decides.{nat_tests}
use Rattle.simd_cesu8.specs.Text.{IsScalarValue}
use Rattle.simd_cesu8.specs.Encoding.{Flavor, Cesu8, Mutf8, short_form, encoding}
use Rattle.cesu8_stream.specs.Written.{IsWritten, Begins, BeginsNone, MayBegin}
use Rattle.cesu8_stream.specs.Completions.{pair_bytes, null_bytes, IsCompletedBy}
use Rattle.cesu8_stream.proofs.Joined.{Appends}
use Rattle.cesu8_stream.proofs.First.{text_begins, begins_longer}
use Rattle.cesu8_stream.proofs.Shapes.{IsTwo, IsThree, IsPair, Shape, one, two, three, pair, shape, encoding_one, encoding_two, encoding_three, encoding_pair}

-- Some character begins the bytes.
abbrev pub BeginsSome : (List ℕ → List ℕ) → List ℕ → Type 0
BeginsSome write bytes = (c : ℕ) × Begins write bytes c

-- Bytes with the form of an encoded character, of two bytes, three or six, begin with a character.
-- Its digits are w to z (Shapes.antt).
two_begins : (f : Flavor) (x y : ℕ) (rest : List ℕ) → 2 ≤ x → x < 0x20 → y < 0x40 →
    BeginsSome (encoding f) ((0xC0 + x) ∷ (0x80 + y) ∷ rest)
two_begins f x y rest low high last =
    let digits : IsTwo (x * 0x40 + y) x y = record { value = refl; low = low; high = high; last = last } in
    (x * 0x40 + y, record { scalar = inl (omega arith); rest = rest; bytes_are = rw (encoding_two f _ x y digits) refl })

three_begins : (f : Flavor) (x y z : ℕ) (rest : List ℕ) → IsScalarValue (x * 0x1000 + y * 0x40 + z) →
    0x800 ≤ x * 0x1000 + y * 0x40 + z → x < 0x10 → y < 0x40 → z < 0x40 →
    BeginsSome (encoding f) ((0xE0 + x) ∷ (0x80 + y) ∷ (0x80 + z) ∷ rest)
three_begins f x y z rest scalar low high middle last =
    let c = x * 0x1000 + y * 0x40 + z in
    let digits : IsThree c x y z = record { value = refl; low = low; high = high; middle = middle; last = last } in
    (c, record { scalar = scalar; rest = rest; bytes_are = rw (encoding_three f c x y z digits) refl })

pair_begins : (f : Flavor) (w x y z : ℕ) (rest : List ℕ) → w < 0x10 → x < 0x40 → y < 0x10 → z < 0x40 →
    BeginsSome (encoding f) (0xED ∷ (0xA0 + w) ∷ (0x80 + x) ∷ 0xED ∷ (0xB0 + y) ∷ (0x80 + z) ∷ rest)
pair_begins f w x y z rest first second third last =
    let c = 0x10000 + w * 0x10000 + x * 0x400 + y * 0x40 + z in
    let digits : IsPair c w x y z = record { value = refl; first = first; second = second; third = third; last = last } in
    (c, record { scalar = inr (omega arith, omega arith); rest = rest; bytes_are = rw (encoding_pair f c w x y z digits) refl })

-- Equal lists have equal first elements, and equal rests.
pub cons_parts : (a b : ℕ) (xs ys : List ℕ) → a ∷ xs ≡ b ∷ ys → (a ≡ b) × (xs ≡ ys)
cons_parts a b xs ys same = (cc, cc)

-- What is known of a part of a character: it has a byte, and no character begins it.
pub record IsPart (write : List ℕ → List ℕ) (bytes : List ℕ) : Type 0 where
  pub some : 0 < length bytes
  pub none_begins : BeginsNone write bytes

-- A part of a character of two bytes is its first byte, which A0 completes.
two_completes : (f : Flavor) (c x y : ℕ) → IsScalarValue c → IsTwo c x y → (bytes more rest : List ℕ) → IsPart (encoding f) bytes →
    bytes ++ more ≡ (0xC0 + x) ∷ (0x80 + y) ∷ rest → IsCompletedBy (encoding f) pair_bytes bytes
two_completes f c x y scalar digits [] more rest part same = absurd (let h = part.some in omega arith)
two_completes f c x y scalar digits (a ∷ []) more rest part same =
    rw ((cons_parts a (0xC0 + x) more ((0x80 + y) ∷ rest) same).0)
    (two_begins f x 0x20 (0x80 ∷ 0xED ∷ 0xB0 ∷ 0x80 ∷ []) digits.low digits.high (omega arith))
two_completes f c x y scalar digits (a ∷ b ∷ bytes) more rest part same =
    let first = cons_parts a (0xC0 + x) (b ∷ bytes ++ more) ((0x80 + y) ∷ rest) same in
    let second = cons_parts b (0x80 + y) (bytes ++ more) rest first.1 in
    absurd (part.none_begins c (record {
      scalar = scalar;
      rest = bytes;
      bytes_are = rw (encoding_two f c x y digits, first.0, second.0) refl;
    }))

-- A part of a character of three bytes is its first byte, which A0 80 complete, or its first two,
-- which 80 completes. ED alone is completed to U+10000, since A0 begins a surrogate after it.
three_completes : (f : Flavor) (c x y z : ℕ) → IsScalarValue c → IsThree c x y z → (bytes more rest : List ℕ) → IsPart (encoding f) bytes →
    bytes ++ more ≡ (0xE0 + x) ∷ (0x80 + y) ∷ (0x80 + z) ∷ rest → IsCompletedBy (encoding f) pair_bytes bytes
three_completes f c x y z scalar digits [] more rest part same = absurd (let h = part.some in omega arith)
three_completes f c x y z scalar digits (a ∷ []) more rest part same =
    rw ((cons_parts a (0xE0 + x) more ((0x80 + y) ∷ (0x80 + z) ∷ rest) same).0) (by (cases_eq x 0x0D))
  where
    by : (x ≡ 0x0D) ⊎ (x ≡ 0x0D → ⊥) →
        BeginsSome (encoding f) ((0xE0 + x) ∷ 0xA0 ∷ 0x80 ∷ 0xED ∷ 0xB0 ∷ 0x80 ∷ [])
    by (inl is_surrogate) =
        rw is_surrogate (pair_begins f 0 0 0 0 [] (omega arith) (omega arith) (omega arith) (omega arith))
    by (inr other) =
        let d = digits.high in
        three_begins f x 0x20 0 (0xED ∷ 0xB0 ∷ 0x80 ∷ []) (grind arith) (omega arith) digits.high (omega arith) (omega arith)
three_completes f c x y z scalar digits (a ∷ b ∷ []) more rest part same =
    let first = cons_parts a (0xE0 + x) (b ∷ more) ((0x80 + y) ∷ (0x80 + z) ∷ rest) same in
    let second = cons_parts b (0x80 + y) more ((0x80 + z) ∷ rest) first.1 in
    let v = digits.value in
    let l = digits.low in
    let t = digits.last in
    rw (first.0, second.0)
    (three_begins f x y 0 (0xED ∷ 0xB0 ∷ 0x80 ∷ []) (grind arith) (omega arith) digits.high digits.middle (omega arith))
three_completes f c x y z scalar digits (a ∷ b ∷ d ∷ bytes) more rest part same =
    let first = cons_parts a (0xE0 + x) (b ∷ d ∷ bytes ++ more) ((0x80 + y) ∷ (0x80 + z) ∷ rest) same in
    let second = cons_parts b (0x80 + y) (d ∷ bytes ++ more) ((0x80 + z) ∷ rest) first.1 in
    let third = cons_parts d (0x80 + z) (bytes ++ more) rest second.1 in
    absurd (part.none_begins c (record {
      scalar = scalar;
      rest = bytes;
      bytes_are = rw (encoding_three f c x y z digits, first.0, second.0, third.0) refl;
    }))

-- A part of a surrogate pair is its first one to five bytes. The remaining bytes of U+10000
-- complete it.
pair_completes : (f : Flavor) (c w x y z : ℕ) → IsScalarValue c → IsPair c w x y z → (bytes more rest : List ℕ) → IsPart (encoding f) bytes →
    bytes ++ more ≡ 0xED ∷ (0xA0 + w) ∷ (0x80 + x) ∷ 0xED ∷ (0xB0 + y) ∷ (0x80 + z) ∷ rest →
    IsCompletedBy (encoding f) pair_bytes bytes
pair_completes f c w x y z scalar digits [] more rest part same = absurd (let h = part.some in omega arith)
pair_completes f c w x y z scalar digits (a1 ∷ []) more rest part same =
    let e1 = cons_parts a1 0xED _ _ same in
    rw e1.0 (pair_begins f 0 0 0 0 [] (omega arith) (omega arith) (omega arith) (omega arith))
pair_completes f c w x y z scalar digits (a1 ∷ a2 ∷ []) more rest part same =
    let e1 = cons_parts a1 0xED _ _ same in
    let e2 = cons_parts a2 (0xA0 + w) _ _ e1.1 in
    rw (e1.0, e2.0) (pair_begins f w 0 0 0 [] digits.first (omega arith) (omega arith) (omega arith))
pair_completes f c w x y z scalar digits (a1 ∷ a2 ∷ a3 ∷ []) more rest part same =
    let e1 = cons_parts a1 0xED _ _ same in
    let e2 = cons_parts a2 (0xA0 + w) _ _ e1.1 in
    let e3 = cons_parts a3 (0x80 + x) _ _ e2.1 in
    rw (e1.0, e2.0, e3.0) (pair_begins f w x 0 0 [] digits.first digits.second (omega arith) (omega arith))
pair_completes f c w x y z scalar digits (a1 ∷ a2 ∷ a3 ∷ a4 ∷ []) more rest part same =
    let e1 = cons_parts a1 0xED _ _ same in
    let e2 = cons_parts a2 (0xA0 + w) _ _ e1.1 in
    let e3 = cons_parts a3 (0x80 + x) _ _ e2.1 in
    let e4 = cons_parts a4 0xED _ _ e3.1 in
    rw (e1.0, e2.0, e3.0, e4.0) (pair_begins f w x 0 0 [] digits.first digits.second (omega arith) (omega arith))
pair_completes f c w x y z scalar digits (a1 ∷ a2 ∷ a3 ∷ a4 ∷ a5 ∷ []) more rest part same =
    let e1 = cons_parts a1 0xED _ _ same in
    let e2 = cons_parts a2 (0xA0 + w) _ _ e1.1 in
    let e3 = cons_parts a3 (0x80 + x) _ _ e2.1 in
    let e4 = cons_parts a4 0xED _ _ e3.1 in
    let e5 = cons_parts a5 (0xB0 + y) _ _ e4.1 in
    rw (e1.0, e2.0, e3.0, e4.0, e5.0) (pair_begins f w x y 0 [] digits.first digits.second digits.third (omega arith))
pair_completes f c w x y z scalar digits (a1 ∷ a2 ∷ a3 ∷ a4 ∷ a5 ∷ a6 ∷ bytes) more rest part same =
    let e1 = cons_parts a1 0xED _ _ same in
    let e2 = cons_parts a2 (0xA0 + w) _ _ e1.1 in
    let e3 = cons_parts a3 (0x80 + x) _ _ e2.1 in
    let e4 = cons_parts a4 0xED _ _ e3.1 in
    let e5 = cons_parts a5 (0xB0 + y) _ _ e4.1 in
    let e6 = cons_parts a6 (0x80 + z) _ _ e5.1 in
    absurd (part.none_begins c (record {
      scalar = scalar;
      rest = bytes;
      bytes_are = rw (encoding_pair f c w x y z digits, e1.0, e2.0, e3.0, e4.0, e5.0, e6.0) refl;
    }))

-- U+0000 begins C0 80 in MUTF-8.
null_begins : (rest : List ℕ) → BeginsSome (encoding Mutf8) (0xC0 ∷ 0x80 ∷ rest)
null_begins rest = (
  0,
  record {
    scalar = inl (omega arith);
    rest = rest;
    bytes_are = rw (encoding_one Mutf8 0 (omega arith)) refl;
  },
)

-- A part of a character below 80 (hexadecimal) is C0 in MUTF-8, which 80 completes. In CESU-8 there
-- is none.
one_completes : (f : Flavor) (c : ℕ) → IsScalarValue c → c < 0x80 → (bytes more rest : List ℕ) → IsPart (encoding f) bytes →
    bytes ++ more ≡ short_form f c ++ rest → IsCompletedBy (encoding f) null_bytes bytes
one_completes f c scalar low [] more rest part same = absurd (let h = part.some in omega arith)
one_completes Cesu8 c scalar low (a ∷ bytes) more rest part same =
    let first = cons_parts a c (bytes ++ more) rest same in
    absurd (part.none_begins c (record {
      scalar = scalar;
      rest = bytes;
      bytes_are = rw (encoding_one Cesu8 c low, first.0) refl;
    }))
one_completes Mutf8 c scalar low (a ∷ bytes) more rest part same = by bytes part (cases_eq c 0) same
  where
    by : (bytes : List ℕ) → IsPart (encoding Mutf8) (a ∷ bytes) → (c ≡ 0) ⊎ (c ≡ 0 → ⊥) → (a ∷ bytes) ++ more ≡ short_form Mutf8 c ++ rest →
        IsCompletedBy (encoding Mutf8) null_bytes (a ∷ bytes)
    by [] part (inl null) same =
        let first = cons_parts a 0xC0 more (0x80 ∷ rest) (rw null at same) in
        rw first.0 (null_begins (0 ∷ 0 ∷ 0 ∷ 0 ∷ []))
    by (b ∷ bytes) part (inl null) same =
        let first = cons_parts a 0xC0 (b ∷ bytes ++ more) (0x80 ∷ rest) (rw null at same) in
        let second = cons_parts b 0x80 (bytes ++ more) rest first.1 in
        absurd (part.none_begins 0 (record {
          scalar = inl (omega arith);
          rest = bytes;
          bytes_are = rw (encoding_one Mutf8 0 (omega arith), first.0, second.0) refl;
        }))
    by bytes part (inr other) same =
        let short : short_form Mutf8 c ≡ c ∷ [] = grind (arith, nat_tests) in
        let first = cons_parts a c (bytes ++ more) rest (same ∙ ap (λ bs. bs ++ rest) short) in
        absurd (part.none_begins c (record {
          scalar = scalar;
          rest = bytes;
          bytes_are = rw (encoding_one Mutf8 c low, short, first.0) refl;
        }))

-- A part of a character is completed by U+10000, or by U+0000 of MUTF-8.
pub part_completes : (f : Flavor) (bytes more : List ℕ) (c : ℕ) → 0 < length bytes → BeginsNone (encoding f) bytes →
    Begins (encoding f) (bytes ++ more) c →
    IsCompletedBy (encoding f) pair_bytes bytes ⊎ IsCompletedBy (encoding f) null_bytes bytes
part_completes f bytes more c some none begins = by (shape c begins.scalar)
  where
    part : IsPart (encoding f) bytes
    part = record { some = some; none_begins = none }

    along : (e : List ℕ) → encoding f (c ∷ []) ≡ e → bytes ++ more ≡ e ++ begins.rest
    along e is = begins.bytes_are ∙ ap (λ bs. bs ++ begins.rest) is

    by : Shape c → IsCompletedBy (encoding f) pair_bytes bytes ⊎ IsCompletedBy (encoding f) null_bytes bytes
    by (one low) = inr (one_completes f c begins.scalar low bytes more begins.rest part (along _ (encoding_one f c low)))
    by (two x y digits) =
        inl (two_completes f c x y begins.scalar digits bytes more begins.rest part (along _ (encoding_two f c x y digits)))
    by (three x y z digits) =
        inl (three_completes f c x y z begins.scalar digits bytes more begins.rest part
        (along _ (encoding_three f c x y z digits)))
    by (pair w x y z digits) =
        inl (pair_completes f c w x y z begins.scalar digits bytes more begins.rest part
        (along _ (encoding_pair f c w x y z digits)))

-- A test of bytes with a tail after them (`whole`): the first n bytes are a text, and if more
-- follow, no character begins those.
pub record IsTested (write : List ℕ → List ℕ) (bytes tail whole : List ℕ) (n : ℕ) : Type 0 where
  pub completed : whole ≡ bytes ++ tail
  pub nonempty : 0 < length bytes
  pub valid : (text : List ℕ) × IsWritten write (take n whole) text
  pub stops : n < length whole → BeginsNone write (drop n whole)

-- If n is not 0, the tail makes a character of the bytes.
pub found_begins : (write : List ℕ → List ℕ) (bytes tail whole : List ℕ) (n : ℕ) → Appends write → write [] ≡ [] →
    IsTested write bytes tail whole n → 0 < n → MayBegin write bytes
found_begins write bytes tail whole n append empty test some =
    let e : length whole ≡ length bytes + length tail = ap length test.completed ∙ length-append bytes tail in
    let long = test.nonempty in
    let front = text_begins write (take n whole) test.valid.0 append empty (grind (arith, common_steps)) test.valid.1 in
    let longer = begins_longer write (take n whole) (drop n whole) front.0 front.1 in
    (tail, front.0, subst (λ bs. Begins write bs front.0) (take-append-drop n whole ∙ test.completed) longer)

-- If the tail makes a character of the bytes, n is not 0.
pub begins_found : (write : List ℕ → List ℕ) (bytes tail whole : List ℕ) (n : ℕ) →
    IsTested write bytes tail whole n → BeginsSome write (bytes ++ tail) → 0 < n
begins_found write bytes tail whole n test some = by (cases_lt 0 n)
  where
    none : n ≤ 0 → BeginsNone write whole
    none zero =
        let e : length whole ≡ length bytes + length tail = ap length test.completed ∙ length-append bytes tail in
        let long = test.nonempty in
        let is_zero : n ≡ 0 = omega arith in
        subst (λ k. BeginsNone write (drop k whole)) is_zero (test.stops (omega arith))

    by : (0 < n) ⊎ (n ≤ 0) → 0 < n
    by (inl found) = found
    by (inr zero) =
        absurd (none zero some.0 (subst (λ bs. Begins write bs some.0) (sym test.completed) some.1))
