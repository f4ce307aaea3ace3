-- What is written for each byte, by the bytes around it, is together the UTF-8 of their lossy
-- reading: for all bytes, and for the bytes of a window between two boundaries. A window here is any
-- list that has five bytes before the first one that is decoded. The width at an offset is the length
-- of the encoded character that begins there, or 0 if none begins there.
use Rattle.std.proofs.Common.{◌≡◌, ℕ, ◌+◌, ◌*◌, ◌/◌, ◌%◌, ◌<◌, ◌≤◌, eqb, leb, List, [], ◌∷◌, ◌++◌, refl, sym, ap, ◌∙◌, ⊎_elim, arith, true, length, take, drop, get_or, length-drop, zero-add, add-zero, subst}
use Rattle.std.proofs.lemmas.Bool.{ne_eqb, lt-leb}
use Rattle.cesu8_text.specs.Text.{IsScalarValue, utf8_of, utf8}
use Rattle.cesu8_text.specs.Encoding.{Flavor, encoding}
use Rattle.cesu8_text.specs.Reading.{NoneBegins, reading}
use Rattle.cesu8_decode.specs.DecodedOffsets.{first_width, decoded_byte, width_at, decoded}
use Rattle.cesu8_text.proofs.text.Shapes.{Shape, IsTwo, IsThree, IsPair, one, two, three, pair, shape, utf8_of_one, utf8_of_two, utf8_of_three, utf8_of_pair}
use Rattle.cesu8_text.proofs.encoding.Forms.{encoding_two, encoding_three, encoding_pair}
use Rattle.cesu8_decode.proofs.by_offset.WidthTests.{ascii_forms, encoded_widths, width_of_none}
use Rattle.cesu8_text.proofs.reading.Cuttings.{by_reading}
use Rattle.std.proofs.lemmas.Bool.Decides.{nat_tests}
use Rattle.std.specs.Prelude.{slice_index}
use Rattle.std.proofs.lemmas.List.{take-append-drop, append_cancel_right}
use Rattle.cesu8_text.proofs.reading.Decoding.{utf8_append}
use Rattle.cesu8_text.proofs.reading.Splits.{split}
use Rattle.cesu8_decode.proofs.by_offset.WindowOffsets.{is_boundary_at, Follows, follows_later, width_following, decoded_split}
use Rattle.cesu8_decode.proofs.by_offset.CharacterBoundaries.{boundary_ends, none_crosses_boundary}

-- What is written for bytes that follow two given bytes and five offsets of given widths: w1 is the
-- width at the last of these offsets, and w5 at the first.
unfoldable pub decoded_after : Flavor → (w1 w2 w3 w4 w5 two_before before : ℕ) → List ℕ → List ℕ
decoded_after f w1 w2 w3 w4 w5 two_before before [] = []
decoded_after f w1 w2 w3 w4 w5 two_before before (b ∷ bytes) =
    decoded_byte (first_width f (b ∷ bytes)) w1 w2 w3 w4 w5 two_before before b
    ++ decoded_after f (first_width f (b ∷ bytes)) w1 w2 w3 w4 before b bytes

-- ---- widths of characters that have ended

-- No test against a number greater than n distinguishes the two widths.
abbrev Alike : ℕ → ℕ → ℕ → Type 0
Alike n v w = (m : ℕ) → n < m → (eqb v m ≡ eqb w m) × (leb m v ≡ leb m w)

-- The width n offsets earlier is never tested against n or less. So if no greater number
-- distinguishes two widths there, what is written is equal.
byte_alike : (w0 v1 v2 v3 v4 v5 w1 w2 w3 w4 w5 p q b : ℕ) → Alike 1 v1 w1 → Alike 2 v2 w2 → Alike 3 v3 w3 → Alike 4 v4 w4 → Alike 5 v5 w5 →
    decoded_byte w0 v1 v2 v3 v4 v5 p q b ≡ decoded_byte w0 w1 w2 w3 w4 w5 p q b
unfolding decoded_byte
byte_alike w0 v1 v2 v3 v4 v5 w1 w2 w3 w4 w5 p q b h1 h2 h3 h4 h5 = grind arith

after_alike : (f : Flavor) (bytes : List ℕ) (v1 v2 v3 v4 v5 w1 w2 w3 w4 w5 p q : ℕ) →
    Alike 1 v1 w1 → Alike 2 v2 w2 → Alike 3 v3 w3 → Alike 4 v4 w4 → Alike 5 v5 w5 →
    decoded_after f v1 v2 v3 v4 v5 p q bytes ≡ decoded_after f w1 w2 w3 w4 w5 p q bytes
unfolding decoded_after
after_alike f [] v1 v2 v3 v4 v5 w1 w2 w3 w4 w5 p q h1 h2 h3 h4 h5 = refl
after_alike f (b ∷ bytes) v1 v2 v3 v4 v5 w1 w2 w3 w4 w5 p q h1 h2 h3 h4 h5 =
    let w0 = first_width f (b ∷ bytes) in
    let here = byte_alike w0 v1 v2 v3 v4 v5 w1 w2 w3 w4 w5 p q b h1 h2 h3 h4 h5 in
    let rest = after_alike f bytes w0 v1 v2 v3 v4 w0 w1 w2 w3 w4 q b (λ m over. (refl, refl)) (λ m over. h1 m (omega arith))
    (λ m over. h2 m (omega arith)) (λ m over. h3 m (omega arith)) (λ m over. h4 m (omega arith)) in
    (λ k. here k ++ rest k)

-- A width of at most n is like 0: it fails each test against a greater number.
ended : (n w : ℕ) → w ≤ n → Alike n w 0
ended n w small m over =
    (ne_eqb w m (λ e. omega arith) ∙ sym (ne_eqb 0 m (λ e. omega arith)), lt-leb m w (omega arith) ∙ sym (lt-leb m 0 (omega arith)))

-- Characters that have ended do not change what is written for the bytes after them.
after_ended : (f : Flavor) (bytes : List ℕ) (w1 w2 w3 w4 w5 p q : ℕ) → w1 ≤ 1 → w2 ≤ 2 → w3 ≤ 3 → w4 ≤ 4 → w5 ≤ 5 →
    decoded_after f w1 w2 w3 w4 w5 p q bytes ≡ decoded_after f 0 0 0 0 0 p q bytes
after_ended f bytes w1 w2 w3 w4 w5 p q h1 h2 h3 h4 h5 =
    after_alike f bytes w1 w2 w3 w4 w5 0 0 0 0 0 p q (ended 1 w1 h1) (ended 2 w2 h2) (ended 3 w3 h3) (ended 4 w4 h4) (ended 5 w5 h5)

-- ---- what the bytes of a character become

-- The text is what is written for the bytes if no character begins at the five offsets before them,
-- whatever the two bytes before them are.
abbrev Become : Flavor → List ℕ → List ℕ → Type 0
Become f bytes text = (p q : ℕ) → decoded_after f 0 0 0 0 0 p q bytes ≡ text

-- If bytes `Become` a text, it is also written for them after characters that end before them.
continued : (f : Flavor) (rest text : List ℕ) (w1 w2 w3 p q : ℕ) → Become f rest text → w1 ≤ 1 → w2 ≤ 2 → w3 ≤ 3 →
    decoded_after f w1 w2 w3 0 0 p q rest ≡ text
continued f rest text w1 w2 w3 p q become h1 h2 h3 =
    after_ended f rest w1 w2 w3 0 0 p q h1 h2 h3 (omega arith) (omega arith) ∙ become p q

one_read : (f : Flavor) (c : ℕ) (rest text : List ℕ) → IsScalarValue c → encoding f (c ∷ []) ≡ c ∷ [] →
    Become f rest text → Become f (c ∷ rest) (c ∷ text)
unfolding decoded_after decoded_byte
one_read f c rest text scalar same become p q =
    rw ((encoded_widths f c c [] rest scalar same).0, continued f rest text 1 0 0 q c become (omega arith) (omega arith) (omega arith)) refl

two_read : (f : Flavor) (c x y : ℕ) (rest text : List ℕ) → IsScalarValue c → IsTwo c x y → Become f rest text →
    Become f ((0xC0 + x) ∷ (0x80 + y) ∷ rest) ((0xC0 + x) ∷ (0x80 + y) ∷ text)
unfolding decoded_after decoded_byte
two_read f c x y rest text scalar digits become p q =
    let widths = encoded_widths f c (0xC0 + x) ((0x80 + y) ∷ []) rest scalar (encoding_two f c x y digits) in
    rw (
      widths.0,
      widths.1 1 (omega arith) (omega arith),
      ne_eqb (0xC0 + x) 0xC0 (λ e. omega (arith, digits.low)),
      continued f rest text 0 2 0 (0xC0 + x) (0x80 + y) become (omega arith) (omega arith) (omega arith),
    ) refl

three_read : (f : Flavor) (c x y z : ℕ) (rest text : List ℕ) → IsScalarValue c → IsThree c x y z → Become f rest text →
    Become f ((0xE0 + x) ∷ (0x80 + y) ∷ (0x80 + z) ∷ rest) ((0xE0 + x) ∷ (0x80 + y) ∷ (0x80 + z) ∷ text)
unfolding decoded_after decoded_byte
three_read f c x y z rest text scalar digits become p q =
    let widths = encoded_widths f c (0xE0 + x) ((0x80 + y) ∷ (0x80 + z) ∷ []) rest scalar (encoding_three f c x y z digits) in
    rw (
      widths.0,
      widths.1 1 (omega arith) (omega arith),
      widths.1 2 (omega arith) (omega arith),
      continued f rest text 0 0 3 (0x80 + y) (0x80 + z) become (omega arith) (omega arith) (omega arith),
    ) refl

null_read : (f : Flavor) (c : ℕ) (rest text : List ℕ) → IsScalarValue c → encoding f (c ∷ []) ≡ 0xC0 ∷ 0x80 ∷ [] → Become f rest text →
    Become f (0xC0 ∷ 0x80 ∷ rest) (0 ∷ text)
unfolding decoded_after decoded_byte
null_read f c rest text scalar same become p q =
    let widths = encoded_widths f c 0xC0 (0x80 ∷ []) rest scalar same in
    rw (widths.0, widths.1 1 (omega arith) (omega arith), continued f rest text 0 2 0 0xC0 0x80 become (omega arith) (omega arith) (omega arith)) refl

-- The digits w, x, y and z are the bits of the two surrogates. The first one holds the scalar value
-- less 0x10000, so its text has w + 1.
pair_read : (f : Flavor) (c w x y z : ℕ) (rest text : List ℕ) → IsScalarValue c → IsPair c w x y z → Become f rest text →
    Become f (0xED ∷ (0xA0 + w) ∷ (0x80 + x) ∷ 0xED ∷ (0xB0 + y) ∷ (0x80 + z) ∷ rest)
    ((0xF0 + (w + 1) / 4) ∷ (0x80 + ((w + 1) % 4 * 0x10 + x / 4)) ∷ (0x80 + (x % 4 * 0x10 + y)) ∷ (0x80 + z) ∷ text)
unfolding decoded_after decoded_byte
pair_read f c w x y z rest text scalar digits become p q =
    let b = 0xA0 + w in
    let d = 0x80 + x in
    let g = 0xB0 + y in
    let h = 0x80 + z in
    let widths = encoded_widths f c 0xED (b ∷ d ∷ 0xED ∷ g ∷ h ∷ []) rest scalar (encoding_pair f c w x y z digits) in
    let h_w = digits.first in
    let h_x = digits.second in
    let h_y = digits.third in
    let e0 : (b % 0x10 + 1) / 4 ≡ (w + 1) / 4 = omega arith in
    let e1 : (b % 0x10 + 1) % 4 * 0x10 + d / 4 % 0x10 ≡ (w + 1) % 4 * 0x10 + x / 4 = omega arith in
    let e2 : d % 4 * 0x10 + g % 0x10 ≡ x % 4 * 0x10 + y = omega arith in
    rw (
      widths.0,
      widths.1 1 (omega arith) (omega arith),
      widths.1 2 (omega arith) (omega arith),
      widths.1 3 (omega arith) (omega arith),
      widths.1 4 (omega arith) (omega arith),
      widths.1 5 (omega arith) (omega arith),
      e0,
      e1,
      e2,
      become g h,
    ) refl

-- ---- one character or replaced byte, and then the others by induction

character_read : (f : Flavor) (c : ℕ) (rest text : List ℕ) → IsScalarValue c → Shape c → Become f rest text →
    Become f (encoding f (c ∷ []) ++ rest) (utf8_of c ++ text)
character_read f c rest text scalar (one ascii) become =
    rw (utf8_of_one c ascii) (⊎_elim (λ same. rw same (one_read f c rest text scalar same become))
    (λ null. rw (null.1, null.0) (null_read f c rest text scalar null.1 become)) (ascii_forms f c ascii))
character_read f c rest text scalar (two x y digits) become =
    rw (encoding_two f c x y digits, utf8_of_two c x y digits) (two_read f c x y rest text scalar digits become)
character_read f c rest text scalar (three x y z digits) become =
    rw (encoding_three f c x y z digits, utf8_of_three c x y z digits) (three_read f c x y z rest text scalar digits become)
character_read f c rest text scalar (pair w x y z digits) become =
    rw (encoding_pair f c w x y z digits, utf8_of_pair c w x y z digits) (pair_read f c w x y z rest text scalar digits become)

replaced_read : (f : Flavor) (b : ℕ) (rest text : List ℕ) → NoneBegins f (b ∷ rest) → Become f rest text →
    Become f (b ∷ rest) (utf8_of 0xFFFD ++ text)
unfolding decoded_after decoded_byte utf8_of
replaced_read f b rest text none_begins become p q = rw (width_of_none f (b ∷ rest) none_begins, become q b) refl

-- What is written for bytes after characters that have ended is the UTF-8 of the lossy reading.
pub decoded_after_ended : (f : Flavor) (bytes : List ℕ) (w1 w2 w3 w4 w5 p q : ℕ) → w1 ≤ 1 → w2 ≤ 2 → w3 ≤ 3 → w4 ≤ 4 → w5 ≤ 5 →
    decoded_after f w1 w2 w3 w4 w5 p q bytes ≡ utf8 (reading f bytes)
unfolding decoded_after
decoded_after_ended f bytes w1 w2 w3 w4 w5 p q h1 h2 h3 h4 h5 =
    after_ended f bytes w1 w2 w3 w4 w5 p q h1 h2 h3 h4 h5
    ∙ by_reading f (λ bytes text. Become f bytes (utf8 text)) (λ p q. refl)
    (λ c rest text scalar become. character_read f c rest (utf8 text) scalar (shape c scalar) become)
    (λ b rest text none become. replaced_read f b rest (utf8 text) none become) bytes p q

-- What is written for the bytes by their index is what `decoded_after` gives for them. The first of
-- them is byte i + 5 of the window, because `decoded` at offset i is about that byte.
by_index : (f : Flavor) (window bytes : List ℕ) (i : ℕ) → Follows window bytes (i + 5) →
    decoded f window i (length bytes)
    ≡ decoded_after f (width_at f window (i + 4)) (width_at f window (i + 3)) (width_at f window (i + 2)) (width_at f window (i + 1))
    (width_at f window i) (get_or window (i + 3) 0) (get_or window (i + 4) 0) bytes
unfolding decoded decoded_after
by_index f window [] i follows = refl
by_index f window (b ∷ bytes) i follows =
    let width = width_following f window (b ∷ bytes) (i + 5) follows (omega arith) in
    let first : get_or window (i + 5) 0 ≡ b = ap (λ p. get_or window p 0) (sym (add-zero (i + 5))) ∙ follows 0 in
    let e1 : i + 1 + 1 ≡ i + 2 = omega arith in
    let e2 : i + 1 + 2 ≡ i + 3 = omega arith in
    let e3 : i + 1 + 3 ≡ i + 4 = omega arith in
    let e4 : i + 1 + 4 ≡ i + 5 = omega arith in
    let offset : 1 + (i + 5) ≡ i + 1 + 5 = omega arith in
    let rest = by_index f window bytes (i + 1) (subst (Follows window bytes) offset (follows_later window (b ∷ bytes) (i + 5) 1 follows)) in
    let w = width_at f window in
    (λ k. decoded_byte (width k) (w (i + 4)) (w (i + 3)) (w (i + 2)) (w (i + 1)) (w i) (get_or window (i + 3) 0) (get_or window (i + 4) 0) (first k)
    ++ (rest ∙ (λ k. decoded_after f ((ap w e4 ∙ width) k) (w (e3 k)) (w (e2 k)) (w (e1 k)) (w (i + 1))
    (get_or window (e3 k) 0) ((ap (λ p. get_or window p 0) e4 ∙ first) k) bytes)) k)

-- What is written for all bytes from a boundary on is the UTF-8 of their lossy reading.
pub decoded_from_boundary : (f : Flavor) (window bytes : List ℕ) (i : ℕ) → Follows window bytes (i + 5) → is_boundary_at f window i ≡ true →
    decoded f window i (length bytes) ≡ utf8 (reading f bytes)
decoded_from_boundary f window bytes i follows boundary = grind (arith, nat_tests, boundary_ends, by_index, decoded_after_ended)

-- What is written for the bytes between two boundaries is the UTF-8 of their lossy reading.
pub decoded_between : (f : Flavor) (window bytes : List ℕ) (n : ℕ) → Follows window bytes 5 → n ≤ length bytes →
    is_boundary_at f window 0 ≡ true → is_boundary_at f window n ≡ true →
    decoded f window 0 n ≡ utf8 (reading f (take n bytes))
decoded_between f window bytes n follows fits first boundary =
    let prefix = take n bytes in
    let back = drop n bytes in
    let all : n + length back ≡ length bytes = omega (arith, length-drop n bytes) in
    let last : decoded f window (0 + n) (length back) ≡ utf8 (reading f back) =
    ap (λ i. decoded f window i (length back)) (zero-add n)
    ∙ decoded_from_boundary f window back n (follows_later window bytes 5 n follows) boundary in
    append_cancel_right (decoded f window 0 n) (utf8 (reading f prefix)) (utf8 (reading f back))
    (ap (λ bs. decoded f window 0 n ++ bs) (sym last)
    ∙ sym (decoded_split f window 0 n (length back))
    ∙ ap (decoded f window 0) all
    ∙ decoded_from_boundary f window bytes 0 follows first
    ∙ ap (λ bs. utf8 (reading f bs)) (sym (take-append-drop n bytes))
    ∙ ap utf8 ((split f prefix back).1 (none_crosses_boundary f window bytes n follows fits boundary))
    ∙ utf8_append (reading f prefix) (reading f back))

-- A window that has all of the bytes: five zeros, the bytes, and zeros.
abbrev pub IsPadded : List ℕ → List ℕ → Type 0
IsPadded bytes window = (k : ℕ) → slice_index window k ≡ slice_index (0 ∷ 0 ∷ 0 ∷ 0 ∷ 0 ∷ bytes) k
