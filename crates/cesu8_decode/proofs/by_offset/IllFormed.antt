-- Bytes have a strict reading if and only if encoded characters cover all of them.
use Rattle.std.proofs.Common.{◌≡◌, ℕ, ◌+◌, ◌-◌, ◌<◌, ◌≤◌, ◌⊎◌, ⊎_elim, true, false, List, [], ◌∷◌, ◌++◌, refl, sym, ap, subst, inl, inr, arith, length, take, drop, length-append, append_assoc, add-zero, zero-add, length-drop}
use Rattle.std.proofs.lemmas.Bool.{cases_lt}
use Rattle.std.proofs.lemmas.Bool.Decides.{nat_tests}
use Rattle.std.proofs.lemmas.List.{drop-append-le, take-append-drop, length-take-le}
use Rattle.cesu8_text.specs.Text.{IsScalarValue, IsText, utf8}
use Rattle.cesu8_text.specs.Encoding.{Flavor, encoding}
use Rattle.cesu8_text.specs.Reading.{BeginsWith, NoneBegins, StandsAt, width, reading, IsStrictReading}
use Rattle.cesu8_text.specs.Laws.{NoneCrosses}
use Rattle.cesu8_decode.specs.DecodedOffsets.{width_at, ill_formed_by, is_ill_formed_at}
use Rattle.cesu8_bytes.specs.TextChunks.{IsReadSoFar}
use Rattle.cesu8_bytes.specs.declared.strictness.Strictness.{Strictness}
use Rattle.cesu8_bytes.specs.declared.strictness.Strictness.TheVariants.{Strict}
use Rattle.cesu8_text.proofs.encoding.Encodings.{encoding_nil, encoding_cons}
use Rattle.cesu8_text.proofs.reading.EncodedTexts.{reading_text}
use Rattle.cesu8_text.proofs.reading.Stretches.{later, earlier, none_crosses_character}
use Rattle.cesu8_text.proofs.reading.Splits.{begins_in_prefix}
use Rattle.cesu8_text.proofs.reading.Cuttings.{by_reading}
use Rattle.cesu8_decode.proofs.by_offset.WidthTests.{wide}
use Rattle.cesu8_decode.proofs.by_offset.WindowOffsets.{is_boundary_at, Follows, width_in}
use Rattle.cesu8_decode.proofs.by_offset.CharacterBoundaries.{width_bounds, boundary_ends, width_of_standing}

-- The chunk is the UTF-8 of a text that is decoded from the bytes before the rest.
abbrev pub IsChunk : Flavor → Strictness → List ℕ → List ℕ → List ℕ → Type 0
IsChunk f which bytes rest chunk = IsReadSoFar f which bytes rest [] chunk

-- The bytes have a fault: after the encoding of some text come bytes that no encoded character
-- begins.
pub record HasFault (f : Flavor) (bytes : List ℕ) : Type 0 where
  pub rest : List ℕ
  pub chunk : List ℕ
  pub before : IsChunk f Strict bytes rest chunk
  pub some : 0 < length rest
  pub none_begins : NoneBegins f rest

-- An encoded character covers the offset.
pub record IsCovered (f : Flavor) (bytes : List ℕ) (i : ℕ) : Type 0 where
  pub offset : ℕ
  pub character : ℕ
  pub stands : StandsAt f bytes offset character
  pub begun : offset ≤ i
  pub ends : i < offset + width f character

-- ---- up to the first byte that is replaced

-- A text whose encoding begins the bytes is a chunk of them.
pub chunk_of_text : (f : Flavor) (which : Strictness) (bytes text rest : List ℕ) → IsText text → bytes ≡ encoding f text ++ rest →
    IsChunk f which bytes rest (utf8 text)
chunk_of_text f which bytes text rest is_text bytes_are = grind (arith, reading_text)

-- A fault after a character is a fault of the whole.
fault_later : (f : Flavor) (c : ℕ) (bytes : List ℕ) → IsScalarValue c → HasFault f bytes → HasFault f (encoding f (c ∷ []) ++ bytes)
fault_later f c bytes scalar fault =
    let text = c ∷ fault.before.text in
    let are = fault.before.strict_reading refl in
    record {
      rest = fault.rest;
      chunk = utf8 text;
      before = chunk_of_text f Strict _ text fault.rest (scalar, fault.before.scalars) (grind (arith, are, encoding_cons f c, append_assoc));
      some = fault.some;
      none_begins = fault.none_begins;
    }

-- Bytes are the encoding of their lossy reading, or they have a fault.
pub whole_or_faulty : (f : Flavor) (bytes : List ℕ) → IsStrictReading f bytes (reading f bytes) ⊎ HasFault f bytes
whole_or_faulty f =
    by_reading f (λ bytes text. IsStrictReading f bytes text ⊎ HasFault f bytes) (inl (tt, encoding_nil f))
    (λ c rest text scalar either. grind (arith, either, encoding_cons, fault_later)) (λ b rest text none _. inr (record {
      rest = b ∷ rest;
      chunk = [];
      before = chunk_of_text f Strict (b ∷ rest) [] (b ∷ rest) tt (ap (λ bs. bs ++ b ∷ rest) (sym (encoding_nil f)));
      some = omega arith;
      none_begins = none;
    }))

-- ---- what is covered

-- Each offset of an encoding is covered.
pub encoding_covered : (f : Flavor) (text : List ℕ) (i : ℕ) → IsText text → i < length (encoding f text) → IsCovered f (encoding f text) i
encoding_covered f [] i is_text inside = absurd (omega (arith, ap length (encoding_nil f)))
encoding_covered f (c ∷ text) i is_text inside =
    let long = length-append (encoding f (c ∷ [])) (encoding f text) in
    rw (encoding_cons f c text) (⊎_elim (λ (first : i < width f c). record {
      offset = 0;
      character = c;
      stands = (encoding f text, record { scalar = is_text.0; bytes_are = refl });
      begun = omega arith;
      ends = omega arith;
    })
    (λ (after : width f c ≤ i).
    let covered = encoding_covered f text (i - width f c) is_text.1 (omega (arith, ap length (encoding_cons f c text))) in record {
      offset = width f c + covered.offset;
      character = covered.character;
      stands = later f (encoding f (c ∷ [])) (encoding f text) covered.offset covered.character covered.stands;
      begun = omega (arith, covered.begun);
      ends = omega (arith, covered.ends);
    })
    (cases_lt i (width f c)))

-- No character crosses from an encoding into what follows it.
pub none_crosses_encoding : (f : Flavor) (text rest : List ℕ) → IsText text → NoneCrosses f (encoding f text) rest
none_crosses_encoding f [] rest is_text = λ i c stands inside. absurd (omega (arith, ap length (encoding_nil f)))
none_crosses_encoding f (d ∷ text) rest is_text =
    subst (λ bs. NoneCrosses f bs rest) (sym (encoding_cons f d text))
    (none_crosses_character f d (encoding f text) rest is_text.0 (none_crosses_encoding f text rest is_text.1))

-- If no character begins the bytes after an encoding, the first of these bytes is not covered.
fault_not_covered : (f : Flavor) (text rest : List ℕ) → IsText text → NoneBegins f rest →
    IsCovered f (encoding f text ++ rest) (length (encoding f text)) → ⊥
fault_not_covered f text rest is_text none_begins covered =
    grind (
      arith,
      cases_lt covered.offset (length (encoding f text)),
      none_crosses_encoding f text rest is_text covered.offset covered.character covered.stands,
      earlier f (encoding f text) rest 0 covered.character,
      none_begins covered.character,
    )

-- Bytes whose offsets are all covered are the encoding of their lossy reading.
covered_read : (f : Flavor) (bytes : List ℕ) → ((i : ℕ) → i < length bytes → IsCovered f bytes i) → IsStrictReading f bytes (reading f bytes)
covered_read f bytes covered =
    ⊎_elim (λ whole. whole)
    (λ (fault : HasFault f bytes).
    let prefix = encoding f fault.before.text in
    let there = covered (length prefix) (grind (arith, fault, length-append)) in
    absurd (grind (arith, there, fault, fault_not_covered f fault.before.text fault.rest)))
    (whole_or_faulty f bytes)

-- Bytes with an offset that is not covered have a fault.
pub uncovered_fault : (f : Flavor) (bytes : List ℕ) (i : ℕ) → i < length bytes → (IsCovered f bytes i → ⊥) → HasFault f bytes
uncovered_fault f bytes i inside uncovered = grind (arith, whole_or_faulty f bytes, encoding_covered)

-- If no character crosses the end of a prefix, an offset in it that is covered is covered by a
-- character of the prefix.
covered_in_prefix : (f : Flavor) (prefix back : List ℕ) (i : ℕ) → NoneCrosses f prefix back → i < length prefix →
    IsCovered f (prefix ++ back) i → IsCovered f prefix i
covered_in_prefix f prefix back i crosses inside covered =
    let p = covered.offset in
    let c = covered.character in
    let begun = covered.begun in
    let ended = crosses p c covered.stands (omega arith) in
    let begins = subst (λ bs. BeginsWith f bs c covered.stands.0) (drop-append-le p prefix back (omega arith)) covered.stands.1 in record {
      offset = p;
      character = c;
      stands = (drop (width f c) (drop p prefix), begins_in_prefix f (drop p prefix) back covered.stands.0 c begins (omega (arith, length-drop p prefix)));
      begun = begun;
      ends = covered.ends;
    }

-- ---- by widths

-- A byte that is not ill-formed is covered by a character that begins at one of six offsets: w0 is
-- the width at the byte itself, and w1 to w5 are those at the five offsets before it.
pub reached : (w0 w1 w2 w3 w4 w5 : ℕ) → ill_formed_by w0 w1 w2 w3 w4 w5 ≡ false →
    (1 ≤ w0) ⊎ ((2 ≤ w1) ⊎ ((3 ≤ w2) ⊎ ((w3 ≡ 6) ⊎ ((w4 ≡ 6) ⊎ (w5 ≡ 6)))))
reached w0 w1 w2 w3 w4 w5 fine = grind (arith, nat_tests)

-- An ill-formed byte is covered by no character that begins at one of the six offsets.
pub not_reached : (f : Flavor) (window : List ℕ) (i : ℕ) → is_ill_formed_at f window i ≡ true → (s : ℕ) → s < 6 →
    width_at f window (i + s) + s < 6
not_reached f window i ill_formed s small = grind (arith, nat_tests, width_bounds)

-- What `is_ill_formed_at` and `is_boundary_at` say of a window at offset i is about its byte i + 5.
-- The bytes follow five others in this window, so here that is byte i of the bytes.
module _ (f : Flavor) (window bytes : List ℕ) (follows : Follows window bytes 5) (first : is_boundary_at f window 0 ≡ true) where
  -- A byte that is not ill-formed is covered.
  pub covered_where : (i : ℕ) → i < length bytes → is_ill_formed_at f window i ≡ false → IsCovered f bytes i
  covered_where i inside fine =
      let w = width_at f window in
      let here : w (i + 0) ≡ w i = ap w (add-zero i) in
      ⊎_elim (λ h. by_offset 5 (omega arith) (omega (arith, h))) (⊎_elim (λ h. by_offset 4 (omega arith) (omega (arith, h)))
      (⊎_elim (λ h. by_offset 3 (omega arith) (omega (arith, h))) (⊎_elim (λ h. by_offset 2 (omega arith) (omega (arith, h)))
      (⊎_elim (λ h. by_offset 1 (omega arith) (omega (arith, h))) (λ h. by_offset 0 (omega arith) (omega (arith, h, here)))))))
      (reached (w (i + 5)) (w (i + 4)) (w (i + 3)) (w (i + 2)) (w (i + 1)) (w i) fine)
    where
      by_offset : (s : ℕ) → s < 6 → 6 ≤ width_at f window (i + s) + s → IsCovered f bytes i
      by_offset s small far =
          ⊎_elim (λ (early : i + s < 5).
          absurd (omega (arith, boundary_ends f window 0 first (i + s) early, ap (width_at f window) (zero-add (i + s)))))
          (λ (later : 5 ≤ i + s).
          let p = i + s - 5 in
          let offset : p + 5 ≡ i + s = omega arith in
          let wide_there = width_in f window bytes 5 p follows (omega arith) in
          let same = ap (width_at f window) offset in
          let found = wide f (drop p bytes) (omega arith) in record {
            offset = p;
            character = found.character;
            stands = (_, found.begins);
            begun = omega arith;
            ends = omega (arith, found.wide);
          })
          (cases_lt (i + s) 5)

  -- An ill-formed byte is not covered.
  pub not_covered_where : (i : ℕ) → i < length bytes → is_ill_formed_at f window i ≡ true → IsCovered f bytes i → ⊥
  not_covered_where i inside ill_formed covered =
      let p = covered.offset in
      let begun = covered.begun in
      let ends = covered.ends in
      let wide_there = width_of_standing f window bytes p covered.character follows (omega arith) covered.stands in
      ⊎_elim (λ (near : i < p + 6).
      let offset : i + (p + 5 - i) ≡ p + 5 = omega arith in
      omega (arith, not_reached f window i ill_formed (p + 5 - i) (omega arith), ap (width_at f window) offset))
      (λ (far : p + 6 ≤ i). omega (arith, width_bounds f window (p + 5)))
      (cases_lt i (p + 6))

  -- If no byte before an offset is ill-formed, and no character crosses the offset, the bytes
  -- before it are the encoding of their lossy reading.
  pub read_before : (n : ℕ) → n ≤ length bytes → NoneCrosses f (take n bytes) (drop n bytes) →
      ((i : ℕ) → i < n → is_ill_formed_at f window i ≡ false) → IsStrictReading f (take n bytes) (reading f (take n bytes))
  read_before n fits crosses fine =
      let long = length-take-le n bytes fits in
      covered_read f (take n bytes) (λ i inside. covered_in_prefix f (take n bytes) (drop n bytes) i crosses inside
      (subst (λ bs. IsCovered f bs i) (sym (take-append-drop n bytes)) (covered_where i (omega arith) (fine i (omega arith)))))
