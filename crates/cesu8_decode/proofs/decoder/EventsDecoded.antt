-- What decoding writes for the events of a window and for the bytes between them. An event is a
-- surrogate pair, C0 80 in MUTF-8, or an ill-formed byte. A window of events is at most 64 of the
-- bytes, but `window_of bytes` is all of them, with five zeros before them.
use Rattle.std.proofs.Common.{◌≡◌, ℕ, zero, suc, ◌+◌, ◌-◌, ◌*◌, ◌<◌, ◌≤◌, ⊎_elim, Bool, cond, true, false, ◌&&◌, eqb, List, [], ◌∷◌, ◌++◌, refl, sym, ap, ◌∙◌, arith, length, take, drop, get_or, replicate, length-drop, get_or-drop, add-zero, zero-add, suc-add, append_assoc, length-append, subst}
use Rattle.std.proofs.Math.Seq.{drop-cons, take-append_seam}
use Rattle.std.proofs.lemmas.Bool.{agree_below_at, cases_lt, cases_eq, eqb-true, ne_eqb}
use Rattle.std.proofs.lemmas.Bool.Decides.{nat_tests}
use Rattle.std.proofs.lemmas.List.{drop-drop, append_cancel_right}
use Rattle.cesu8_text.specs.Text.{utf8, utf8_of}
use Rattle.cesu8_text.specs.Encoding.{Flavor}
use Rattle.cesu8_text.specs.Reading.{reading}
use Rattle.cesu8_text.proofs.reading.Decoding.{utf8_append}
use Rattle.cesu8_bytes.specs.Puts.{WritesAt}
use Rattle.cesu8_bytes.proofs.lists.Stored.{first_written, written_after}
use Rattle.cesu8_bytes.specs.Pairs.{null_at, IsUtf8OfDigits, second_third_fifth_sixth, HasPair}
use Rattle.cesu8_bytes.specs.TextChunks.{IsReadSoFar}
use Rattle.cesu8_bytes.specs.declared.strictness.Strictness.TheVariants.{Lossy}
use Rattle.cesu8_decode.specs.DecodedOffsets.{first_width_by, width_at, window_of, is_boundary_at, is_ill_formed_at, one_at, two_at, three_at, pair_at, ill_formed_by, decoded_byte, decoded_at, decoded}
use Rattle.cesu8_decode.specs.Masks.{is_null_at, is_pair_at}
use Rattle.cesu8_decode.proofs.by_offset.CharacterBoundaries.{boundary_ends, boundary_where, ends_before, zero_width}
use Rattle.cesu8_decode.proofs.by_offset.DecodedText.{decoded_from_boundary}
use Rattle.cesu8_decode.proofs.by_offset.IllFormed.{not_reached}
use Rattle.cesu8_decode.proofs.by_offset.WindowOffsets.{follows_zeros, width_there, follows_later, width_in, decoded_split}
use Rattle.cesu8_decode.proofs.by_offset.WidthTests.{null_found, pair_of_test, width_tells}
use Rattle.cesu8_decode.proofs.chunks.Changed.{pair_width, pair_read, seen_null_read}

-- ---- between events

-- A byte at an offset is in the window five bytes later.
byte_there : (bytes : List ℕ) (i : ℕ) → get_or (window_of bytes) (i + 5) 0 ≡ get_or bytes i 0
byte_there bytes i = let offset : i + 5 ≡ 5 + i = omega arith in ap (λ p. get_or (window_of bytes) p 0) offset ∙ follows_zeros bytes i

-- The k-th byte from an offset on is in the window five bytes later too.
byte_after : (bytes : List ℕ) (i k : ℕ) → get_or (window_of bytes) (i + 5 + k) 0 ≡ get_or bytes (i + k) 0
byte_after bytes i k = let offset : i + 5 + k ≡ i + k + 5 = omega arith in ap (λ p. get_or (window_of bytes) p 0) offset ∙ byte_there bytes (i + k)

-- The first five bytes of a window are zeros.
zeros_before : (bytes : List ℕ) (i : ℕ) → i < 5 → get_or (window_of bytes) i 0 ≡ 0
zeros_before bytes i small = eqb-true _ _ (agree_below_at (λ s. eqb (get_or (window_of bytes) s 0) 0) (λ _. true) 5 i refl small)

-- C0 begins no character of two bytes other than C0 80.
no_null : (f : Flavor) (a b d e g h : ℕ) → null_at f a b ≡ false → (eqb (first_width_by f a b d e g h) 2 && eqb a 0xC0) ≡ false
unfolding first_width_by
no_null f a b d e g h none = grind (arith, nat_tests)

-- C0 begins no character other than C0 80.
lead_first : (f : Flavor) (a b d e g h : ℕ) → null_at f a b ≡ false → a ≡ 0xC0 → first_width_by f a b d e g h ≤ 0
unfolding first_width_by
lead_first f a b d e g h none lead = grind (arith, nat_tests)

-- If the second byte is C0, a character that is no surrogate pair has at most one byte.
lead_second : (f : Flavor) (a b d e g h : ℕ) → eqb (first_width_by f a b d e g h) 6 ≡ false → b ≡ 0xC0 → first_width_by f a b d e g h ≤ 1
unfolding first_width_by
lead_second f a b d e g h other lead = grind (arith, nat_tests)

-- C0 is not the third byte of a character of three bytes.
no_three : (a b d : ℕ) → d ≡ 0xC0 → three_at a b d ≡ false
no_three a b d lead = grind (arith, nat_tests)

-- A width that is not 3 and not 6 is at most 2.
low_chain : (one null two three pair : Bool) → three ≡ false → let n : ℕ = cond one 1 (cond null 2 (cond two 2 (cond three 3 (cond pair 6 0)))) in
    eqb n 6 ≡ false → n ≤ 2
low_chain one null two three pair none other = grind (arith, nat_tests)

-- If the third byte is C0, a character that is no surrogate pair has at most two bytes.
lead_third : (f : Flavor) (a b d e g h : ℕ) → eqb (first_width_by f a b d e g h) 6 ≡ false → d ≡ 0xC0 → first_width_by f a b d e g h ≤ 2
unfolding first_width_by
lead_third f a b d e g h other lead = low_chain (one_at f a) (null_at f a b) (two_at a b) (three_at a b d) (pair_at a b d e g h) (no_three a b d lead) other

-- A byte that no character covers is ill-formed.
no_cover : (w0 w1 w2 w3 w4 w5 : ℕ) → w0 ≤ 0 → w1 ≤ 1 → w2 ≤ 2 → eqb w3 6 ≡ false → eqb w4 6 ≡ false → eqb w5 6 ≡ false →
    ill_formed_by w0 w1 w2 w3 w4 w5 ≡ false → ⊥
no_cover w0 w1 w2 w3 w4 w5 h0 h1 h2 h3 h4 h5 fine = grind (arith, nat_tests)

-- No event is at the offset.
pub record NoEventAt (f : Flavor) (bytes : List ℕ) (i : ℕ) : Type 0 where
  pub pair : is_pair_at f bytes i ≡ false
  pub null : is_null_at f bytes i ≡ false
  pub fine : is_ill_formed_at f (window_of bytes) i ≡ false

module _ (f : Flavor) (bytes : List ℕ) where
  -- The width and the byte at an offset of `window_of bytes`. Those of byte i are at i + 5.
  abbrev w : ℕ → ℕ
  w = width_at f (window_of bytes)

  abbrev b : ℕ → ℕ
  b i = get_or (window_of bytes) i 0

  -- A byte that is in no surrogate pair and in no C0 80 is unchanged.
  becomes_itself : (i : ℕ) → eqb (w (i + 5)) 6 ≡ false → eqb (w (i + 4)) 6 ≡ false → eqb (w (i + 3)) 6 ≡ false → eqb (w (i + 2)) 6 ≡ false →
      eqb (w (i + 1)) 6 ≡ false → (eqb (w (i + 5)) 2 && eqb (b (i + 5)) 0xC0) ≡ false → (eqb (w (i + 4)) 2 && eqb (b (i + 4)) 0xC0) ≡ false →
      is_ill_formed_at f (window_of bytes) i ≡ false → decoded_at f (window_of bytes) i ≡ b (i + 5) ∷ []
  unfolding decoded_byte
  becomes_itself i p5 p4 p3 p2 p1 here before fine = grind (arith, nat_tests)

  -- If no surrogate pair begins in the n bytes after a boundary, none covers any of them.
  module _ (at n : ℕ) (boundary : is_boundary_at f (window_of bytes) at ≡ true) (pairs : (i : ℕ) → at ≤ i → i < at + n → is_pair_at f bytes i ≡ false) where
    no_pair_at : (q : ℕ) → at ≤ q → q < at + n + 5 → eqb (w q) 6 ≡ false
    no_pair_at q low inside =
        ⊎_elim (λ (early : q < at + 5).
        let there : at + (q - at) ≡ q = omega arith in
        ne_eqb (w q) 6 (λ six. omega (arith, six, ap w there, boundary_ends f (window_of bytes) at boundary (q - at) (omega arith))))
        (λ (late : at + 5 ≤ q).
        let there : q ≡ q - 5 + 5 = omega arith in
        ap (λ v. eqb v 6) (ap w there ∙ width_there f bytes (q - 5)) ∙ pairs (q - 5) (omega arith) (omega arith))
        (cases_lt q (at + 5))

    -- If no C0 80 begins at a byte after the boundary, the byte begins no character of two bytes
    -- with C0. Neither does the last byte before the boundary, since no character crosses it.
    no_null_at : (q : ℕ) → at + 4 ≤ q → (at + 5 ≤ q → is_null_at f bytes (q - 5) ≡ false) → (eqb (w q) 2 && eqb (b q) 0xC0) ≡ false
    no_null_at q low null =
        ⊎_elim (λ (early : q < at + 5).
        let there : at + 4 ≡ q = omega arith in
        let other : eqb (w q) 2 ≡ false = ne_eqb (w q) 2 (λ two. omega (arith, two, ap w there, boundary_ends f (window_of bytes) at boundary 4 (omega arith))) in
        rw other refl)
        (λ (late : at + 5 ≤ q).
        let here : q ≡ q - 5 + 5 = omega arith in
        let next : q + 1 ≡ q - 5 + 1 + 5 = omega arith in
        let first = ap b here ∙ byte_there bytes (q - 5) in
        let second = ap b next ∙ byte_there bytes (q - 5 + 1) in
        no_null f (b q) (b (q + 1)) (b (q + 2)) (b (q + 3)) (b (q + 4)) (b (q + 5)) ((λ k. null_at f (first k) (second k)) ∙ null late))
        (cases_lt q (at + 5))

    -- A byte there that is not ill-formed and in no C0 80 is unchanged.
    pub plain_at : (i : ℕ) → at ≤ i → i < at + n → is_null_at f bytes i ≡ false → ((j : ℕ) → at ≤ j → i ≡ j + 1 → is_null_at f bytes j ≡ false) →
        is_ill_formed_at f (window_of bytes) i ≡ false → decoded_at f (window_of bytes) i ≡ get_or bytes i 0 ∷ []
    plain_at i low inside null before fine = grind (arith, nat_tests, becomes_itself, no_pair_at, no_null_at, byte_there)

    -- A byte there that is not ill-formed and at which no C0 80 begins is not C0.
    pub no_lone_lead : (i : ℕ) → at ≤ i → i < at + n → is_null_at f bytes i ≡ false → is_ill_formed_at f (window_of bytes) i ≡ false → get_or bytes i 0 ≡ 0xC0 → ⊥
    no_lone_lead i low inside null fine lead = grind (arith, nat_tests, byte_there, byte_after, lead_first, lead_second, no_pair_at, lead_third, no_cover)

  -- If each of n bytes becomes itself, these bytes are what decoding writes for them.
  kept_range : (at n : ℕ) → at + n ≤ length bytes → ((i : ℕ) → at ≤ i → i < at + n → decoded_at f (window_of bytes) i ≡ get_or bytes i 0 ∷ []) →
      take n (drop at bytes) ≡ decoded f (window_of bytes) at n
  unfolding decoded
  kept_range at zero fits kept = refl
  kept_range at (suc n) fits kept = grind (arith, nat_tests, drop-cons, kept_range (at + 1) n (omega arith) (λ i low inside. kept i (omega arith) (omega arith)))

  -- After a boundary, bytes in which no event begins are unchanged.
  pub kept_decoded : (at n : ℕ) → at + n ≤ length bytes → is_boundary_at f (window_of bytes) at ≡ true → ((i : ℕ) → at ≤ i → i < at + n → NoEventAt f bytes i) →
      take n (drop at bytes) ≡ decoded f (window_of bytes) at n
  kept_decoded at n fits boundary stay = kept_range at n fits (λ i low inside.
      plain_at at n boundary (λ i low inside. (stay i low inside).pair) i low inside (stay i low inside).null (λ j low there. (stay j low (omega arith)).null) (stay i low inside).fine)

  -- ---- boundaries

  -- If each character that begins before an offset ends at or before it, none crosses it.
  boundary_if : (i : ℕ) → ((p : ℕ) → p < i → p + w (p + 5) ≤ i) → is_boundary_at f (window_of bytes) i ≡ true
  boundary_if i ends =
      boundary_where f (window_of bytes) i (λ s small.
      ⊎_elim (λ (early : i + s < 5). omega (arith, zero_width f (window_of bytes) (i + s) (zeros_before bytes (i + s) early)))
      (λ (late : 5 ≤ i + s).
      let there : i + s ≡ i + s - 5 + 5 = omega arith in
      omega (arith, ap w there, ends (i + s - 5) (omega arith)))
      (cases_lt (i + s) 5))

  -- No character crosses the start of another.
  boundary_before : (i : ℕ) → i < length bytes → 0 < w (i + 5) → is_boundary_at f (window_of bytes) i ≡ true
  boundary_before i inside some = boundary_if i (λ p before. ends_before f (window_of bytes) bytes p i (follows_zeros bytes) before inside some)

  -- No character crosses the end of another.
  pub boundary_after_character : (i m : ℕ) → i + m ≤ length bytes → 0 < m → w (i + 5) ≡ m → is_boundary_at f (window_of bytes) (i + m) ≡ true
  boundary_after_character i m fits some is =
      boundary_if (i + m) (λ p inside.
      ⊎_elim (λ (before : p < i). omega (arith, ends_before f (window_of bytes) bytes p i (follows_zeros bytes) before (omega arith) (omega (arith, is))))
      (λ (after : i ≤ p).
      ⊎_elim (λ (here : p ≡ i). omega (arith, is, ap (λ i. w (i + 5)) here))
      (λ (other : ¬ (p ≡ i)).
      ⊎_elim (λ (begun : 0 < w (p + 5)). absurd (omega (arith, is, ends_before f (window_of bytes) bytes i p (follows_zeros bytes) (omega (arith, other)) (omega arith) begun)))
      (λ (none : w (p + 5) ≤ 0). omega (arith, none))
      (cases_lt 0 (w (p + 5))))
      (cases_eq p i))
      (cases_lt p i))

  -- No character crosses the offset after an ill-formed byte.
  pub boundary_after_ill_formed : (i : ℕ) → is_ill_formed_at f (window_of bytes) i ≡ true → is_boundary_at f (window_of bytes) (i + 1) ≡ true
  boundary_after_ill_formed i ill =
      boundary_where f (window_of bytes) (i + 1) (λ s small.
      let offset : i + 1 + s ≡ i + (1 + s) = omega arith in
      omega (arith, not_reached f (window_of bytes) i ill (1 + s) (omega arith), ap w offset))

  -- ---- events

  -- What is written for a character is the text that lossy decoding gives for it.
  character_decoded : (at m : ℕ) (written : List ℕ) → at + m ≤ length bytes → 0 < m → w (at + 5) ≡ m → IsReadSoFar f Lossy (drop at bytes) (drop m (drop at bytes)) [] written →
      decoded f (window_of bytes) at m ≡ written
  character_decoded at m written fits some is read =
      let window = window_of bytes in
      let rest = drop at bytes in
      let behind = drop (at + m) bytes in
      let here = boundary_before at (omega arith) (omega (arith, is)) in
      let there = boundary_after_character at m fits some is in
      let all : m + length behind ≡ length rest = omega (arith, length-drop at bytes, length-drop (at + m) bytes, fits) in
      append_cancel_right (decoded f window at m) written (utf8 (reading f behind))
      (ap (λ bs. decoded f window at m ++ bs) (sym (decoded_from_boundary f window behind (at + m) (follows_later window bytes 5 (at + m) (follows_zeros bytes)) there))
      ∙ sym (decoded_split f window at m (length behind))
      ∙ ap (decoded f window at) all
      ∙ decoded_from_boundary f window rest at (follows_later window bytes 5 at (follows_zeros bytes)) here
      ∙ ap utf8 read.lossy_reading ∙ utf8_append read.text (reading f (drop m rest))
      ∙ ap (λ bs. bs ++ utf8 (reading f (drop m rest))) (sym read.written)
      ∙ ap (λ bs. written ++ utf8 (reading f bs)) (drop-drop m at bytes))

  -- What decoding writes for a surrogate pair is its UTF-8.
  module _ (at : ℕ) (fits : at + 6 ≤ length bytes) (has : HasPair (drop at bytes)) where
    six : w (at + 5) ≡ 6
    six = width_in f (window_of bytes) bytes 5 at (follows_zeros bytes) (omega arith) ∙ pair_width f (drop at bytes) (omega (arith, length-drop at bytes)) has

    pub pair_at_decoded : (four : List ℕ) → IsUtf8OfDigits (second_third_fifth_sixth (drop at bytes)) four → decoded f (window_of bytes) at 6 ≡ four
    pair_at_decoded four is_utf8 =
        character_decoded at 6 four fits (omega arith) six
        (pair_read f Lossy (drop at bytes) [] four four (pair_width f (drop at bytes) (omega (arith, length-drop at bytes)) has) is_utf8 refl)

    -- A surrogate pair is six bytes wide.
    pub pair_wide : 6 ≡ width_at f bytes at
    pair_wide = sym six ∙ width_there f bytes at

  -- If `is_pair_at` is true, a surrogate pair begins at the offset.
  pub pair_begins : (at : ℕ) → is_pair_at f bytes at ≡ true → HasPair (drop at bytes)
  pair_begins at pair =
      let g : (k : ℕ) → get_or (drop at bytes) k 0 ≡ get_or bytes (at + k) 0 = λ k. get_or-drop at bytes k 0 in
      let first = g 0 ∙ ap (λ p. get_or bytes p 0) (add-zero at) in
      pair_of_test (drop at bytes)
      ((λ k. pair_at (first k) (g 1 k) (g 2 k) (g 3 k) (g 4 k) (g 5 k)) ∙ (width_tells f _ _ _ _ _ _).3 (eqb-true _ _ pair))

  -- What decoding writes for C0 80 is 00.
  module _ (at : ℕ) (fits : at + 2 ≤ length bytes) (null : is_null_at f bytes at ≡ true) where
    begins_null : null_at f (get_or (drop at bytes) 0 0) (get_or (drop at bytes) 1 0) ≡ true
    begins_null = grind (arith, nat_tests, get_or-drop, add-zero, null)

    two : w (at + 5) ≡ 2
    two = width_in f (window_of bytes) bytes 5 at (follows_zeros bytes) (omega arith) ∙ null_found f (drop at bytes) begins_null

    pub null_at_decoded : decoded f (window_of bytes) at 2 ≡ 0 ∷ []
    null_at_decoded =
        character_decoded at 2 (0 ∷ []) fits (omega arith) two
        (seen_null_read f (drop at bytes) (drop at bytes) (λ i small. refl) Lossy [] (0 ∷ []) begins_null refl)

    -- C0 80 is two bytes wide.
    pub null_wide : 2 ≡ width_at f bytes at
    null_wide = sym two ∙ width_there f bytes at

  -- What decoding writes for an ill-formed byte is the replacement character.
  pub replaced_at : (i : ℕ) → is_ill_formed_at f (window_of bytes) i ≡ true → 0xEF ∷ 0xBF ∷ 0xBD ∷ [] ≡ decoded_at f (window_of bytes) i
  unfolding decoded_byte
  replaced_at i ill = rw ill refl

  -- What decoding writes for n ill-formed bytes is n replacement characters.
  pub ill_formed_decoded : (at n : ℕ) → ((i : ℕ) → at ≤ i → i < at + n → is_ill_formed_at f (window_of bytes) i ≡ true) →
      utf8 (replicate n 0xFFFD) ≡ decoded f (window_of bytes) at n
  unfolding decoded decoded_byte utf8_of
  ill_formed_decoded at zero ill = refl
  ill_formed_decoded at (suc n) ill = grind (arith, nat_tests, replaced_at, ill_formed_decoded (at + 1) n (λ i low inside. ill i (omega arith) (omega arith)))

-- ---- replacement characters

-- The UTF-8 of m + n replacement characters is that of m and then that of n.
replacements_more : (m n : ℕ) → utf8 (replicate (m + n) 0xFFFD) ≡ utf8 (replicate m 0xFFFD) ++ utf8 (replicate n 0xFFFD)
unfolding utf8_of
replacements_more zero n = ap (λ k. utf8 (replicate k 0xFFFD)) (zero-add n)
replacements_more (suc m) n =
    let rest = replacements_more m n in
    ap (λ k. utf8 (replicate k 0xFFFD)) (suc-add m n) ∙ (λ k. 0xEF ∷ 0xBF ∷ 0xBD ∷ rest k)

-- Each replacement character has three bytes.
pub length_replacements : (n : ℕ) → length (utf8 (replicate n 0xFFFD)) ≡ 3 * n
unfolding utf8_of
length_replacements zero = refl
length_replacements (suc n) = omega (arith, length_replacements n)

-- One store writes a vector of 32 bytes: ten replacement characters, and two bytes of another. The
-- first 3n of these bytes are n replacement characters.
first_replacements : (n : ℕ) → n ≤ 10 → take (3 * n) (utf8 (replicate 10 0xFFFD) ++ 0xEF ∷ 0xBF ∷ []) ≡ utf8 (replicate n 0xFFFD)
first_replacements n few =
    let some = utf8 (replicate n 0xFFFD) in
    let others = utf8 (replicate (10 - n) 0xFFFD) in
    let all : n + (10 - n) ≡ 10 = omega arith in
    let split = ap (λ m. utf8 (replicate m 0xFFFD)) (sym all) ∙ replacements_more n (10 - n) in
    ap (take (3 * n)) (ap (λ bs. bs ++ 0xEF ∷ 0xBF ∷ []) split ∙ append_assoc some others (0xEF ∷ 0xBF ∷ []))
    ∙ ap (λ m. take m (some ++ (others ++ 0xEF ∷ 0xBF ∷ []))) (sym (length_replacements n))
    ∙ take-append_seam some (others ++ 0xEF ∷ 0xBF ∷ [])

-- If a store of ten replacement characters follows m of them, m + n are written: those after them
-- do not count.
pub replacements_stored : (m n start at last : ℕ) (lanes old mid new : List ℕ) → n ≤ 10 → lanes ≡ utf8 (replicate 10 0xFFFD) ++ 0xEF ∷ 0xBF ∷ [] →
    WritesAt (utf8 (replicate m 0xFFFD)) start old mid at → WritesAt lanes at mid new last → at ≤ length mid →
    WritesAt (utf8 (replicate (m + n) 0xFFFD)) start old new (at + 3 * n)
replacements_stored m n start at last lanes old mid new few are before stored room =
    let long = length-append (utf8 (replicate 10 0xFFFD)) (0xEF ∷ 0xBF ∷ []) in
    let more = first_written (3 * n) at last lanes mid new (omega (arith, ap length are, long, length_replacements 10)) room stored in
    let some = subst (λ bs. WritesAt bs at mid new (at + 3 * n)) (ap (take (3 * n)) are ∙ first_replacements n few) more in
    subst (λ bs. WritesAt bs start old new (at + 3 * n)) (sym (replacements_more m n))
    (written_after (utf8 (replicate m 0xFFFD)) (utf8 (replicate n 0xFFFD)) old mid new start at (at + 3 * n) before some)
