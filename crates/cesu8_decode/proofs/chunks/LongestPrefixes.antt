-- The bytes of whole characters can follow each other (`follows` in specs/Following), so no prefix
-- of whole characters extends past the first byte that cannot follow. This gives the length of the
-- longest such prefix, for `prefix.rt`, `valid.rt`, `modes.rt`, and what appends or writes to a
-- slice.
use Rattle.std.proofs.Common.{◌≡◌, ℕ, ◌+◌, ◌<◌, ◌≤◌, ◌⊎◌, inl, inr, true, false, List, [], ◌∷◌, ◌++◌, refl, subst, arith, length, take, ◌↔◌, ⊎_elim, true≢false, cond, leb, get_or, sym, ap, ◌∙◌, drop, length-append, length-drop}
use Rattle.std.specs.List.{Any}
use Rattle.std.proofs.lemmas.Bool.{lt-leb, le-leb, cases_Bool, cases_lt}
use Rattle.std.proofs.lemmas.Bool.Decides.{nat_tests}
use Rattle.cesu8_text.specs.Class.{is_null}
use Rattle.cesu8_text.specs.Text.{IsScalarValue, IsText}
use Rattle.cesu8_text.specs.Encoding.{Flavor, short_form, encoding, IsEncodedOtherwise}
use Rattle.cesu8_text.proofs.lists.Elements.{any_here, any_there}
use Rattle.cesu8_text.proofs.text.Shapes.{IsThree, Shape, one, two, three, pair, shape}
use Rattle.cesu8_text.proofs.encoding.Encodings.{encoding_nil, encoding_append}
use Rattle.cesu8_text.proofs.encoding.Forms.{encoding_one, encoding_two, encoding_three, encoding_pair}
use Rattle.cesu8_text.proofs.encoding.Lengths.{otherwise, length_of_character}
use Rattle.cesu8_bytes.specs.Pairs.{null_at}
use Rattle.cesu8_decode.specs.DecodedOffsets.{continues}
use Rattle.cesu8_decode.specs.Following.{CharacterSet, Encoded, Unchanged, has_changed, first_low, pair_class, after_fillers, follows, crosses, FollowUpTo, crosses_at}
use Rattle.cesu8_decode.specs.Prefixes.{AreWhole, IsOutside, IsLongestPrefix}
use Rattle.cesu8_decode.proofs.by_offset.WidthTests.{is_continuation}
use Rattle.cesu8_decode.proofs.chunks.FollowingBytes.{Ends, FollowToEnd, FollowBefore, by_index, start, short_of, low_if_meant, followed_whole}
use Rattle.std.proofs.Math.Seq.{take-add, take-append_seam, take-length}
use Rattle.std.proofs.lemmas.List.{take_all, take-append-drop, length-take-le}
use Rattle.cesu8_text.specs.Reading.{BeginsWith, NoneBegins, StandsAt, width, LiesWithin, Damaged, HasNoStrictReading}
use Rattle.cesu8_text.specs.Fronts.{IsValidUpTo}
use Rattle.cesu8_text.proofs.reading.Marks.{mark_from}
use Rattle.cesu8_decode.proofs.by_offset.IllFormed.{none_crosses_encoding}
use Rattle.cesu8_decode.proofs.chunks.WholeBytes.{none_outside, character_whole, parts_whole}

-- ---- the class of a byte

-- A byte greater than 0 is no null.
no_null : (f : Flavor) (b : ℕ) → 0 < b → is_null f b ≡ false
no_null f b some = grind (arith, nat_tests)

-- The class of a first byte after the end of a character is 0.
class_of_first : (s : CharacterSet) (f : Flavor) (a b : ℕ) → a < 0xC0 → is_null f b ≡ false → continues b ≡ false → pair_class s f a b ≡ 0
unfolding pair_class
class_of_first s f a b no_lead null other = rw (null, lt-leb 0xF0 a (omega arith), other, lt-leb 0xC0 a no_lead) refl

-- The class of the second byte of a character is 0.
class_of_second : (s : CharacterSet) (f : Flavor) (a b : ℕ) → 0xC2 ≤ a → a < 0xF0 → 0x80 ≤ b → b < 0xC0 → (a ≡ 0xE0 → 0xA0 ≤ b) → (a ≡ 0xED → b < first_low s) →
    pair_class s f a b ≡ 0
unfolding pair_class
class_of_second s f a b leads fits low high no_overlong no_low = grind (arith, nat_tests)

-- The class of the third byte of a character is 80.
class_of_third : (s : CharacterSet) (f : Flavor) (a b : ℕ) → 0x80 ≤ a → a < 0xC0 → 0x80 ≤ b → b < 0xC0 → pair_class s f a b ≡ 0x80
unfolding pair_class
class_of_third s f a b a_low a_high low high = grind (arith, nat_tests)

-- The class of the second byte of a low surrogate is 20.
class_of_low : (s : CharacterSet) (f : Flavor) (b : ℕ) → first_low s ≤ b → 0xB0 ≤ b → b < 0xC0 → pair_class s f 0xED b ≡ 0x20
unfolding pair_class
class_of_low s f b is_low low high = rw (no_null f b (omega arith), is_continuation b (omega arith) high, le-leb (first_low s) b is_low) refl

-- ---- one character after another

-- A second byte below A0 is not that of a surrogate.
below_low : (s : CharacterSet) (b : ℕ) → b < 0xA0 → b < first_low s
below_low s b low = grind arith

-- The bytes of a character and of the rest can follow each other, if those of the rest can after
-- any whole character. The four bytes before them are a, b, d and e.
module _ (s : CharacterSet) (f : Flavor) (rest : List ℕ) (then : (a b d e : ℕ) → Ends s a b d e → FollowToEnd s f a b d e rest) (a b d e : ℕ) (ends : Ends s a b d e) where
  fit_one : (g : ℕ) → g < 0x80 → is_null f g ≡ false → FollowToEnd s f a b d e (g ∷ rest)
  fit_one g ascii null = (grind (arith, nat_tests, class_of_first), then b d e g (grind (arith, nat_tests)))

  fit_two : (g h : ℕ) → 0xC0 ≤ g → g < 0xE0 → pair_class s f g h ≡ 0 → h < 0xC0 → FollowToEnd s f a b d e (g ∷ h ∷ rest)
  fit_two g h leads low shows high =
      (grind (arith, nat_tests, no_null, class_of_first), (grind (arith, nat_tests), then d e g h (grind (arith, nat_tests))))

  fit_three : (g h i : ℕ) → 0xE0 ≤ g → g < 0xF0 → 0x80 ≤ h → h < 0xC0 → (g ≡ 0xE0 → 0xA0 ≤ h) → (g ≡ 0xED → h < 0xA0) →
      0x80 ≤ i → i < 0xC0 → FollowToEnd s f a b d e (g ∷ h ∷ i ∷ rest)
  fit_three g h i leads small h_low h_high no_overlong no_surrogate i_low i_high = grind (arith, nat_tests, below_low, class_of_second, class_of_third, no_null, class_of_first)

  fit_pair : (h i l m : ℕ) → has_changed s ≡ true → 0xA0 ≤ h → h < 0xB0 → 0x80 ≤ i → i < 0xC0 → 0xB0 ≤ l → l < 0xC0 → 0x80 ≤ m → m < 0xC0 →
      FollowToEnd s f a b d e (0xED ∷ h ∷ i ∷ 0xED ∷ l ∷ m ∷ rest)
  fit_pair h i l m meant h_low h_high i_low i_high l_low l_high m_low m_high = grind (arith, nat_tests, low_if_meant, no_null, class_of_first, class_of_second, class_of_third, class_of_low)

-- U+0000 in MUTF-8 has a form of two bytes.
null_form : (f : Flavor) (c : ℕ) → is_null f c ≡ true →
    (short_form f c ≡ 0xC0 ∷ 0x80 ∷ []) × (null_at f 0xC0 0x80 ≡ true) × IsEncodedOtherwise f c
null_form f c null = grind (arith, nat_tests)

-- The bytes of one character of the set and of the rest can follow each other, for each form.
module _ (s : CharacterSet) (f : Flavor) (c : ℕ) (meant : IsEncodedOtherwise f c → has_changed s ≡ true) (rest : List ℕ) (then : (a b d e : ℕ) → Ends s a b d e → FollowToEnd s f a b d e rest) (a b d e : ℕ) (ends : Ends s a b d e) where
  fit_short : c < 0x80 → (is_null f c ≡ true) ⊎ (is_null f c ≡ false) → FollowToEnd s f a b d e (short_form f c ++ rest)
  unfolding pair_class
  fit_short ascii (inl null) =
      let form = null_form f c null in
      rw form.0 (fit_two s f rest then a b d e ends 0xC0 0x80 (omega arith) (omega arith) (rw (no_null f 0x80 (omega arith), meant form.2, form.1) refl) (omega arith))
  fit_short ascii (inr some) = rw (short_of f c some) (fit_one s f rest then a b d e ends c ascii some)

  no_surrogate_in : (x y z : ℕ) → IsThree c x y z → IsScalarValue c → 0xE0 + x ≡ 0xED → 0x80 + y < 0xA0
  no_surrogate_in x y z digits scalar e = grind arith

  fit_character : IsScalarValue c → Shape c → FollowToEnd s f a b d e (encoding f (c ∷ []) ++ rest)
  fit_character scalar (one ascii) = rw (encoding_one f c ascii) (fit_short ascii (cases_Bool (is_null f c)))
  fit_character scalar (two x y digits) =
      rw (encoding_two f c x y digits)
      (fit_two s f rest then a b d e ends (0xC0 + x) (0x80 + y) (omega arith) (omega arith) (grind (arith, class_of_second)) (omega arith))
  fit_character scalar (three x y z digits) =
      rw (encoding_three f c x y z digits)
      (fit_three s f rest then a b d e ends (0xE0 + x) (0x80 + y) (0x80 + z) (omega arith) (omega arith) (omega arith) (omega arith)
      (λ e. omega (arith, e)) (no_surrogate_in x y z digits scalar) (omega arith) (omega arith))
  fit_character scalar (pair w x y z digits) =
      rw (encoding_pair f c w x y z digits)
      (fit_pair s f rest then a b d e ends (0xA0 + w) (0x80 + x) (0xB0 + y) (0x80 + z) (meant (otherwise f c (omega arith))) (omega arith) (omega arith) (omega arith) (omega arith)
      (omega arith) (omega arith) (omega arith) (omega arith))

-- The bytes of the encoding of a character of the set and of the rest can follow each other.
character_fits : (s : CharacterSet) (f : Flavor) (c : ℕ) → IsScalarValue c → ¬ (IsOutside s f c) → (rest : List ℕ) →
    ((a b d e : ℕ) → Ends s a b d e → FollowToEnd s f a b d e rest) → (a b d e : ℕ) → Ends s a b d e → FollowToEnd s f a b d e (encoding f (c ∷ []) ++ rest)
character_fits Encoded f c scalar inside rest then a b d e ends = fit_character Encoded f c (λ _. refl) rest then a b d e ends scalar (shape c scalar)
character_fits Unchanged f c scalar inside rest then a b d e ends =
    fit_character Unchanged f c (λ needs. absurd (inside needs)) rest then a b d e ends scalar (shape c scalar)

-- The bytes of the encoding of a text in the set can follow each other.
written_fit : (s : CharacterSet) (f : Flavor) (text : List ℕ) → IsText text → ¬ (Any (IsOutside s f) text) →
    (a b d e : ℕ) → Ends s a b d e → FollowToEnd s f a b d e (encoding f text)
written_fit s f [] is_text inside a b d e ends = rw (encoding_nil f) ends
written_fit s f (c ∷ text) is_text inside a b d e ends =
    rw (encoding_append f (c ∷ []) text)
    (character_fits s f c is_text.0 (λ out. inside (any_here _ c text out)) (encoding f text)
    (written_fit s f text is_text.1 (λ any. inside (any_there _ c text any))) a b d e ends)

-- The bytes of a prefix of whole characters can follow each other, and no character crosses its
-- end.
pub whole_follow : (s : CharacterSet) (f : Flavor) (bytes : List ℕ) (m : ℕ) → m ≤ length bytes → AreWhole s f (take m bytes) →
    FollowBefore s f (after_fillers bytes) m
whole_follow s f bytes m within whole =
    by_index s f 0 0 0 0 m bytes within
    (subst (FollowToEnd s f 0 0 0 0) whole.reads.1
    (written_fit s f whole.text whole.reads.0 whole.inside 0 0 0 0 (start s)))

-- If bytes can follow each other up to a byte that cannot, the prefix ends at the last offset that
-- no character crosses.
pub prefix_at : (s : CharacterSet) (f : Flavor) (bytes : List ℕ) (m n : ℕ) → FollowUpTo s f bytes m → n ≤ m →
    crosses_at s (after_fillers bytes) n ≡ false → ((k : ℕ) → n < k → k ≤ m → crosses_at s (after_fillers bytes) k ≡ true) →
    IsLongestPrefix s f bytes n
prefix_at s f bytes m n follow fits none crossed = record {
  within = omega (arith, follow.first.within);
  whole = followed_whole s f bytes m n follow.first fits none;
  greatest = λ j longer within whole.
      let found = whole_follow s f bytes j within whole in
      ⊎_elim (λ (past : m < j). true≢false (sym (found.0 m past) ∙ follow.stops (omega arith)))
      (λ (short : j ≤ m). true≢false (sym (crossed j longer short) ∙ found.1)) (cases_lt m j);
}

-- The class of a byte from C0 on shows whether a lead byte precedes it.
class_of_lead : (s : CharacterSet) (f : Flavor) (e g : ℕ) → 0xC0 ≤ g →
    pair_class s f e g ≡ cond (leb 0xF0 e) 0x40 (cond (leb 0xC0 e) 0x01 0)
unfolding pair_class
class_of_lead s f e g high = grind (arith, nat_tests)

-- If a byte from C0 on can follow, and the set has no surrogate pairs, no character crosses the
-- offset before it.
before_lead : (s : CharacterSet) (f : Flavor) → has_changed s ≡ false → (a b d e g : ℕ) → 0xC0 ≤ g → follows s f a b d e g ≡ true →
    crosses s a b d e ≡ false
before_lead s f none a b d e g high fits = let tests = rw (class_of_lead s f e g high, none) at fits in grind (arith, nat_tests)

-- If the character that a byte from C0 on begins is cut off, the prefix ends before this byte. It
-- is byte n: `after_fillers` puts four zeros before the bytes.
pub cut_at : (s : CharacterSet) (f : Flavor) (bytes : List ℕ) (m n : ℕ) → has_changed s ≡ false → FollowUpTo s f bytes m → n < m →
    0xC0 ≤ get_or (after_fillers bytes) (n + 4) 0 → ((k : ℕ) → n < k → k ≤ m → crosses_at s (after_fillers bytes) k ≡ true) → IsLongestPrefix s f bytes n
cut_at s f bytes m n none up_to before high crossed =
    let w : ℕ → ℕ = λ i. get_or (after_fillers bytes) i 0 in
    prefix_at s f bytes m n up_to (omega (arith, before))
    (before_lead s f none (w n) (w (n + 1)) (w (n + 2)) (w (n + 3)) (w (n + 4)) high (up_to.first.follow n before)) crossed

-- The character of a lead byte crosses the offsets inside it.
module _ (s : CharacterSet) (bytes : List ℕ) (n : ℕ) where
  byte : (i : ℕ) → i ≡ n + 4 → get_or (after_fillers bytes) i 0 ≡ get_or (after_fillers bytes) (n + 4) 0
  byte i = ap (λ i. get_or (after_fillers bytes) i 0)

  pub crosses_next : 0xC0 ≤ get_or (after_fillers bytes) (n + 4) 0 → crosses_at s (after_fillers bytes) (n + 1) ≡ true
  crosses_next high = let lead = byte (n + 1 + 3) (omega arith) in grind (arith, nat_tests)

  pub crosses_second : 0xE0 ≤ get_or (after_fillers bytes) (n + 4) 0 → crosses_at s (after_fillers bytes) (n + 2) ≡ true
  crosses_second high = let lead = byte (n + 2 + 2) (omega arith) in grind (arith, nat_tests)

-- If all bytes are whole characters, the prefix is all bytes.
pub all_as_prefix : (s : CharacterSet) (f : Flavor) (bytes : List ℕ) → AreWhole s f bytes → IsLongestPrefix s f bytes (length bytes)
all_as_prefix s f bytes whole = record {
  within = omega arith;
  whole = subst (AreWhole s f) (sym (take-length bytes)) whole;
  greatest = λ m longer within. absurd (omega arith);
}

module _ (s : CharacterSet) (f : Flavor) (bytes : List ℕ) (n : ℕ) (prefix : IsLongestPrefix s f bytes n) where
  -- The prefix is all bytes if and only if they are whole characters.
  pub prefix_of_all : (n ≡ length bytes) ↔ AreWhole s f bytes
  prefix_of_all = grind (arith, nat_tests, take_all, take-length)

  -- If the prefix is not all bytes, bytes are left after it.
  pub more_after : ¬ (n ≡ length bytes) → n < length bytes
  more_after other = omega (arith, prefix.within, other)

  -- All bytes are the encoding of the text of the prefix, and the bytes after it.
  pub bytes_are : bytes ≡ encoding f prefix.whole.text ++ drop n bytes
  bytes_are = sym (take-append-drop n bytes) ∙ ap (λ bs. bs ++ drop n bytes) (sym prefix.whole.reads.1)

  -- No character of the set begins after the prefix, since it would make the prefix longer.
  pub none_after : (c : ℕ) (rest : List ℕ) → ¬ (IsOutside s f c) → ¬ (BeginsWith f (drop n bytes) c rest)
  none_after c rest inside begins =
      let character = encoding f (c ∷ []) in
      let k = width f c in
      let long = length_of_character f c begins.scalar in
      let fits = ap length begins.bytes_are ∙ length-append character rest in
      let are : take (n + k) bytes ≡ take n bytes ++ character =
      take-add n k bytes ∙ ap (λ bs. take n bytes ++ bs) (ap (take k) begins.bytes_are ∙ take-append_seam character rest) in
      prefix.greatest (n + k) (omega (arith, long.some, long.fits)) (omega (arith, prefix.within, fits, length-drop n bytes))
      (subst (AreWhole s f) (sym are)
      (parts_whole s f (take n bytes) character prefix.whole (character_whole s f c begins.scalar inside)))

-- The valid prefix is what `valid_up_to` returns: no character begins after it, so lossy decoding
-- replaces the next byte.
pub valid_up_to_of : (f : Flavor) (bytes : List ℕ) (n : ℕ) → IsLongestPrefix Encoded f bytes n → IsValidUpTo f bytes n
valid_up_to_of f bytes n prefix = record {
  within = prefix.within;
  valid = (text, prefix.whole.reads);
  stops = λ _. none;
  greatest = λ m longer fits other reads.
      prefix.greatest m longer fits (record { text = other; reads = reads; inside = none_outside _ (λ c none. none) other });
  replaced = λ _. mark_from f bytes n (0xFFFD ∷ []) (Damaged none not_within);
}
  where
    text : List ℕ
    text = prefix.whole.text

    none : NoneBegins f (drop n bytes)
    none c rest = none_after Encoded f bytes n prefix c rest (λ none. none)

    not_within : ¬ (LiesWithin f bytes n)
    not_within (j, c, stands, before, past) =
        let long : length (encoding f text) ≡ n = ap length prefix.whole.reads.1 ∙ length-take-le n bytes prefix.within in
        let there : StandsAt f (encoding f text ++ drop n bytes) j c = subst (λ bs. StandsAt f bs j c) (bytes_are Encoded f bytes n prefix) stands in
        omega (arith, none_crosses_encoding f text (drop n bytes) prefix.whole.reads.0 j c there (omega arith))

-- If an unchanged character crosses an offset, an encoded character crosses it.
crosses_encoded : (window : List ℕ) (i : ℕ) → crosses_at Unchanged window i ≡ true → crosses_at Encoded window i ≡ true
crosses_encoded window i crossed = grind (arith, nat_tests)

-- Bytes whose last character is cut off have no strict reading.
pub none_cut_off : (f : Flavor) (bytes : List ℕ) → crosses_at Unchanged (after_fillers bytes) (length bytes) ≡ true → HasNoStrictReading f bytes
none_cut_off f bytes crossed text reads =
    let whole : AreWhole Encoded f bytes = record { text = text; reads = reads; inside = none_outside _ (λ c none. none) text } in
    true≢false (sym (crosses_encoded (after_fillers bytes) (length bytes) crossed)
    ∙ (whole_follow Encoded f bytes (length bytes) (omega arith) (subst (AreWhole Encoded f) (sym (take-length bytes)) whole)).1)
