-- The valid prefix ends at the first ill-formed byte. The unchanged prefix ends at the first byte
-- that is ill-formed, or at which a character that needs conversion begins. `MaskPrefixes` finds
-- these bytes by the masks of a window.
use Rattle.std.proofs.Common.{◌≡◌, ℕ, ◌+◌, ◌-◌, ◌<◌, ◌≤◌, ◌⊎◌, inl, inr, ⊎_elim, true, false, true≢false, ◌||◌, eqb, List, [], ◌∷◌, ◌++◌, refl, sym, ap, ◌∙◌, subst, arith, append_assoc, length, take, drop, get_or, get_or-drop, add-zero, length-append, length-drop, take-append-drop}
use Rattle.std.proofs.Math.Seq.{take-add}
use Rattle.std.proofs.lemmas.Bool.{cases_lt}
use Rattle.std.proofs.lemmas.Bool.Decides.{nat_tests}
use Rattle.std.proofs.lemmas.List.{length-take-le}
use Rattle.std.specs.List.{Any}
use Rattle.cesu8_text.specs.Encoding.{Flavor, encoding, IsEncodedOtherwise}
use Rattle.cesu8_text.specs.Laws.{NoneCrosses}
use Rattle.cesu8_text.specs.Reading.{BeginsWith, NoneBegins, StandsAt, width, reading, IsStrictReading}
use Rattle.cesu8_text.specs.Text.{IsText}
use Rattle.cesu8_text.proofs.lists.Elements.{any_nil, any_here, any_right, any_cons}
use Rattle.cesu8_text.proofs.encoding.Encodings.{encoding_nil, encoding_cons, encoding_append}
use Rattle.cesu8_text.proofs.encoding.Lengths.{change, length_of_character}
use Rattle.cesu8_text.proofs.encoding.Unique.{after_text, same_character}
use Rattle.cesu8_text.proofs.reading.Decoding.{IsText_append}
use Rattle.cesu8_text.proofs.reading.KeptTexts.{strict_only}
use Rattle.cesu8_text.proofs.reading.Stretches.{later}
use Rattle.cesu8_bytes.specs.Pairs.{null_at}
use Rattle.cesu8_decode.specs.DecodedOffsets.{BeginsChanged, first_width, first_width_by, window_of, width_at, is_ill_formed_at}
use Rattle.cesu8_decode.specs.Following.{CharacterSet, Encoded, Unchanged}
use Rattle.cesu8_decode.specs.Prefixes.{AreWhole, IsLongestPrefix, IsOutside, is_changed_at}
use Rattle.cesu8_decode.specs.Masks.{is_null_at}
use Rattle.cesu8_decode.proofs.by_offset.CharacterBoundaries.{boundary_of_zeros, width_of_standing, ends_before}
use Rattle.cesu8_decode.proofs.by_offset.WidthTests.{width_of_first, pair_by_prefix}
use Rattle.cesu8_decode.proofs.by_offset.IllFormed.{IsCovered, not_covered_where, read_before}
use Rattle.cesu8_decode.proofs.by_offset.WindowOffsets.{width_there, follows_zeros}
use Rattle.cesu8_decode.proofs.chunks.Changed.{null_begins, pair_width}
use Rattle.cesu8_decode.proofs.chunks.Utf8Parts.{at_most_four}
use Rattle.cesu8_decode.proofs.chunks.TextAfterPrefix.{otherwise_begins}
use Rattle.cesu8_decode.proofs.chunks.WholeBytes.{none_outside}

-- ---- a prefix of whole characters

module _ (s : CharacterSet) (f : Flavor) (bytes : List ℕ) (n : ℕ) (whole : AreWhole s f (take n bytes)) where
  -- The first character of the text of k more bytes is in the set, and begins right after the
  -- prefix.
  begins_after : (k : ℕ) (text : List ℕ) → 0 < k → k ≤ length (drop n bytes) → IsText text → encoding f text ≡ take k (drop n bytes) →
      ¬ (Any (IsOutside s f) text) → (c : ℕ) × (rest : List ℕ) × (¬ (IsOutside s f c)) × BeginsWith f (drop n bytes) c rest
  begins_after k [] some fits is_text reads inside =
      absurd (omega (arith, some, ap length (sym (encoding_nil f) ∙ reads), length-take-le k (drop n bytes) fits))
  begins_after k (c ∷ text) some fits is_text reads inside = (
    c,
    encoding f text ++ drop k (drop n bytes),
    λ outside. inside (any_here (IsOutside s f) c text outside),
    grind (arith, reads, encoding_cons f c text, append_assoc, take-append-drop k (drop n bytes)),
  )

  -- If no character of the set begins right after the prefix, no longer prefix is whole characters
  -- of the set.
  pub greatest_prefix : ((c : ℕ) (rest : List ℕ) → ¬ (IsOutside s f c) → ¬ (BeginsWith f (drop n bytes) c rest)) →
      (m : ℕ) → n < m → m ≤ length bytes → ¬ (AreWhole s f (take m bytes))
  greatest_prefix none m past within other =
      let k = m - n in
      let all : n + k ≡ m = omega arith in
      let parts : take m bytes ≡ take n bytes ++ take k (drop n bytes) = ap (λ i. take i bytes) (sym all) ∙ take-add n k bytes in
      let found = after_text f whole.text other.text (take k (drop n bytes)) whole.reads.0 other.reads.0
      (other.reads.1 ∙ parts ∙ ap (λ bs. bs ++ take k (drop n bytes)) (sym whole.reads.1)) in
      let joined : IsStrictReading f (take m bytes) (whole.text ++ found.text) = (
        IsText_append whole.text found.text whole.reads.0 found.reading.0,
        encoding_append f whole.text found.text ∙ (λ i. whole.reads.1 i ++ found.reading.1 i) ∙ sym parts,
      ) in
      let text_is = strict_only f (take m bytes) (whole.text ++ found.text) other.text joined other.reads in
      let first = begins_after k found.text (omega arith) (omega (arith, length-drop n bytes)) found.reading.0 found.reading.1
      (λ any. other.inside (subst (Any (IsOutside s f)) (sym text_is) (any_right (IsOutside s f) whole.text found.text any))) in
      none first.0 first.1 first.2 first.3

-- ---- up to an offset that no character crosses

-- What `is_ill_formed_at` says of a window at offset n is about its byte n + 5. `window_of` puts
-- five zeros before the bytes, so here it is about byte n of the bytes.
module _ (f : Flavor) (bytes : List ℕ) (n : ℕ) (fits : n ≤ length bytes) where
  -- No character covers an ill-formed byte.
  pub none_covers : n < length bytes → is_ill_formed_at f (window_of bytes) n ≡ true → IsCovered f bytes n → ⊥
  none_covers = not_covered_where f (window_of bytes) bytes (follows_zeros bytes) (boundary_of_zeros f bytes) n

  -- No character begins at an ill-formed byte.
  none_at : n < length bytes → is_ill_formed_at f (window_of bytes) n ≡ true → NoneBegins f (drop n bytes)
  none_at inside ill_formed c rest begins =
      none_covers inside ill_formed (record {
        offset = n;
        character = c;
        stands = (rest, begins);
        begun = omega arith;
        ends = omega (arith, (length_of_character f c begins.scalar).some, (length_of_character f c begins.scalar).fits);
      })

  -- No character crosses the end of all bytes, the offset of an ill-formed byte, or an offset at
  -- which a character begins.
  none_crosses : (n < length bytes → (is_ill_formed_at f (window_of bytes) n ≡ true) ⊎ (0 < width_at f bytes n)) →
      NoneCrosses f (take n bytes) (drop n bytes)
  none_crosses stop i c stands before =
      let long = length-take-le n bytes fits in
      let there : StandsAt f bytes i c = subst (λ bs. StandsAt f bs i c) (take-append-drop n bytes) stands in
      let within : i + width f c ≤ length bytes = omega (arith, before, long, fits, ap length there.1.bytes_are, length-drop i bytes, length-append (encoding f (c ∷ [])) there.0) in
      let wide = width_of_standing f (window_of bytes) bytes i c (follows_zeros bytes) (omega (arith, before, long, fits)) there in
      ⊎_elim (λ (past : n < i + width f c).
      let inside : n < length bytes = omega (arith, past, within) in
      absurd (⊎_elim (λ ill_formed.
      none_covers inside ill_formed (record { offset = i; character = c; stands = there; begun = omega (arith, before, long); ends = past }))
      (λ some. omega (
        arith,
        past,
        wide,
        ends_before f (window_of bytes) bytes i n (follows_zeros bytes) (omega (arith, before, long)) inside (omega (arith, some, width_there f bytes n)),
      ))
      (stop inside)))
      (λ (ends : i + width f c ≤ n). omega (arith, ends, long)) (cases_lt n (i + width f c))

-- ---- characters that need conversion

module _ (f : Flavor) (bytes : List ℕ) (i c : ℕ) (rest : List ℕ) (begins : BeginsWith f (drop i bytes) c rest) where
  width_here : first_width f (drop i bytes) ≡ width f c
  width_here = width_of_first f (drop i bytes) c rest begins

  wide_here : width_at f bytes i ≡ width f c
  wide_here =
      let long = length_of_character f c begins.scalar in
      let inside : i < length bytes = omega (arith, long.some, long.fits, ap length begins.bytes_are, length-drop i bytes, length-append (encoding f (c ∷ [])) rest) in
      sym (width_there f bytes i) ∙ width_of_standing f (window_of bytes) bytes i c (follows_zeros bytes) inside (rest, begins)

  -- The bytes from offset i on begin with C0 80 exactly if bytes i and i + 1 are C0 80.
  null_here : null_at f (get_or (drop i bytes) 0 0) (get_or (drop i bytes) 1 0) ≡ is_null_at f bytes i
  null_here =
      let first = get_or-drop i bytes 0 0 ∙ ap (λ k. get_or bytes k 0) (add-zero i) in
      λ k. null_at f (first k) (get_or-drop i bytes 1 0 k)

  -- A character whose encoding is not its UTF-8 is marked by `is_changed_at`.
  pub otherwise_marked : IsEncodedOtherwise f c → is_changed_at f bytes i ≡ true
  otherwise_marked needs =
      by_form (subst (BeginsChanged f) (sym begins.bytes_are) (otherwise_begins f c rest begins.scalar needs))
    where
      by_form : BeginsChanged f (drop i bytes) → is_changed_at f bytes i ≡ true
      by_form (inl has) =
          let seen = pair_by_prefix (drop i bytes) (drop i bytes) (λ k small. refl) has in
          let six : width_at f bytes i ≡ 6 = wide_here ∙ sym width_here ∙ pair_width f (drop i bytes) seen.0 seen.1 in
          ap (λ w. eqb w 6 || is_null_at f bytes i) six
      by_form (inr null) = let here = sym null_here ∙ null in grind (arith, here, nat_tests)

  -- A character that is marked has an encoding that is not its UTF-8.
  pub marked_otherwise : is_changed_at f bytes i ≡ true → IsEncodedOtherwise f c
  marked_otherwise is_changed = ⊎_elim by_width by_null (grind (arith, is_changed, nat_tests))
    where
      by_width : width_at f bytes i ≡ 6 → IsEncodedOtherwise f c
      by_width six = grind (arith, change f c begins.scalar, at_most_four c, wide_here)

      by_null : is_null_at f bytes i ≡ true → IsEncodedOtherwise f c
      by_null null =
          let zero = (same_character f (drop i bytes) 0 c _ rest (null_begins f (drop i bytes) (null_here ∙ null)) begins).0 in
          subst (IsEncodedOtherwise f) zero (grind arith)

-- At an offset that is marked a character begins.
changed_wide : (f : Flavor) (bytes : List ℕ) (i : ℕ) → is_changed_at f bytes i ≡ true → 0 < width_at f bytes i
unfolding first_width_by
changed_wide f bytes i changed = grind (arith, changed, nat_tests)

-- In the encoding of a text with a character that needs conversion, such a character begins at some
-- offset.
otherwise_stands : (f : Flavor) (text rest : List ℕ) → IsText text → Any (IsEncodedOtherwise f) text →
    (i : ℕ) × (c : ℕ) × StandsAt f (encoding f text ++ rest) i c × (i < length (encoding f text)) × IsEncodedOtherwise f c
otherwise_stands f [] rest is_text any = absurd (any_nil (IsEncodedOtherwise f) any)
otherwise_stands f (c ∷ text) rest is_text any =
    let character = encoding f (c ∷ []) in
    let parts : encoding f (c ∷ text) ++ rest ≡ character ++ (encoding f text ++ rest) =
    ap (λ bs. bs ++ rest) (encoding_cons f c text) ∙ append_assoc character (encoding f text) rest in
    let long = ap length (encoding_cons f c text) ∙ length-append character (encoding f text) in
    let some = length_of_character f c is_text.0 in
    ⊎_elim (λ (here : IsEncodedOtherwise f c).
    (0, c, (encoding f text ++ rest, record { scalar = is_text.0; bytes_are = parts }), omega (arith, long, some.some, some.fits), here))
    (λ (there : Any (IsEncodedOtherwise f) text).
    let found = otherwise_stands f text rest is_text.1 there in (
      width f c + found.0,
      found.1,
      subst (λ bs. StandsAt f bs (width f c + found.0) found.1) (sym parts) (later f character (encoding f text ++ rest) found.0 found.1 found.2),
      omega (arith, long, found.3),
      found.4,
    ))
    (any_cons (IsEncodedOtherwise f) c text any)

-- ---- the prefixes

module _ (f : Flavor) (bytes : List ℕ) (n : ℕ) (fits : n ≤ length bytes)
    (fine : (i : ℕ) → i < n → is_ill_formed_at f (window_of bytes) i ≡ false) where
  reads_before : NoneCrosses f (take n bytes) (drop n bytes) → IsStrictReading f (take n bytes) (reading f (take n bytes))
  reads_before crosses = read_before f (window_of bytes) bytes (follows_zeros bytes) (boundary_of_zeros f bytes) n fits crosses fine

  -- The valid prefix ends at an ill-formed byte, or at the end of the bytes.
  pub valid_prefix : (n < length bytes → is_ill_formed_at f (window_of bytes) n ≡ true) → IsLongestPrefix Encoded f bytes n
  valid_prefix stop = record {
    within = fits;
    whole = whole;
    greatest = λ m past within other. greatest_prefix Encoded f bytes n whole (λ c rest _. none_at f bytes n fits (omega arith) (stop (omega arith)) c rest) m past within other;
  }
    where
      whole : AreWhole Encoded f (take n bytes)
      whole = record {
        text = reading f (take n bytes);
        reads = reads_before (none_crosses f bytes n fits (λ more. inl (stop more)));
        inside = none_outside _ (λ c none. none) (reading f (take n bytes));
      }

  -- The unchanged prefix ends at an ill-formed byte, before a character that needs conversion, or
  -- at the end of the bytes.
  pub unchanged_prefix : ((i : ℕ) → i < n → is_changed_at f bytes i ≡ false) →
      (n < length bytes → (is_ill_formed_at f (window_of bytes) n ≡ true) ⊎ (is_changed_at f bytes n ≡ true)) → IsLongestPrefix Unchanged f bytes n
  unchanged_prefix usual stop = record {
    within = fits;
    whole = whole;
    greatest = λ m past within other. greatest_prefix Unchanged f bytes n whole (none_follows (omega arith)) m past within other;
  }
    where
      reads : IsStrictReading f (take n bytes) (reading f (take n bytes))
      reads = reads_before (none_crosses f bytes n fits (λ more. ⊎_elim inl (λ changed. inr (changed_wide f bytes n changed)) (stop more)))

      none_otherwise : ¬ (Any (IsEncodedOtherwise f) (reading f (take n bytes)))
      none_otherwise any =
          let found = otherwise_stands f (reading f (take n bytes)) (drop n bytes) reads.0 any in
          let there = subst (λ bs. StandsAt f bs found.0 found.1) (ap (λ bs. bs ++ drop n bytes) reads.1 ∙ take-append-drop n bytes) found.2 in
          true≢false (sym (otherwise_marked f bytes found.0 found.1 there.0 there.1 found.4)
          ∙ usual found.0 (omega (arith, found.3, ap length reads.1, length-take-le n bytes fits)))

      whole : AreWhole Unchanged f (take n bytes)
      whole = record { text = reading f (take n bytes); reads = reads; inside = none_otherwise }

      none_follows : n < length bytes → (c : ℕ) (rest : List ℕ) → ¬ (IsEncodedOtherwise f c) → ¬ (BeginsWith f (drop n bytes) c rest)
      none_follows more c rest inside begins =
          ⊎_elim (λ ill_formed. none_at f bytes n fits more ill_formed c rest begins)
          (λ changed. inside (marked_otherwise f bytes n c rest begins changed)) (stop more)
