-- What is written for whole characters at a boundary: the UTF-8 of their text. `window_of bytes` is
-- the bytes with five zeros before them. What `decoded`, `is_ill_formed_at` and `is_boundary_at`
-- say of it at offset i is about byte i of the bytes. What `width_at` says is about byte i - 5.
-- `decoder/Passes` cites this for `write_pairs` and `copy_unchanged` of src/pass/windows.rt, which
-- write characters without a window.
use Rattle.std.proofs.Common.{◌≡◌, ℕ, ◌+◌, ◌-◌, ◌<◌, ◌≤◌, true, false, List, [], ◌∷◌, ◌++◌, ⊎_elim, sym, ap, ◌∙◌, subst, arith, append-nil, append_assoc, length, take, drop, length-append, length-drop, take-append-drop}
use Rattle.std.proofs.Math.Seq.{drop-append_seam}
use Rattle.std.proofs.lemmas.Bool.{cases_Bool, cases_lt}
use Rattle.std.proofs.lemmas.List.{append_cancel_right, drop-append-le, drop-drop, length-take-le}
use Rattle.cesu8_text.specs.Text.{IsText, utf8_of, utf8}
use Rattle.cesu8_text.specs.Encoding.{Flavor, encoding}
use Rattle.cesu8_text.specs.Reading.{StandsAt, reading}
use Rattle.cesu8_text.proofs.reading.Decoding.{utf8_append}
use Rattle.cesu8_text.proofs.reading.Stretches.{later}
use Rattle.cesu8_text.proofs.text.Shapes.{shape}
use Rattle.cesu8_bytes.specs.Pairs.{HasPair, IsUtf8OfDigits, second_third_fifth_sixth}
use Rattle.cesu8_bytes.specs.declared.strictness.Strictness.TheVariants.{Lossy}
use Rattle.cesu8_decode.specs.DecodedOffsets.{first_width, window_of, width_at, decoded, is_ill_formed_at}
use Rattle.cesu8_decode.proofs.by_offset.CharacterBoundaries.{boundary_ends, boundary_of_zeros, boundary_where}
use Rattle.cesu8_decode.proofs.by_offset.DecodedText.{decoded_from_boundary}
use Rattle.cesu8_decode.proofs.by_offset.WidthTests.{IsWide, wide}
use Rattle.cesu8_decode.proofs.by_offset.IllFormed.{IsCovered, chunk_of_text, encoding_covered, none_crosses_encoding, not_covered_where}
use Rattle.cesu8_decode.proofs.by_offset.WindowOffsets.{is_boundary_at, follows_zeros, follows_later, width_in, decoded_split}
use Rattle.cesu8_decode.proofs.chunks.Changed.{pair_utf8, pair_width}

-- A character that begins in an encoding also begins there in longer bytes that start with this
-- encoding.
stands_in_more : (f : Flavor) (prefix more : List ℕ) (p c : ℕ) → p ≤ length prefix → StandsAt f prefix p c → StandsAt f (prefix ++ more) p c
stands_in_more f prefix more p c inside (rest, begins) = (rest ++ more, grind (arith, drop-append-le p prefix more inside, begins, append_assoc))

-- The bytes from the boundary `at` on are the encoding of `text`, and then `more`.
module _ (f : Flavor) (bytes : List ℕ) (at : ℕ) (within : at ≤ length bytes) (here : is_boundary_at f (window_of bytes) at ≡ true)
    (text more : List ℕ) (is_text : IsText text) (rest_is : drop at bytes ≡ encoding f text ++ more) where
  abbrev rest : List ℕ
  rest = drop at bytes

  abbrev n : ℕ
  n = length (encoding f text)

  long : at + n + length more ≡ length bytes
  long = omega (arith, within, length-drop at bytes, ap length rest_is, length-append (encoding f text) more)

  -- Each byte of these characters is in a character, so none is ill-formed.
  pub text_fine : (i : ℕ) → at ≤ i → i < at + n → is_ill_formed_at f (window_of bytes) i ≡ false
  text_fine i low inside =
      ⊎_elim (λ (ill_formed : is_ill_formed_at f (window_of bytes) i ≡ true).
      absurd (not_covered_where f (window_of bytes) bytes (follows_zeros bytes) (boundary_of_zeros f bytes) i (omega (arith, inside, long)) ill_formed there)) (λ fine. fine)
      (cases_Bool (is_ill_formed_at f (window_of bytes) i))
    where
      covered : IsCovered f (encoding f text) (i - at)
      covered = encoding_covered f text (i - at) is_text (omega (arith, low, inside))

      stands : StandsAt f (encoding f text ++ more) covered.offset covered.character
      stands = stands_in_more f (encoding f text) more covered.offset covered.character (omega (arith, covered.begun, low, inside)) covered.stands

      bytes_are : take at bytes ++ (encoding f text ++ more) ≡ bytes
      bytes_are = ap (λ bs. take at bytes ++ bs) (sym rest_is) ∙ take-append-drop at bytes

      place : length (take at bytes) + covered.offset ≡ at + covered.offset
      place = ap (λ k. k + covered.offset) (length-take-le at bytes within)

      there : IsCovered f bytes i
      there = record {
        offset = at + covered.offset;
        character = covered.character;
        stands = subst (λ p. StandsAt f bytes p covered.character) place
            (subst (λ bs. StandsAt f bs (length (take at bytes) + covered.offset) covered.character) bytes_are
            (later f (take at bytes) (encoding f text ++ more) covered.offset covered.character stands));
        begun = omega (arith, covered.begun, low);
        ends = omega (arith, covered.ends, low);
      }

  -- No character crosses the end of these characters. One that begins before `at` ends there or
  -- earlier, and one that begins after it ends with the text or earlier (`from_here`).
  pub boundary_after_text : is_boundary_at f (window_of bytes) (at + n) ≡ true
  boundary_after_text = boundary_where f (window_of bytes) (at + n) ends
    where
      w : ℕ → ℕ
      w = width_at f (window_of bytes)

      by_character : (s p : ℕ) → s < 5 → p + 5 ≡ n + s → 0 < first_width f (drop p rest) → first_width f (drop p rest) + s ≤ 5
      by_character s p small place begun =
          let found = wide f (drop p rest) begun in
          let stands : StandsAt f (encoding f text ++ more) p found.character =
          subst (λ bs. StandsAt f bs p found.character) rest_is (_, found.begins) in
          omega (arith, place, found.wide, none_crosses_encoding f text more is_text p found.character stands (omega arith))

      from_here : (s : ℕ) → s < 5 → 5 ≤ n + s → w (at + n + s) + s ≤ 5
      from_here s small far =
          let p = n + s - 5 in
          let place : p + (at + 5) ≡ at + n + s = omega arith in
          let wide_there = width_in f (window_of bytes) rest (at + 5) p (follows_later (window_of bytes) bytes 5 at (follows_zeros bytes))
          (omega (arith, small, far, long, length-drop at bytes)) in
          ⊎_elim (λ (begun : 0 < first_width f (drop p rest)). omega (arith, by_character s p small (omega arith) begun, wide_there, ap w place))
          (λ (none : first_width f (drop p rest) ≤ 0). omega (arith, none, small, wide_there, ap w place))
          (cases_lt 0 (first_width f (drop p rest)))

      ends : (s : ℕ) → s < 5 → w (at + n + s) + s ≤ 5
      ends s small =
          ⊎_elim (λ (early : n + s < 5).
          let place : at + (n + s) ≡ at + n + s = omega arith in
          omega (arith, boundary_ends f (window_of bytes) at here (n + s) early, ap w place))
          (from_here s small)
          (cases_lt (n + s) 5)

  -- What is written for these characters is the UTF-8 of their text.
  pub text_decoded : decoded f (window_of bytes) at n ≡ utf8 text
  text_decoded =
      let window = window_of bytes in
      let back = drop (at + n) bytes in
      let after : back ≡ more = sym (drop-drop n at bytes) ∙ ap (drop n) rest_is ∙ drop-append_seam (encoding f text) more in
      let read = chunk_of_text f Lossy rest text more is_text rest_is in
      let all : n + length back ≡ length rest = omega (arith, length-drop at bytes, length-drop (at + n) bytes, long) in
      append_cancel_right (decoded f window at n) (utf8 text) (utf8 (reading f back))
      (ap (λ bs. decoded f window at n ++ bs) (sym (decoded_from_boundary f window back (at + n) (follows_later window bytes 5 (at + n) (follows_zeros bytes)) boundary_after_text))
      ∙ sym (decoded_split f window at n (length back))
      ∙ ap (decoded f window at) all
      ∙ decoded_from_boundary f window rest at (follows_later window bytes 5 at (follows_zeros bytes)) here
      ∙ ap utf8 read.lossy_reading ∙ utf8_append read.text (reading f more)
      ∙ ap (λ bs. bs ++ utf8 (reading f more)) (sym read.written)
      ∙ ap (λ bs. utf8 text ++ utf8 (reading f bs)) (sym after))

-- A surrogate pair is one character.
module _ (f : Flavor) (bytes : List ℕ) (at : ℕ) (within : at ≤ length bytes) (here : is_boundary_at f (window_of bytes) at ≡ true)
    (has : HasPair (drop at bytes)) (long : 6 ≤ length (drop at bytes)) where
  six : first_width f (drop at bytes) ≡ 6
  six = pair_width f (drop at bytes) long has

  found : IsWide f (drop at bytes)
  found = wide f (drop at bytes) (omega (arith, six))

  abbrev text : List ℕ
  text = found.character ∷ []

  size : length (encoding f text) ≡ 6
  size = sym found.wide ∙ six

  -- None of its bytes is ill-formed.
  pub pair_fine : (i : ℕ) → at ≤ i → i < at + 6 → is_ill_formed_at f (window_of bytes) i ≡ false
  pair_fine i low inside =
      text_fine f bytes at within here text _ (found.begins.scalar, tt) found.begins.bytes_are i low (omega (arith, inside, size))

  -- No character crosses its end.
  pub boundary_after_pair : is_boundary_at f (window_of bytes) (at + 6) ≡ true
  boundary_after_pair =
      subst (λ m. is_boundary_at f (window_of bytes) (at + m) ≡ true) size
      (boundary_after_text f bytes at within here text _ (found.begins.scalar, tt) found.begins.bytes_are)

  -- What is written for it is its UTF-8.
  pub pair_decoded : (four : List ℕ) → IsUtf8OfDigits (second_third_fifth_sixth (drop at bytes)) four → decoded f (window_of bytes) at 6 ≡ four
  pair_decoded four is_utf8 =
      ap (decoded f (window_of bytes) at) (sym size)
      ∙ text_decoded f bytes at within here text _ (found.begins.scalar, tt) found.begins.bytes_are
      ∙ append-nil (utf8_of found.character)
      ∙ sym (pair_utf8 f (drop at bytes) four found.character _ found.begins size (shape found.character found.begins.scalar) is_utf8)
