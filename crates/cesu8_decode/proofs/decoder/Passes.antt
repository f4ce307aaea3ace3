-- How the pass goes on from one window to the next, for the loops of `pass::windows`, and what one
-- window alone gives, for `pass::short`. What the definitions say of `window_of bytes` at an offset
-- is about the byte of `bytes` there.
use Rattle.std.proofs.Common.{◌≡◌, ℕ, ◌+◌, ◌≤◌, Bool, true, false, true≢false, List, [], ◌++◌, refl, sym, ap, ◌∙◌, subst, arith, length, take, drop, append-nil, append_assoc, length-append, length-drop, take-append-drop, Result, Ok, Err, OkIff}
use Rattle.std.proofs.lemmas.List.{length-take-le}
use Rattle.cesu8_text.specs.Encoding.{Flavor, encoding}
use Rattle.cesu8_text.specs.Text.{IsText}
use Rattle.cesu8_bytes.specs.Pairs.{IsUtf8OfDigits, second_third_fifth_sixth, HasPair}
use Rattle.cesu8_bytes.specs.Puts.{PutsAt, WritesAt}
use Rattle.cesu8_bytes.specs.declared.strictness.Strictness.{Strictness}
use Rattle.cesu8_bytes.specs.declared.strictness.Strictness.TheVariants.{Strict}
use Rattle.cesu8_decode.specs.Decoding.{IsDecoded, WritesDecoded, WritesReading, WritesText, IsPass, GoesOn, most_written}
use Rattle.cesu8_decode.specs.DecodedOffsets.{window_of, decoded, is_boundary_at}
use Rattle.cesu8_decode.specs.Following.{Unchanged}
use Rattle.cesu8_decode.specs.Prefixes.{IsLongestPrefix}
use Rattle.cesu8_decode.specs.declared.pass.windows.Pass.{Pass}
use Rattle.cesu8_decode.proofs.by_offset.WindowOffsets.{Agree}
use Rattle.cesu8_decode.proofs.by_offset.CharacterBoundaries.{boundary_of_zeros}
use Rattle.cesu8_decode.proofs.chunks.DecodedCharacters.{text_fine, boundary_after_text, text_decoded, pair_fine, boundary_after_pair, pair_decoded}
use Rattle.cesu8_decode.proofs.chunks.UnchangedPrefixes.{in_utf8}
use Rattle.cesu8_decode.proofs.decoder.WrittenWindows.{more_decoded, decoded_in, most_of_more, all_decoded, refused_decoded, writes_fine}

-- The state of a pass that has read some bytes and was not stopped.
abbrev pub pass_at : (read end : ℕ) → Pass
pass_at read end = record { read = read; end = end; is_rejected = false }

-- What is written can follow any text.
after_other_text : (f : Flavor) (which : Strictness) (window text old new : List ℕ) (at n : ℕ) (is_rejected : Bool) →
    IsDecoded f which window at n old new is_rejected → IsDecoded f which window at n (text ++ old) (text ++ new) is_rejected
after_other_text f which window text old new at n is_rejected is = record {
  bytes = λ none. ap (λ bs. text ++ bs) (is.bytes none) ∙ sym (append_assoc text old _);
  refused = is.refused;
  lossy = is.lossy;
  strict = is.strict;
}

-- The start of the bytes is a state of the pass.
pub at_start : (f : Flavor) (bytes : List ℕ) → IsPass f bytes 0
at_start f bytes = record { within = omega arith; boundary = boundary_of_zeros f bytes }

module _ (f : Flavor) (which : Strictness) (bytes : List ℕ) where
  -- A state of the pass continues from itself: nothing is read or written.
  pub goes_nowhere : (pass : Pass) (out : List ℕ) → (pass.is_rejected ≡ false → IsPass f bytes pass.read) → pass.read ≤ length bytes →
      pass.is_rejected ≡ false → pass.end ≤ length out → GoesOn f which bytes pass pass out out
  goes_nowhere pass out is within fine inside = record {
    pass = is;
    within = (omega arith, within);
    text = λ start text so_far. subst (IsDecoded f which (window_of bytes) 0 pass.read start (text ++ take pass.end out)) (sym fine) so_far;
    end = omega arith;
    inside = inside;
    len = refl;
  }

  -- If the pass goes on from one state to a second, and from there to a third, it goes on from the
  -- first to the third.
  pub goes_further : (before between after : Pass) (old mid new : List ℕ) → GoesOn f which bytes before between old mid → between.is_rejected ≡ false →
      GoesOn f which bytes between after mid new → GoesOn f which bytes before after old new
  goes_further before between after old mid new first fine next = record {
    pass = next.pass;
    within = (omega (arith, first.within.0, next.within.0), next.within.1);
    text = λ start text so_far. next.text start text
        (subst (IsDecoded f which (window_of bytes) 0 between.read start (text ++ take between.end mid)) fine (first.text start text so_far));
    end = omega (arith, first.end, next.end);
    inside = next.inside;
    len = next.len ∙ first.len;
  }

  -- The pass continues by what is written for n bytes of a window, from its offset p on. The window
  -- agrees with the input from five bytes before these to five bytes after them.
  pub goes_on_by : (before after : Pass) (window old new : List ℕ) (p n : ℕ) → after.read ≡ before.read + n → after.read ≤ length bytes →
      (after.is_rejected ≡ false → IsPass f bytes after.read) → Agree window (window_of bytes) p before.read (n + 10) →
      WritesDecoded f which window p n before.end old new after.end after.is_rejected → after.end ≤ length new →
      GoesOn f which bytes before after old new
  goes_on_by before after window old new p n read_is inside is agree writes fits = record {
    pass = is;
    within = (omega (arith, read_is), inside);
    text = λ start text so_far.
        subst (λ m. IsDecoded f which (window_of bytes) 0 m start (text ++ take after.end new) after.is_rejected) (sym read_is)
        (more_decoded f which (window_of bytes) start (text ++ take before.end old) (text ++ take after.end new) before.read n after.is_rejected so_far
        (after_other_text f which (window_of bytes) text _ _ before.read n after.is_rejected
        (decoded_in f which window (window_of bytes) _ _ p before.read n after.is_rejected agree writes.text)));
    end = omega (arith, writes.end, most_of_more which before.read n, ap (most_written which) read_is);
    inside = fits;
    len = writes.len;
  }

  -- The pass continues by what is written for the next n bytes.
  goes_on_here : (pass : Pass) (n end : ℕ) (is_rejected : Bool) (old new : List ℕ) → pass.read + n ≤ length bytes → is_boundary_at f (window_of bytes) (pass.read + n) ≡ true →
      WritesDecoded f which (window_of bytes) pass.read n pass.end old new end is_rejected → end ≤ length new →
      GoesOn f which bytes pass (record { read = pass.read + n; end = end; is_rejected = is_rejected }) old new
  goes_on_here pass n end is_rejected old new inside boundary writes room =
      goes_on_by pass _ (window_of bytes) old new pass.read n refl inside (λ _. record { within = inside; boundary = boundary }) (λ k small. refl) writes room

  -- A pass goes on by a window of the bytes themselves.
  pub window_goes_on : (before pass : Pass) (old mid new : List ℕ) (n end : ℕ) (is_rejected : Bool) → GoesOn f which bytes before pass old mid →
      pass.is_rejected ≡ false → pass.read + n ≤ length bytes → is_boundary_at f (window_of bytes) (pass.read + n) ≡ true →
      WritesDecoded f which (window_of bytes) pass.read n pass.end mid new end is_rejected → end ≤ length new →
      GoesOn f which bytes before (record { read = pass.read + n; end = end; is_rejected = is_rejected }) old new
  window_goes_on before pass old mid new n end is_rejected so_far fine inside boundary writes room =
      goes_further before pass _ old mid new so_far fine (goes_on_here pass n end is_rejected mid new inside boundary writes room)

  -- A pass that starts with an empty buffer writes the text of the bytes that it reads.
  pub reads_on : (before after : Pass) (old new start text : List ℕ) (is_rejected : Bool) → GoesOn f which bytes before after old new → before.end ≡ 0 →
      after.is_rejected ≡ is_rejected → IsDecoded f which (window_of bytes) 0 before.read start text false →
      IsDecoded f which (window_of bytes) 0 after.read start (text ++ take after.end new) is_rejected
  reads_on before after old new start text is_rejected more empty refused so_far = grind (arith, append-nil)

-- If the text is written (`WritesText`), a result that is `Ok` with its end meets `WritesReading`.
pub reads_text : {E : Type 0} (f : Flavor) (which : Strictness) (bytes old new : List ℕ) (end : ℕ) → WritesText f which bytes end old new →
    (result : Result ℕ E) → OkIff result (which ≡ Strict → false ≡ false) end → WritesReading f which bytes result old new
reads_text f which bytes old new end writes (Ok len) ok = rw ok.1 (record { text = writes.text; end = writes.fits; none = tt; len = writes.len })
reads_text f which bytes old new end writes (Err refusal) refused = absurd (refused (λ _. refl))

-- The text of all bytes is written, or strict decoding rejects one of them.
pub writes_reading : {E : Type 0} (f : Flavor) (which : Strictness) (bytes old new : List ℕ) (n end : ℕ) (is_rejected : Bool) →
    IsDecoded f which (window_of bytes) 0 n [] (take end new) is_rejected → n ≤ length bytes → (is_rejected ≡ false → n ≡ length bytes) →
    end ≤ most_written which n → length new ≡ length old → (result : Result ℕ E) → OkIff result (which ≡ Strict → is_rejected ≡ false) end →
    WritesReading f which bytes result old new
writes_reading f which bytes old new n end true is inside all fits long (Ok len) ok =
    absurd (true≢false (ok.0 (refused_decoded f which bytes [] _ n is inside).0))
writes_reading f which bytes old new n end true is inside all fits long (Err refusal) refused =
    record { text = tt; end = tt; none = refused_decoded f which bytes [] _ n is inside; len = long }
writes_reading f which bytes old new n end false is inside all fits long result ok =
    reads_text f which bytes old new end
    (record { text = all_decoded f which bytes [] _ n is (all refl); fits = omega (arith, fits, ap (most_written which) (all refl)); len = long }) result ok

-- ---- pairs and unchanged characters

-- A surrogate pair at the boundary is read, and its UTF-8 is written.
pub pair_goes_on : (f : Flavor) (which : Strictness) (bytes : List ℕ) (read end new_end : ℕ) → IsPass f bytes read → 6 ≤ length (drop read bytes) →
    HasPair (drop read bytes) → (four old new : List ℕ) → IsUtf8OfDigits (second_third_fifth_sixth (drop read bytes)) four →
    PutsAt four end old new new_end → new_end ≤ length new → GoesOn f which bytes (pass_at read end) (pass_at (read + 6) new_end) old new
pair_goes_on f which bytes read end new_end is long has four old new is_utf8 put fits =
    goes_on_here f which bytes (pass_at read end) 6 new_end false old new (omega (arith, long, length-drop read bytes)) (boundary_after_pair f bytes read is.within is.boundary has long)
    (writes_fine f which (window_of bytes) read 6 end new_end old new
    (subst (λ bs. WritesAt bs end old new new_end) (sym (pair_decoded f bytes read is.within is.boundary has long four is_utf8)) put.writes)
    (λ _. pair_fine f bytes read is.within is.boundary has long)) fits

-- The unchanged prefix of the next k bytes is copied.
pub front_goes_on : (f : Flavor) (which : Strictness) (bytes part : List ℕ) (k read end len new_end : ℕ) → IsPass f bytes read → part ≡ take k (drop read bytes) →
    IsLongestPrefix Unchanged f part len → (old new : List ℕ) → PutsAt (take len part) end old new new_end → new_end ≤ length new →
    GoesOn f which bytes (pass_at read end) (pass_at (read + len) new_end) old new
front_goes_on f which bytes part k read end len new_end is part_is front old new put fits =
    goes_on_here f which bytes (pass_at read end) len new_end false old new inside
    (subst (λ m. is_boundary_at f (window_of bytes) (read + m) ≡ true) long (boundary_after_text f bytes read is.within is.boundary text more is_text rest_is))
    (writes_fine f which (window_of bytes) read len end new_end old new (subst (λ bs. WritesAt bs end old new new_end) (sym decoded_is) put.writes)
    (λ _ i from to. text_fine f bytes read is.within is.boundary text more is_text rest_is i from (omega (arith, to, long)))) fits
  where
    text : List ℕ
    text = front.whole.text

    more : List ℕ
    more = drop len part ++ drop k (drop read bytes)

    is_text : IsText text
    is_text = front.whole.reads.0

    long : length (encoding f text) ≡ len
    long = ap length front.whole.reads.1 ∙ length-take-le len part front.within

    rest_is : drop read bytes ≡ encoding f text ++ more
    rest_is =
        sym (take-append-drop k (drop read bytes)) ∙ ap (λ bs. bs ++ drop k (drop read bytes)) (sym part_is ∙ sym (take-append-drop len part))
        ∙ append_assoc (take len part) (drop len part) (drop k (drop read bytes)) ∙ ap (λ bs. bs ++ more) (sym front.whole.reads.1)

    inside : read + len ≤ length bytes
    inside = omega (arith, is.within, length-drop read bytes, ap length rest_is, length-append (encoding f text) more, long)

    decoded_is : decoded f (window_of bytes) read len ≡ take len part
    decoded_is =
        ap (decoded f (window_of bytes) read) (sym long) ∙ text_decoded f bytes read is.within is.boundary text more is_text rest_is
        ∙ in_utf8 f (take len part) front.whole
