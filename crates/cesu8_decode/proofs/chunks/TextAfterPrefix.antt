-- What bytes decode to after an unchanged prefix, for strict decoding (`destinations`) and for its
-- length (`decoded_len`), which go on after the prefix.
use Rattle.std.proofs.Common.{◌≡◌, ℕ, ◌+◌, ◌^◌, ◌<◌, ◌≤◌, ⊎_elim, List, [], ◌∷◌, ◌++◌, refl, sym, ap, ◌∙◌, subst, arith, append_assoc, length, take, drop, length-drop, length-append, Ok, Err, Result, IsErr, Vec, vec_capacity}
use Rattle.std.proofs.lemmas.Bool.{cases_lt, false≢true}
use Rattle.std.proofs.lemmas.Bool.Decides.{nat_tests}
use Rattle.std.proofs.lemmas.List.{drop-drop, length-take-le}
use Rattle.cesu8_text.specs.Utf16.{units_of}
use Rattle.cesu8_text.specs.Encoding.{Flavor, form, encoding, IsEncodedOtherwise}
use Rattle.cesu8_text.specs.Reading.{BeginsWith, IsStrictReading, HasNoStrictReading}
use Rattle.cesu8_text.specs.Text.{IsScalarValue, utf8}
use Rattle.cesu8_text.proofs.encoding.Encodings.{encoding_append}
use Rattle.cesu8_text.proofs.encoding.Lengths.{length_bounds}
use Rattle.cesu8_text.proofs.encoding.Unique.{after_text}
use Rattle.cesu8_text.proofs.reading.Decoding.{IsText_append, utf8_append}
use Rattle.cesu8_text.proofs.reading.KeptTexts.{strict_only}
use Rattle.cesu8_bytes.specs.TextChunks.{IsReadSoFar}
use Rattle.cesu8_bytes.specs.declared.strictness.Strictness.{Strictness}
use Rattle.cesu8_bytes.specs.declared.strictness.Strictness.TheVariants.{Strict}
use Rattle.cesu8_bytes.specs.declared.writing.copies.NoRoom.{NoRoom}
use Rattle.cesu8_decode.specs.declared.error.WriteError.TheVariants as write_error
use Rattle.cesu8_decode.specs.Decoding.{AppendsReading}
use Rattle.cesu8_decode.specs.Following.{Unchanged}
use Rattle.cesu8_decode.specs.DecodedOffsets.{BeginsChanged}
use Rattle.cesu8_decode.specs.Prefixes.{IsLongestPrefix}
use Rattle.cesu8_decode.specs.PutReadings.{PutsReading}
use Rattle.cesu8_decode.proofs.by_offset.IllFormed.{IsChunk}
use Rattle.cesu8_decode.proofs.chunks.ReadChunks.{more_read, chunk_appended}
use Rattle.cesu8_decode.proofs.chunks.SliceReadings.{IsOnlyText, answer_put, room_lacks, no_strict_text}
use Rattle.cesu8_decode.proofs.chunks.UnchangedPrefixes.{unchanged_prefix_chunk, no_strict_reading}

-- ---- what begins bytes

-- A character whose encoding is not its UTF-8 is a surrogate pair, or C0 80 in MUTF-8.
pub otherwise_begins : (f : Flavor) (c : ℕ) (rest : List ℕ) → IsScalarValue c → IsEncodedOtherwise f c → BeginsChanged f (encoding f (c ∷ []) ++ rest)
unfolding encoding form units_of
otherwise_begins f c rest scalar needs = grind (arith, nat_tests)

-- If bytes begin with neither a surrogate pair nor, in MUTF-8, C0 80, no character whose encoding
-- is not its UTF-8 begins them.
none_otherwise : (f : Flavor) (bytes : List ℕ) → ¬ (BeginsChanged f bytes) → (c : ℕ) (rest : List ℕ) → IsEncodedOtherwise f c →
    ¬ (BeginsWith f bytes c rest)
none_otherwise f bytes neither c rest needs begins =
    neither (subst (BeginsChanged f) (sym begins.bytes_are) (otherwise_begins f c rest begins.scalar needs))

-- ---- what is decoded after a chunk of text

module _ (f : Flavor) (bytes rest chunk : List ℕ) (read : IsChunk f Strict bytes rest chunk) where
  -- The text of all bytes is the text so far and then the text of the rest.
  pub only_after : (text : List ℕ) → IsStrictReading f rest text →
      IsOnlyText (IsStrictReading f bytes) (read.text ++ text) (chunk ++ utf8 text)
  only_after text reads =
      let whole : IsStrictReading f bytes (read.text ++ text) = (
        IsText_append read.text text read.scalars reads.0,
        encoding_append f read.text text ∙ ap (λ bs. encoding f read.text ++ bs) reads.1 ∙ sym (read.strict_reading refl),
      ) in
      record {
        reads = whole;
        only = λ other also. strict_only f bytes (read.text ++ text) other whole also;
        utf8_is = utf8_append read.text text ∙ ap (λ bs. bs ++ utf8 text) (sym read.written);
      }

  -- If the rest has no strict reading, all bytes have none.
  pub none_before : HasNoStrictReading f rest → HasNoStrictReading f bytes
  none_before none whole reads =
      let found = after_text f read.text whole rest read.scalars reads.0 (reads.1 ∙ read.strict_reading refl) in
      none found.text found.reading

-- What is decoded so far is a chunk of the bytes.
chunk_of : (f : Flavor) (bytes rest old new : List ℕ) (so_far : IsReadSoFar f Strict bytes rest old new) → IsChunk f Strict bytes rest (utf8 so_far.text)
chunk_of f bytes rest old new so_far = grind arith

-- If there is no strict reading, the error is right: nothing is appended.
pub none_appended : {Z E : Type 0} (f : Flavor) (which : Strictness) (bytes : List ℕ) (before : Vec ℕ Z) (result : Result (Vec ℕ Z) E) → IsErr result →
    (which ≡ Strict) × HasNoStrictReading f bytes → AppendsReading f which bytes before result
none_appended f which bytes before (Ok text) err none = absurd (false≢true err)
none_appended f which bytes before (Err error) err none = record { text = tt; capacity = tt; none = none }

-- If the text of the rest is appended after the text so far, the text of all bytes is appended.
pub appended_after : {Z E : Type 0} (f : Flavor) (bytes rest : List ℕ) (before between : Vec ℕ Z) (result : Result (Vec ℕ Z) E) →
    IsReadSoFar f Strict bytes rest before.items between.items → vec_capacity between ≡ vec_capacity before →
    AppendsReading f Strict rest between result → AppendsReading f Strict bytes before result
appended_after f bytes rest before between (Err error) read same appends = record {
  text = tt;
  capacity = tt;
  none = (refl, none_before f bytes rest _ (chunk_of f bytes rest before.items between.items read) appends.none.1);
}
appended_after f bytes rest before between (Ok text) read same appends = record {
  text = more_read f Strict bytes rest [] before.items between.items text.items read appends.text;
  capacity = appends.capacity ∙ same;
  none = tt;
}

-- The text of bytes that are not empty is not empty, and no longer than the bytes.
record HasLengthOf (rest : List ℕ) (len : ℕ) : Type 0 where
  pub some : 0 < length rest → 0 < len
  pub fits : len ≤ length rest

text_length : (f : Flavor) (rest text : List ℕ) → IsStrictReading f rest text → HasLengthOf rest (length (utf8 text))
text_length f rest text reads =
    let bounds = length_bounds f text reads.0 in
    record { some = λ more. omega (arith, bounds.high, ap length reads.1); fits = omega (arith, bounds.low, ap length reads.1) }

-- ---- what is decoded after a prefix

module _ (f : Flavor) (bytes : List ℕ) (n : ℕ) (prefix : IsLongestPrefix Unchanged f bytes n) where
  -- The unchanged prefix is appended as it is.
  pub prefix_appended : (whole before old new : List ℕ) → IsReadSoFar f Strict whole bytes before old → new ≡ old ++ take n bytes →
      IsReadSoFar f Strict whole (drop n bytes) before new
  prefix_appended whole before old new so_far is =
      more_read f Strict whole bytes (drop n bytes) before old new so_far
      (chunk_appended f Strict bytes (drop n bytes) (take n bytes) old new (unchanged_prefix_chunk f bytes n prefix Strict) is)

  -- If no character that needs conversion follows the unchanged prefix, and bytes are left, there
  -- is no strict reading.
  pub unless_begun : ¬ (BeginsChanged f (drop n bytes)) → n < length bytes → HasNoStrictReading f bytes
  unless_begun neither more = no_strict_reading f bytes n prefix (none_otherwise f (drop n bytes) neither) more

-- ---- what is written after the prefix to a caller's slice

-- If the text of bytes that are not empty is written, the slice is not empty, and the text is no
-- longer than the bytes.
pub written_length : (f : Flavor) (rest old new : List ℕ) (len : ℕ) → PutsReading f Strict rest (Ok len) old new →
    (0 < length rest → 0 < length old) × (len ≤ length rest)
written_length f rest old new len puts = grind (arith, nat_tests, text_length)

-- The length that is needed is also no longer than the bytes, and it is more than the slice has.
pub needed_length : (f : Flavor) (rest old new : List ℕ) (no_room : NoRoom) → PutsReading f Strict rest (Err (write_error.NoRoom no_room)) old new →
    (no_room.needed ≤ length rest) × (length old < no_room.needed)
needed_length f rest old new no_room puts = grind (arith, nat_tests, text_length)

-- `start` is where the text of the rest is written: n, or the end of a slice that is shorter.
module _ (f : Flavor) (bytes buf : List ℕ) (n : ℕ) (prefix : IsLongestPrefix Unchanged f bytes n) (small : length bytes < 2 ^ 64) where
  read : IsChunk f Strict bytes (drop n bytes) (take n bytes)
  read = unchanged_prefix_chunk f bytes n prefix Strict

  -- If the prefix is copied before the text of the rest, the text of all bytes is written. The
  -- first `omega` proves that its length fits `usize`, the second that it fits the slice, and the
  -- third that it has n + len bytes.
  pub prefix_put : (start len : ℕ) (new out : List ℕ) → n ≤ length buf → start ≡ n →
      PutsReading f Strict (drop n bytes) (Ok len) (drop start buf) new → out ≡ take n bytes ++ new → PutsReading f Strict bytes (Ok (n + len)) buf out
  prefix_put start len new out room start_is puts is =
      let found = puts.written in
      let text = found.0 in
      let whole = only_after f bytes (drop n bytes) (take n bytes) read text found.1 in
      let long = length-append (take n bytes) (utf8 text) in
      let before = length-take-le n bytes prefix.within in
      let fits = text_length f (drop n bytes) text found.1 in
      let fit = puts.fits.0 refl in
      answer_put Strict _ _ _ buf whole
      (omega (arith, long, before, fits.fits, length-drop n bytes, small))
      (n + len) out
      (omega (
        arith,
        long,
        before,
        found.2.0,
        fit.2,
        length-drop start buf,
        start_is,
        room,
        ap (λ t. length (utf8 t)) (strict_only f (drop n bytes) text fit.0 found.1 fit.1),
      )) (
        omega (arith, long, before, found.2.0),
        is ∙ ap (λ bs. take n bytes ++ bs) (found.2.1 ∙ ap (λ bs. utf8 text ++ bs) (drop-drop len start buf ∙ ap (λ m. drop (m + len) buf) start_is))
            ∙ sym (append_assoc (take n bytes) (utf8 text) (drop (n + len) buf)),
      )

  -- If the slice is too short for the rest, the length of the prefix is added to the length that is
  -- needed. The second `omega` proves that this is the length of all of the text, and the last two
  -- that the slice is shorter.
  pub prefix_lacks_room : (start : ℕ) (new out : List ℕ) (no_room all : NoRoom) → (n ≤ length buf → start ≡ n) → n < length bytes →
      PutsReading f Strict (drop n bytes) (Err (write_error.NoRoom no_room)) (drop start buf) new → all.needed ≡ n + no_room.needed → out ≡ buf →
      PutsReading f Strict bytes (Err (write_error.NoRoom all)) buf out
  prefix_lacks_room start new out no_room all start_is more puts all_is same =
      let found = puts.needed in
      let text = found.0 in
      let whole = only_after f bytes (drop n bytes) (take n bytes) read text found.1 in
      let long = length-append (take n bytes) (utf8 text) in
      let before = length-take-le n bytes prefix.within in
      let fits = text_length f (drop n bytes) text found.1 in
      let short = needed_length f (drop n bytes) (drop start buf) new no_room puts in
      subst (PutsReading f Strict bytes (Err (write_error.NoRoom all)) buf) (sym same)
      (room_lacks Strict _ _ _ buf whole
      (omega (arith, long, before, fits.fits, length-drop n bytes, small))
      all
      (omega (arith, long, before, found.2, all_is))
      (⊎_elim (λ (less : length buf < n). omega (arith, long, before))
      (λ (room : n ≤ length buf). omega (arith, long, before, found.2, short.1, length-drop start buf, start_is room))
      (cases_lt (length buf) n)))

  -- If the rest has no text, all bytes have none.
  pub prefix_lacks_text : (old new out : List ℕ) → PutsReading f Strict (drop n bytes) (Err write_error.NoText) old new → out ≡ buf →
      PutsReading f Strict bytes (Err write_error.NoText) buf out
  prefix_lacks_text old new out puts same =
      subst (PutsReading f Strict bytes (Err write_error.NoText) buf) (sym same)
      (no_strict_text f Strict bytes buf (refl, none_before f bytes (drop n bytes) (take n bytes) read (puts.invalid.0 tt)))
