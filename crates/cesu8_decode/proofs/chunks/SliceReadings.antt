-- What a call that writes a text to a caller's slice can promise.
use Rattle.std.proofs.lemmas.Bool.Decides.{nat_tests}
use Rattle.std.proofs.Common.{[], ◌≡◌, ℕ, ◌^◌, ◌<◌, ◌≤◌, ◌↔◌, List, refl, sym, ap, ◌∙◌, subst, arith, length, Result, Ok, Err, MatchResult, IsErr, IsErrAnd}
use Rattle.std.specs.Str.{chars}
use Rattle.cesu8_text.specs.Text.{utf8}
use Rattle.cesu8_text.specs.Encoding.{Flavor}
use Rattle.cesu8_text.specs.Kept.{KnowsTexts}
use Rattle.cesu8_text.specs.Reading.{IsStrictReading, HasNoStrictReading, reading, lossy_length}
use Rattle.cesu8_bytes.specs.declared.strictness.Strictness.{Strictness}
use Rattle.cesu8_bytes.specs.declared.strictness.Strictness.TheVariants.{Strict, Lossy}
use Rattle.cesu8_text.specs.Slices.{StandsAtFront, ReadsAtLength}
use Rattle.cesu8_bytes.specs.Puts.{PutsAnswer}
use Rattle.cesu8_decode.specs.PutReadings.{PutsText, ReadsAs, IsReadingOf}
use Rattle.cesu8_decode.specs.declared.error.WriteError.{WriteError}
use Rattle.cesu8_decode.specs.declared.error.WriteError.TheVariants as write_error
use Rattle.cesu8_bytes.specs.declared.writing.copies.NoRoom.{NoRoom}
use Rattle.cesu8_text.proofs.StdUtf8.{IsUtf8Of_chars}
use Rattle.cesu8_text.proofs.encoding.Lengths.{length_bounds}
use Rattle.cesu8_text.proofs.reading.KeptTexts.{strict_only}
use Rattle.cesu8_decode.proofs.by_offset.IllFormed.{IsChunk}
use Rattle.cesu8_decode.proofs.chunks.ReadChunks.{IsDecodedText, chunk_utf8, whole_text}

-- ---- the only text

-- The bytes have this text and no other, and the answer is its UTF-8.
pub record IsOnlyText (IsReading : List ℕ → Type 0) (text answer : List ℕ) : Type 0 where
  pub reads : IsReading text
  pub only : (other : List ℕ) → IsReading other → other ≡ text
  pub utf8_is : utf8 text ≡ answer

-- What is known of the length of the answer is known of the length of the text.
pub of_length : (IsReading : List ℕ → Type 0) (F : ℕ → Type 0) (text answer : List ℕ) → IsOnlyText IsReading text answer →
    F (length answer) → ReadsAtLength IsReading F
of_length IsReading F text answer is holds = (text, is.reads, subst (λ t. F (length t)) (sym is.utf8_is) holds)

-- The strict reading is the only text.
pub only_strict : (f : Flavor) (bytes text : List ℕ) → IsStrictReading f bytes text → IsOnlyText (IsStrictReading f bytes) text (utf8 text)
only_strict f bytes text reads = record {
  reads = reads;
  only = λ other also. strict_only f bytes text other reads also;
  utf8_is = refl;
}

-- The text of decoded bytes, or of a chunk that is all of them, is the only text.
only_decoded : (f : Flavor) (which : Strictness) (bytes text : List ℕ) → IsDecodedText f which bytes text →
    IsOnlyText (IsReadingOf f which bytes) text (utf8 text)
only_decoded f Strict bytes text is = only_strict f bytes text (is.0, is.2 refl)
only_decoded f Lossy bytes text is = record { reads = is.1; only = λ other same. same ∙ sym is.1; utf8_is = refl }

only_chunk : (f : Flavor) (which : Strictness) (bytes chunk : List ℕ) → IsChunk f which bytes [] chunk →
    IsOnlyText (IsReadingOf f which bytes) (chars chunk) chunk
only_chunk f which bytes chunk is_chunk =
    subst (IsOnlyText (IsReadingOf f which bytes) (chars chunk)) (IsUtf8Of_chars chunk (chunk_utf8 f which bytes [] chunk is_chunk)).1
    (only_decoded f which bytes (chars chunk) (whole_text f which bytes chunk is_chunk))

-- The strict reading is no longer than the bytes.
pub strict_no_longer : (f : Flavor) (bytes : List ℕ) → IsStrictReading f bytes (reading f bytes) → lossy_length f bytes ≤ length bytes
unfolding lossy_length
strict_no_longer f bytes reads = omega (arith, (length_bounds f (reading f bytes) reads.0).low, ap length reads.1)

-- If strict decoding rejects no byte, the lossy reading is the only text.
pub only_reading : (f : Flavor) (which : Strictness) (bytes : List ℕ) → (which ≡ Strict → IsStrictReading f bytes (reading f bytes)) →
    IsOnlyText (IsReadingOf f which bytes) (reading f bytes) (utf8 (reading f bytes))
only_reading f Strict bytes whole = only_strict f bytes (reading f bytes) (whole refl)
only_reading f Lossy bytes whole = record { reads = refl; only = λ other same. same; utf8_is = refl }

-- If a call returns its input unchanged, the characters of the input are the only text.
module _ (f : Flavor) (bytes : List ℕ) (keeps : Type 0) (reads reads_lossily : List ℕ → Type 0) (known : KnowsTexts f bytes keeps reads reads_lossily) where
  pub only_kept : (which : Strictness) → keeps → IsOnlyText (ReadsAs which reads reads_lossily) (chars bytes) bytes
  only_kept which kept = grind (arith, IsUtf8Of_chars)

-- ---- the text is written or not

-- If strict decoding finds that the input has no text, `NoText` is the right error.
pub no_strict_text : (f : Flavor) (which : Strictness) (bytes buf : List ℕ) → (which ≡ Strict) × HasNoStrictReading f bytes →
    PutsText which (IsReadingOf f which bytes) (Err write_error.NoText) buf buf
no_strict_text f which bytes buf none = grind (arith, nat_tests)

module _ (which : Strictness) (IsReading : List ℕ → Type 0) (text answer buf : List ℕ) (is : IsOnlyText IsReading text answer) (small : length answer < 2 ^ 64) where
  -- The answer is written to a slice that is long enough.
  pub answer_put : (len : ℕ) (new : List ℕ) → length answer ≤ length buf → StandsAtFront answer len buf new → PutsText which IsReading (Ok len) buf new
  answer_put len new room stands = grind (arith, nat_tests)

  -- The length of the answer is returned if the slice is too short.
  pub room_lacks : (no_room : NoRoom) → no_room.needed ≡ length answer → length buf < length answer →
      PutsText which IsReading (Err (write_error.NoRoom no_room)) buf buf
  room_lacks no_room needed short = grind (arith, nat_tests)

-- If the length of the answer does not fit `usize`, the answer fits no slice.
length_exceeds : (IsReading : List ℕ → Type 0) (text answer buf : List ℕ) → IsOnlyText IsReading text answer → length buf < 2 ^ 64 →
    2 ^ 64 ≤ length answer → PutsText Lossy IsReading (Err write_error.TooLong) buf buf
length_exceeds IsReading text answer buf is small long = grind (arith, nat_tests)

-- A copy of the answer to the slice keeps the promise: it succeeds, or reports that the slice is
-- too short.
text_put : (which : Strictness) (IsReading : List ℕ → Type 0) (text answer : List ℕ) (r : Result ℕ NoRoom) (returned : Result ℕ WriteError) (old new : List ℕ) →
    IsOnlyText IsReading text answer → length answer < 2 ^ 64 →
    MatchResult r (λ len. returned ≡ Ok len) (λ fault. IsErrAnd returned (λ d. d ≡ write_error.NoRoom fault)) →
    PutsAnswer answer r old new → PutsText which IsReading returned old new
text_put which IsReading text answer r returned old new is small returned_is puts = grind (arith, nat_tests)

-- If a call returns its input unchanged, a copy of it to the slice keeps the promise.
pub kept_put : (f : Flavor) (bytes : List ℕ) (keeps : Type 0) (reads reads_lossily : List ℕ → Type 0) → KnowsTexts f bytes keeps reads reads_lossily →
    (which : Strictness) → keeps → (r : Result ℕ NoRoom) (returned : Result ℕ WriteError) (old new : List ℕ) → length bytes < 2 ^ 64 →
    MatchResult r (λ len. returned ≡ Ok len) (λ fault. IsErrAnd returned (λ d. d ≡ write_error.NoRoom fault)) →
    PutsAnswer bytes r old new → PutsText which (ReadsAs which reads reads_lossily) returned old new
kept_put f bytes keeps reads reads_lossily known which kept r returned old new small returned_is puts =
    text_put which (ReadsAs which reads reads_lossily) (chars bytes) bytes r returned old new
    (only_kept f bytes keeps reads reads_lossily known which kept) small returned_is puts

-- If the input was decoded to the end, a copy of the text to the slice keeps the promise.
pub decoded_put : (f : Flavor) (which : Strictness) (bytes answer : List ℕ) (r : Result ℕ NoRoom) (returned : Result ℕ WriteError) (old new : List ℕ) →
    IsChunk f which bytes [] answer → length answer < 2 ^ 64 →
    MatchResult r (λ len. returned ≡ Ok len) (λ fault. IsErrAnd returned (λ d. d ≡ write_error.NoRoom fault)) →
    PutsAnswer answer r old new → PutsText which (IsReadingOf f which bytes) returned old new
decoded_put f which bytes answer r returned old new read small returned_is puts =
    text_put which (IsReadingOf f which bytes) (chars answer) answer r returned old new (only_chunk f which bytes answer read) small returned_is puts

-- If the length does not fit `usize`, the text fits no slice.
pub length_lacks : (f : Flavor) (which : Strictness) (bytes buf : List ℕ) → (which ≡ Strict → IsStrictReading f bytes (reading f bytes)) →
    length bytes < 2 ^ 64 → length buf < 2 ^ 64 → 2 ^ 64 ≤ lossy_length f bytes → PutsText which (IsReadingOf f which bytes) (Err write_error.TooLong) buf buf
unfolding lossy_length
length_lacks f Strict bytes buf whole few small long = absurd (omega (arith, strict_no_longer f bytes (whole refl), few, long))
length_lacks f Lossy bytes buf whole few small long = length_exceeds _ _ _ buf (only_reading f Lossy bytes whole) small long

-- What is promised for one set of texts is promised for an equal one.
pub same_reading : (P Q : List ℕ → Type 0) → ((text : List ℕ) → Q text ↔ P text) → (which : Strictness) (r : Result ℕ WriteError) (old new : List ℕ) →
    PutsText which P r old new → PutsText which Q r old new
same_reading P Q same which r old new puts = grind (arith, nat_tests)

-- The error that `?` passes on keeps its promise.
pub same_fault : (P Q : List ℕ → Type 0) → ((text : List ℕ) → Q text ↔ P text) → (which : Strictness) (fault : WriteError) (r : Result ℕ WriteError) (old new : List ℕ) →
    IsErr r × IsErrAnd r (λ other. other ≡ fault) → PutsText which P (Err fault) old new → PutsText which Q r old new
same_fault P Q same which fault (Ok n) old new is puts = absurd is.1
same_fault P Q same which fault (Err other) old new is puts = rw is.1 (same_reading P Q same which (Err fault) old new puts)
