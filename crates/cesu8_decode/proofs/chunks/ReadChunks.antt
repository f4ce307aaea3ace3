-- Text that is decoded chunk by chunk to a vector: what one chunk appends, and what all of them
-- have appended once the last byte is read.
use Rattle.std.proofs.lemmas.Bool.Decides.{nat_tests}
use Rattle.std.proofs.lemmas.Grind.{common_steps}
use Rattle.std.proofs.Common.{◌≡◌, ℕ, List, [], ◌++◌, refl, sym, ap, ◌∙◌, arith, length, subst}
use Rattle.cesu8_text.specs.Text.{IsText, utf8}
use Rattle.cesu8_text.specs.Encoding.{Flavor, encoding}
use Rattle.cesu8_text.specs.Reading.{reading, lossy_length, HasNoStrictReading}
use Rattle.cesu8_decode.proofs.by_offset.IllFormed.{IsChunk, HasFault}
use Rattle.cesu8_bytes.specs.TextChunks.{IsReadSoFar}
use Rattle.cesu8_bytes.specs.declared.strictness.Strictness.{Strictness}
use Rattle.cesu8_text.proofs.encoding.Encodings.{encoding_nil, encoding_append}
use Rattle.cesu8_text.proofs.reading.Steps.{reading_nil}
use Rattle.std.specs.Str.{chars, IsUtf8}
use Rattle.cesu8_bytes.specs.declared.strictness.Strictness.TheVariants.{Strict, Lossy}
use Rattle.cesu8_text.proofs.StdUtf8.{IsUtf8_utf8, chars_utf8}
use Rattle.cesu8_text.proofs.encoding.Unique.{no_reading}
use Rattle.cesu8_text.proofs.reading.Decoding.{IsText_append, utf8_append}

-- The text of the bytes: the lossy reading. In strict decoding the bytes are its encoding.
abbrev pub IsDecodedText : Flavor → Strictness → List ℕ → List ℕ → Type 0
IsDecodedText f which bytes text =
    IsText text × (text ≡ reading f bytes) × (which ≡ Strict → encoding f text ≡ bytes)

-- Before the first chunk no byte is decoded.
pub nothing_read : (f : Flavor) (which : Strictness) (bytes old : List ℕ) → IsReadSoFar f which bytes bytes old old
nothing_read f which bytes old = grind (arith, nat_tests, common_steps, encoding_nil)

-- If no bytes are left, the text so far is the text of the bytes.
pub all_read : (f : Flavor) (which : Strictness) (bytes rest old new : List ℕ) → IsReadSoFar f which bytes rest old new →
    length rest ≡ 0 → (text : List ℕ) × IsDecodedText f which bytes text × (new ≡ old ++ utf8 text)
all_read f which bytes rest old new so_far empty = grind (arith, nat_tests, common_steps, reading_nil)

-- If more bytes are decoded after the bytes so far, their text is added.
pub more_read : (f : Flavor) (which : Strictness) (bytes rest after old out new : List ℕ) →
    IsReadSoFar f which bytes rest old out → IsReadSoFar f which rest after out new → IsReadSoFar f which bytes after old new
more_read f which bytes rest after old out new so_far next = grind (arith, nat_tests, common_steps, IsText_append, encoding_append, utf8_append)

-- A chunk that is all of the text has the length of the lossy reading.
pub lossy_text_length : (f : Flavor) (bytes chunk : List ℕ) → IsChunk f Lossy bytes [] chunk → lossy_length f bytes ≡ length chunk
unfolding lossy_length
lossy_text_length f bytes chunk read =
    let all = all_read f Lossy bytes [] [] chunk read refl in ap (λ text. length (utf8 text)) (sym all.1.1) ∙ sym (ap length all.2)

-- If a chunk is appended, its bytes are decoded.
pub chunk_appended : (f : Flavor) (which : Strictness) (bytes rest chunk old new : List ℕ) → IsChunk f which bytes rest chunk →
    new ≡ old ++ chunk → IsReadSoFar f which bytes rest old new
chunk_appended f which bytes rest chunk old new is_chunk new_is = grind arith

-- A chunk is UTF-8.
pub chunk_utf8 : (f : Flavor) (which : Strictness) (bytes rest chunk : List ℕ) → IsChunk f which bytes rest chunk → IsUtf8 chunk
chunk_utf8 f which bytes rest chunk read = subst IsUtf8 (sym read.written) (IsUtf8_utf8 read.text read.scalars)

-- Bytes with a fault have no strict reading.
pub fault_of_whole : (f : Flavor) (bytes : List ℕ) → HasFault f bytes → HasNoStrictReading f bytes
fault_of_whole f bytes fault =
    no_reading f bytes fault.before.text fault.rest fault.before.scalars (fault.before.strict_reading refl) fault.some fault.none_begins

-- If the rest has length 0, it is the empty list.
pub none_left : (f : Flavor) (which : Strictness) (bytes rest old new : List ℕ) → IsReadSoFar f which bytes rest old new →
    length rest ≡ 0 → IsReadSoFar f which bytes [] old new
none_left f which bytes rest old new so_far empty = grind (arith, common_steps)

-- A chunk that leaves no bytes is the text of all bytes.
pub whole_text : (f : Flavor) (which : Strictness) (bytes chunk : List ℕ) → IsChunk f which bytes [] chunk → IsDecodedText f which bytes (chars chunk)
whole_text f which bytes chunk read =
    let all = all_read f which bytes [] [] chunk read refl in
    subst (IsDecodedText f which bytes) (sym (ap chars all.2 ∙ chars_utf8 all.0 all.1.0)) all.1
