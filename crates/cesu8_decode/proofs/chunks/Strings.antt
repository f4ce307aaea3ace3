-- Lossy decoding to a vector in two steps, for `build_chunks` of src/destinations/strings.rt: it
-- decodes the first bytes, allocates for their text and that of the rest, and appends both.
use Rattle.std.proofs.Common.{◌≡◌, ◌∙◌, sym, arith, ℕ, ◌+◌, List, [], ◌++◌, length, length-append, append-nil, Vec, vec_capacity, Ok}
use Rattle.std.proofs.lemmas.Bool.Decides.{nat_tests}
use Rattle.cesu8_text.specs.Encoding.{Flavor}
use Rattle.cesu8_bytes.specs.TextChunks.{IsReadSoFar}
use Rattle.cesu8_text.specs.Laws.{NoneCrosses}
use Rattle.cesu8_bytes.specs.declared.strictness.Strictness.TheVariants.{Lossy}
use Rattle.cesu8_text.specs.Reading.{lossy_length}
use Rattle.cesu8_text.proofs.reading.Splits.{split}
use Rattle.cesu8_text.proofs.reading.Steps.{reading_nil}
use Rattle.cesu8_decode.specs.Decoding.{AppendsReading, BuildsReading}
use Rattle.cesu8_decode.proofs.by_offset.IllFormed.{IsChunk}
use Rattle.cesu8_decode.proofs.chunks.ReadChunks.{lossy_text_length, more_read}

-- If no character crosses the end of the first bytes, their text is a chunk of the text of all
-- bytes.
read_apart : (f : Flavor) (bytes first rest text : List ℕ) → first ++ rest ≡ bytes → NoneCrosses f first rest → IsChunk f Lossy first [] text →
    IsChunk f Lossy bytes rest text
read_apart f bytes first rest text whole apart read = grind (arith, nat_tests, split, reading_nil, append-nil)

-- The appended bytes have the length of the lossy reading.
appended_length : (f : Flavor) (bytes old new : List ℕ) → IsReadSoFar f Lossy bytes [] old new → length new ≡ length old + lossy_length f bytes
appended_length f bytes old new read = grind (arith, length-append, lossy_text_length)

-- If the text of the rest is appended to that of the first bytes, in a vector with capacity for
-- both, the whole text is built.
pub built_after : {Z E X : Type 0} (f : Flavor) (bytes first rest : List ℕ) (before text : Vec ℕ Z) → first ++ rest ≡ bytes →
    NoneCrosses f first rest → IsChunk f Lossy first [] before.items → vec_capacity before ≡ length before.items + lossy_length f rest →
    AppendsReading {E = E} f Lossy rest before (Ok text) → BuildsReading {E = X} f bytes (Ok text)
built_after f bytes first rest before text whole apart read exact appends = record {
  text = more_read f Lossy bytes rest [] [] before.items text.items (read_apart f bytes first rest before.items whole apart read) appends.text;
  capacity = appends.capacity ∙ exact ∙ sym (appended_length f rest before.items text.items appends.text);
}
