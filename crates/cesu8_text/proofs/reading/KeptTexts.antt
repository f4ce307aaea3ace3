-- What strict and lossy decoding return in each mode (`KnowsTexts`): input that the mode returns
-- unchanged decodes to its own characters, and all other input to its reading in the encoding.
use Rattle.std.proofs.Common.{arith, ◌≡◌, ℕ, ◌↔◌, ◌⊎◌, List, refl, sym, ◌∙◌}
use Rattle.std.specs.Str.{chars, IsUtf8}
use Rattle.cesu8_text.specs.Text.{IsUtf8Of}
use Rattle.cesu8_text.specs.Encoding.{Flavor}
use Rattle.cesu8_text.specs.Class.{IsUnchangedUtf8}
use Rattle.cesu8_text.specs.Reading.{IsStrictReading, IsLenientReading, reading, IsLenientLossyReading}
use Rattle.cesu8_text.specs.Kept.{KnowsTexts}
use Rattle.cesu8_text.proofs.StdUtf8.{IsUtf8Of_chars, chars_utf8, not_utf8_of}
use Rattle.cesu8_text.proofs.reading.EncodedTexts.{encoding_injective}
use Rattle.cesu8_text.proofs.reading.Borrowing.{unchanged_reading}
use Rattle.cesu8_text.proofs.reading.LossyBorrowing.{unchanged_lossy}

-- Bytes have at most one strict reading.
pub strict_only : (f : Flavor) (bytes text other : List ℕ) → IsStrictReading f bytes text → IsStrictReading f bytes other → other ≡ text
strict_only f bytes text other reads also =
    encoding_injective f other text also.0 reads.0 (also.1 ∙ sym reads.1)

-- In the mode for the encoding alone, UTF-8 in which nothing changes decodes to its own characters.
pub encoding_texts : (f : Flavor) (bytes : List ℕ) →
    KnowsTexts f bytes (IsUnchangedUtf8 f bytes) (IsStrictReading f bytes) (λ text. text ≡ reading f bytes)
encoding_texts f bytes = record {
  is_utf8 = λ kept. kept.0;
  unchanged = λ unchanged. unchanged;
  kept = λ text kept. grind (arith, unchanged_reading f bytes bytes refl kept, strict_only f bytes);
  kept_lossily = λ text kept. grind (arith, unchanged_lossy f bytes bytes refl kept);
  other = λ not_kept. grind arith;
}

-- A text that is the input's own if the input is UTF-8, and otherwise has the property P.
module _ (bytes text : List ℕ) (P : Type 0) where
  -- If the input is UTF-8, such a text is its characters.
  by_chars : IsUtf8 bytes → (IsUtf8Of text bytes ⊎ (((other : List ℕ) → ¬ (IsUtf8Of other bytes)) × P)) ↔ text ≡ chars bytes
  by_chars is_utf8 = grind (arith, IsUtf8Of_chars, chars_utf8)

  -- If the input is not UTF-8, such a text is one with the property.
  by_other : ¬ (IsUtf8 bytes) → (IsUtf8Of text bytes ⊎ (((other : List ℕ) → ¬ (IsUtf8Of other bytes)) × P)) ↔ P
  by_other not_utf8 = grind (arith, not_utf8_of bytes not_utf8)

-- In lenient mode, all UTF-8 decodes to its own characters.
pub lenient_texts : (f : Flavor) (bytes : List ℕ) →
    KnowsTexts f bytes (IsUtf8 bytes) (IsLenientReading f bytes) (IsLenientLossyReading f bytes)
lenient_texts f bytes = record {
  is_utf8 = λ kept. kept;
  unchanged = λ unchanged. unchanged.0;
  kept = λ text kept. by_chars bytes text (IsStrictReading f bytes text) kept;
  kept_lossily = λ text kept. by_chars bytes text (text ≡ reading f bytes) kept;
  other = λ not_kept. record {
    strictly = λ text. by_other bytes text (IsStrictReading f bytes text) not_kept;
    lossily = λ text. by_other bytes text (text ≡ reading f bytes) not_kept;
  };
}
