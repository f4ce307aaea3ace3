-- The lossy reading consists of scalar values, and it is the strict reading if it has no U+FFFD.
use Rattle.std.proofs.Common.{◌≡◌, ◌≢◌, zero, suc, refl, arith}
use Rattle.std.specs.List.{All}
use Rattle.cesu8_text.specs.Text.{IsText}
use Rattle.cesu8_text.specs.Encoding.{encoding}
use Rattle.cesu8_text.specs.Laws.{ReadingIsText, NothingReplaced}
use Rattle.cesu8_text.proofs.encoding.Encodings.{encoding_nil, encoding_cons}
use Rattle.cesu8_text.proofs.reading.Cuttings.{by_reading}

-- The lossy reading consists of scalar values, since U+FFFD is one.
pub reading_is_text : ReadingIsText
reading_is_text f =
    by_reading f (λ bytes text. IsText text) tt (λ c rest text scalar is_text. (scalar, is_text)) (λ b rest text none is_text. grind arith)

-- A lossy reading without U+FFFD replaces nothing, so it is the strict reading.
pub nothing_replaced : NothingReplaced
nothing_replaced f bytes none = (
  reading_is_text f bytes,
  by_reading f (λ bytes text. All (λ c. c ≢ 0xFFFD) text → encoding f text ≡ bytes) (λ _. encoding_nil f)
      (λ c rest text scalar same free. rw (encoding_cons, same (λ k d inside. free (suc k) d (omega arith))))
      (λ b rest text none_begins same free. absurd (free zero 0 (omega arith) refl)) bytes none,
)
