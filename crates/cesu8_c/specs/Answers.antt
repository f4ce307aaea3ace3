-- What a call returns to C, and what it writes to the caller's buffer.
use Rattle.std.specs.Prelude.{◌≡◌, ◌≢◌, ◌↔◌, ◌⊎◌, ◌^◌, ℕ, ℤ, pos, negsuc, ◌+◌, ◌<◌, ◌≤◌, List, [], ◌∷◌, length, IsUtf8, IsTrue, Result, Ok, Err}
use Rattle.std.specs.Cmp.Lexicographic.{slice_cmp}
use Rattle.std.specs.Ordering.{nat_cmp}
use Rattle.std.specs.declared.cmp.Ordering.{Ordering}
use Rattle.std.specs.declared.cmp.Ordering.TheVariants.{Less, Equal, Greater}
use Rattle.std.specs.Str.{chars}
use Rattle.simd_cesu8.specs.Encoding.{Flavor, Mutf8, encoding, NeedsEncoding}
use Rattle.simd_cesu8.specs.Reading.{IsStrictReading, HasNoStrictReading, reading, lossy_length}
use Rattle.simd_cesu8.specs.Fronts.{IsValidUpTo}
use Rattle.simd_cesu8.specs.Slices.{StandsAtFront, ReadsAtLength, ReadingAtFront}
use Rattle.simd_cesu8.specs.Utf16.{units}
use Rattle.simd_cesu8.specs.declared.error.TooShort.{TooShort}
use Rattle.simd_cesu8.specs.declared.error.DecodeSliceFault.{DecodeSliceFault}
use Rattle.simd_cesu8.specs.declared.error.DecodeSliceFault.TheVariants as strict
use Rattle.simd_cesu8.specs.declared.error.LossySliceFault.{LossySliceFault}
use Rattle.simd_cesu8.specs.declared.error.LossySliceFault.TheVariants as lossy
use Rattle.java_text.specs.Form.{HasForm, java_form, BeginsWithForm, count_in, counted, rest_in, IsTruncated}
use Rattle.cesu8_c.specs.declared.answer.Answer.{Answer}
use Rattle.cesu8_c.specs.declared.comparison.Comparison.{Comparison}
use Rattle.cesu8_c.specs.declared.answer.Decision.{Decision}
use Rattle.cesu8_c.specs.declared.answer.Reading.{Reading}
use Rattle.cesu8_c.specs.declared.answer.TheConstants.{OK, NOT_UTF8, INVALID, TRUNCATED, TOO_LONG, TOO_SMALL}

-- The status and the length of a reading, without the number of bytes that it takes.
abbrev pub answer_of : Reading → Answer
answer_of read = record { status = read.status; length = read.length }

-- What C gets for the result of a call that writes an encoding to a slice.
abbrev pub answer_for_bytes : Result ℕ TooShort → Answer
answer_for_bytes (Ok len) = record { status = OK; length = len }
answer_for_bytes (Err fault) = record { status = TOO_SMALL; length = fault.needed }

-- What C gets for the result of a call that writes a text.
abbrev pub answer_for_text : Result ℕ DecodeSliceFault → Answer
answer_for_text (Ok len) = record { status = OK; length = len }
answer_for_text (Err (strict.Invalid error)) = record { status = INVALID; length = 0 }
answer_for_text (Err (strict.TooShort fault)) = record { status = TOO_SMALL; length = fault.needed }

-- What C gets for the result of a call that writes the text of bytes that may be damaged.
abbrev pub answer_for_lossy_text : Result ℕ LossySliceFault → Answer
answer_for_lossy_text (Ok len) = record { status = OK; length = len }
answer_for_lossy_text (Err lossy.TooLong) = record { status = TOO_LONG; length = 0 }
answer_for_lossy_text (Err (lossy.TooShort fault)) = record { status = TOO_SMALL; length = fault.needed }

-- The status is one of the list.
abbrev pub IsAmong : List ℕ → ℕ → Type 0
IsAmong [] status = ⊥
IsAmong (one ∷ others) status = (status ≡ one) ⊎ IsAmong others status

-- Whether the encoding of a text in UTF-8 differs from the UTF-8.
pub record DecidesNeed (f : Flavor) (text : List ℕ) (decision : Decision) : Type 0 where
  pub ok : decision.status ≡ OK ↔ IsUtf8 text
  pub not_utf8 : decision.status ≡ NOT_UTF8 ↔ ¬ (IsUtf8 text)
  pub needed : IsUtf8 text → (IsTrue decision.is_needed ↔ NeedsEncoding f (chars text))
  pub undecided : ¬ (IsUtf8 text) → ¬ (IsTrue decision.is_needed)

-- The length of the encoding of a text in UTF-8.
pub record TellsEncodedLength (f : Flavor) (text : List ℕ) (answer : Answer) : Type 0 where
  pub ok : answer.status ≡ OK ↔ IsUtf8 text
  pub not_utf8 : answer.status ≡ NOT_UTF8 ↔ ¬ (IsUtf8 text)
  pub encoded : IsUtf8 text → answer.length ≡ length (encoding f (chars text))
  pub none : ¬ (IsUtf8 text) → answer.length ≡ 0

-- How many UTF-16 code units a text in UTF-8 has.
pub record TellsUtf16Length (text : List ℕ) (answer : Answer) : Type 0 where
  pub ok : answer.status ≡ OK ↔ IsUtf8 text
  pub not_utf8 : answer.status ≡ NOT_UTF8 ↔ ¬ (IsUtf8 text)
  pub counted : IsUtf8 text → answer.length ≡ length (units (chars text))
  pub none : ¬ (IsUtf8 text) → answer.length ≡ 0

-- What C gets for an ordering: -1 (`negsuc 0`), 0 or 1.
abbrev pub number_of : Ordering → ℤ
number_of Less = negsuc 0
number_of Equal = pos 0
number_of Greater = pos 1

-- How two texts in UTF-8 compare by their UTF-16 code units.
pub record ComparesTexts (text other : List ℕ) (comparison : Comparison) : Type 0 where
  pub ok : comparison.status ≡ OK ↔ IsUtf8 text × IsUtf8 other
  pub not_utf8 : comparison.status ≡ NOT_UTF8 ↔ ¬ (IsUtf8 text × IsUtf8 other)
  pub compared : IsUtf8 text → IsUtf8 other
      → comparison.order ≡ number_of (slice_cmp nat_cmp (units (chars text)) (units (chars other)))
  pub none : ¬ (IsUtf8 text × IsUtf8 other) → comparison.order ≡ pos 0

-- The length of the strict reading. For input without one the status is `INVALID`.
pub record TellsDecodedLength (f : Flavor) (bytes : List ℕ) (answer : Answer) : Type 0 where
  pub read : answer.status ≡ OK
      → ReadsAtLength (IsStrictReading f bytes) (λ len. answer.length ≡ len)
  pub invalid : answer.status ≡ INVALID ↔ HasNoStrictReading f bytes
  pub statuses : IsAmong (OK ∷ INVALID ∷ []) answer.status
  pub none : answer.status ≡ INVALID → answer.length ≡ 0

-- The length of the lossy reading.
pub record TellsLossyLength (f : Flavor) (bytes : List ℕ) (answer : Answer) : Type 0 where
  pub read : answer.status ≡ OK → answer.length ≡ lossy_length f bytes
  pub too_long : answer.status ≡ TOO_LONG ↔ 2 ^ 64 ≤ lossy_length f bytes
  pub statuses : IsAmong (OK ∷ TOO_LONG ∷ []) answer.status
  pub none : answer.status ≡ TOO_LONG → answer.length ≡ 0

-- The length of the longest valid prefix. Each input has one.
pub record TellsValidFront (f : Flavor) (bytes : List ℕ) (answer : Answer) : Type 0 where
  pub ok : answer.status ≡ OK
  pub valid : IsValidUpTo f bytes answer.length

-- These bytes are at the start of the buffer, or it is too small for them.
pub record Places (bytes : List ℕ) (answer : Answer) (old new : List ℕ) : Type 0 where
  pub placed : answer.status ≡ OK → StandsAtFront bytes answer.length old new
  pub fits : answer.status ≡ OK ↔ length bytes ≤ length old
  -- Otherwise the call returns the needed length,
  pub too_small : answer.status ≡ TOO_SMALL ↔ length old < length bytes
  pub needed : answer.status ≡ TOO_SMALL → answer.length ≡ length bytes
  -- and the whole buffer is unchanged.
  pub unchanged : answer.status ≢ OK → new ≡ old

-- The encoding of a text in UTF-8 is written. For other input the status is `NOT_UTF8`.
pub record Encodes (f : Flavor) (text : List ℕ) (answer : Answer) (old new : List ℕ) : Type 0 where
  pub encoded : IsUtf8 text → Places (encoding f (chars text)) answer old new
  pub not_utf8 : answer.status ≡ NOT_UTF8 ↔ ¬ (IsUtf8 text)
  pub none : answer.status ≡ NOT_UTF8 → answer.length ≡ 0
  pub unchanged : answer.status ≢ OK → new ≡ old

-- The UTF-8 of a reading of the input is at the start of the buffer, or the buffer is too small.
-- For input without a reading the status is `INVALID`.
pub record Decodes (IsReading : List ℕ → Type 0) (answer : Answer) (old new : List ℕ) : Type 0 where
  pub placed : answer.status ≡ OK → ReadingAtFront IsReading answer.length old new
  pub fits : answer.status ≡ OK ↔ ReadsAtLength IsReading (λ len. len ≤ length old)
  pub invalid : answer.status ≡ INVALID ↔ ((text : List ℕ) → ¬ (IsReading text))
  -- With `TOO_SMALL` the buffer is shorter than the text's UTF-8, and the call returns its length.
  pub needed : answer.status ≡ TOO_SMALL
      → ReadsAtLength IsReading (λ len. (length old < len) × (answer.length ≡ len))
  pub statuses : IsAmong (OK ∷ INVALID ∷ TOO_SMALL ∷ []) answer.status
  pub none : answer.status ≡ INVALID → answer.length ≡ 0
  -- Without a result the whole buffer is unchanged.
  pub unchanged : answer.status ≢ OK → new ≡ old

-- `Decodes` for lossy readings. Every input has one, but its length may not fit `size_t`.
pub record DecodesLossily (IsReading : List ℕ → Type 0) (answer : Answer) (old new : List ℕ) : Type 0 where
  pub placed : answer.status ≡ OK → ReadingAtFront IsReading answer.length old new
  pub fits : answer.status ≡ OK ↔ ReadsAtLength IsReading (λ len. len ≤ length old)
  pub too_long : answer.status ≡ TOO_LONG ↔ ReadsAtLength IsReading (λ len. 2 ^ 64 ≤ len)
  -- With `TOO_SMALL` the buffer is shorter than the text's UTF-8, and the call returns its length.
  pub needed : answer.status ≡ TOO_SMALL
      → ReadsAtLength IsReading (λ len. (length old < len) × (answer.length ≡ len))
  pub statuses : IsAmong (OK ∷ TOO_LONG ∷ TOO_SMALL ∷ []) answer.status
  pub none : answer.status ≡ TOO_LONG → answer.length ≡ 0
  -- Without a result the whole buffer is unchanged.
  pub unchanged : answer.status ≢ OK → new ≡ old

-- The form of a text is written: the length of its MUTF-8 in two bytes, and then the MUTF-8. The
-- status is `NOT_UTF8` for input that is not UTF-8, and `TOO_LONG` for a text without a form, since
-- its MUTF-8 is too long.
pub record WritesForm (text : List ℕ) (answer : Answer) (old new : List ℕ) : Type 0 where
  pub form : IsUtf8 text → HasForm (chars text) → Places (java_form (chars text)) answer old new
  pub not_utf8 : answer.status ≡ NOT_UTF8 ↔ ¬ (IsUtf8 text)
  pub too_long : answer.status ≡ TOO_LONG ↔ IsUtf8 text × (¬ (HasForm (chars text)))
  pub none : answer.status ≢ OK → answer.status ≢ TOO_SMALL → answer.length ≡ 0
  pub unchanged : answer.status ≢ OK → new ≡ old

-- How many bytes of the input the form at its start takes.
pub record TakesForm (bytes : List ℕ) (read : Reading) : Type 0 where
  pub truncated : read.status ≡ TRUNCATED ↔ IsTruncated bytes
  pub taken : ¬ (IsTruncated bytes) → read.taken ≡ 2 + count_in bytes
  pub not_taken : IsTruncated bytes → read.taken ≡ 0
  pub none : IsTruncated bytes → read.length ≡ 0

-- The text of the form that begins the input.
abbrev pub IsFormText : List ℕ → List ℕ → Type 0
IsFormText bytes text = BeginsWithForm bytes text (rest_in bytes)

-- The text of the form at the start of the input is written.
pub record ReadsForm (bytes : List ℕ) (read : Reading) (old new : List ℕ) : Type 0 where
  pub form : TakesForm bytes read
  pub text : ¬ (IsTruncated bytes) → Decodes (IsFormText bytes) (answer_of read) old new
  pub unchanged : IsTruncated bytes → new ≡ old

-- `ReadsForm` for counted bytes that may be damaged.
pub record ReadsFormLossily (bytes : List ℕ) (read : Reading) (old new : List ℕ) : Type 0 where
  pub form : TakesForm bytes read
  pub text : ¬ (IsTruncated bytes)
      → DecodesLossily (λ text. text ≡ reading Mutf8 (counted bytes)) (answer_of read) old new
  pub unchanged : IsTruncated bytes → new ≡ old
