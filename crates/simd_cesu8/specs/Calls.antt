-- What the calls that return a `CowBytes` or a `CowText` promise: each field is a clause of theirs.
use Rattle.std.specs.Prelude.{◌≡◌, ℕ, List, length, Result, IsOk}
use Rattle.std.specs.Str.{chars}
use Rattle.simd_cesu8.specs.Encoding.{Flavor, encoding as encoding_of, NeedsEncoding}
use Rattle.simd_cesu8.specs.Class.{IsUnchangedUtf8}
use Rattle.simd_cesu8.specs.Reading.{IsStrictReading, reading as reading_of, lossy_length}
use Rattle.simd_cesu8.specs.Cow.{IfBytes, BorrowsBytesWhere, BuildsBytesOfCapacity, IfText, BorrowsTextWhere, BuildsTextOfCapacity, AnswersTextOfLength}
use Rattle.simd_cesu8.specs.Fault.{OnInvalid}
use Rattle.simd_cesu8.specs.declared.cow.CowText.{CowText}
use Rattle.simd_cesu8.specs.declared.cow.CowBytes.{CowBytes}
use Rattle.simd_cesu8.specs.declared.error.DecodeFault.{DecodeFault}

-- `encode`: the encoding of a string, borrowed exactly when it is the string's UTF-8.
pub record Encodes {E : Type 0} (f : Flavor) (utf8 : List ℕ) (result : Result CowBytes E) : Type 0 where
  pub encoding : IfBytes result (λ bytes. bytes ≡ encoding_of f (chars utf8))
  pub borrowed : BorrowsBytesWhere result (λ bytes. bytes ≡ utf8)
  pub succeeds : ¬ (NeedsEncoding f (chars utf8)) → IsOk result
  pub capacity : BuildsBytesOfCapacity result (length (encoding_of f (chars utf8)))

-- A call that decodes. It borrows the bytes exactly when `keeps` holds, and `reads` says which text
-- they have. If they have none, the call returns an error.
pub record DecodesAs (keeps : Type 0) (reads : List ℕ → Type 0) (bytes : List ℕ) (result : Result CowText DecodeFault) : Type 0 where
  pub text : IfText result (λ text. reads text)
  pub invalid : OnInvalid result ((text : List ℕ) → ¬ (reads text))
  pub borrowed : BorrowsTextWhere result (λ utf8. utf8 ≡ bytes)
  pub borrowed_where : BorrowsTextWhere result (λ _. keeps)
  pub succeeds : keeps → IsOk result
  pub capacity : BuildsTextOfCapacity result (length bytes)

-- A call that decodes strictly. It borrows exactly when the bytes are the text's UTF-8.
abbrev pub DecodesStrictly : Flavor → List ℕ → Result CowText DecodeFault → Type 0
DecodesStrictly f bytes = DecodesAs (IsUnchangedUtf8 f bytes) (IsStrictReading f bytes) bytes

-- A call that decodes, and replaces each ill-formed byte. It borrows the bytes exactly when `keeps`
-- holds, and `reads` says which text they have. If they have no other text than the lossy reading,
-- the result has the length of the lossy reading.
pub record DecodesLossily {E : Type 0} (f : Flavor) (keeps : Type 0) (reads : List ℕ → Type 0) (bytes : List ℕ) (result : Result CowText E) : Type 0 where
  pub reading : IfText result (λ text. reads text)
  pub text_length : ((text : List ℕ) → reads text → text ≡ reading_of f bytes) → AnswersTextOfLength result (lossy_length f bytes)
  pub borrowed : BorrowsTextWhere result (λ utf8. utf8 ≡ bytes)
  pub borrowed_where : BorrowsTextWhere result (λ _. keeps)
  pub succeeds : keeps → IsOk result
  pub capacity : BuildsTextOfCapacity result (lossy_length f bytes)
