-- The content of a `CowBytes` or a `CowText`, and whether it borrows. The contracts of the calls
-- that encode and decode are written with these definitions.
use Rattle.std.specs.Prelude.{◌≡◌, ℕ, Bool, true, false, ⊤, ◌↔◌, IsTrue, List, length, String, Result, IfOk, vec_capacity}
use Rattle.std.specs.Global.{Vec, Global}
use Rattle.std.specs.Str.{chars}
use Rattle.std.specs.String.{string_bytes, string_capacity}
use Rattle.simd_cesu8.specs.declared.cow.CowText.{CowText}
use Rattle.simd_cesu8.specs.declared.cow.CowText.TheVariants as texts
use Rattle.simd_cesu8.specs.declared.cow.CowBytes.{CowBytes}
use Rattle.simd_cesu8.specs.declared.cow.CowBytes.TheVariants.{Borrowed, Owned}

-- The bytes of a result, borrowed or built.
abbrev pub answer_bytes : CowBytes → List ℕ
answer_bytes (Borrowed bytes) = bytes.now
answer_bytes (Owned bytes) = bytes.items

-- Whether a result is borrowed.
abbrev pub borrows_bytes : CowBytes → Bool
borrows_bytes (Borrowed bytes) = true
borrows_bytes (Owned bytes) = false

-- If the result was built, the fact holds of its vector.
abbrev pub IfOwned : CowBytes → (Vec ℕ → Type 0) → Type 0
IfOwned (Borrowed bytes) P = ⊤
IfOwned (Owned bytes) P = P bytes

-- The UTF-8 of a result's text, borrowed or built.
abbrev pub answer_text : CowText → List ℕ
answer_text (texts.Borrowed text) = text.now
answer_text (texts.Owned text) = string_bytes text

-- Whether a result's text is borrowed.
abbrev pub borrows_text : CowText → Bool
borrows_text (texts.Borrowed text) = true
borrows_text (texts.Owned text) = false

-- If the text was built, the fact holds of its string.
abbrev pub IfOwnedText : CowText → (String Global → Type 0) → Type 0
IfOwnedText (texts.Borrowed text) P = ⊤
IfOwnedText (texts.Owned text) P = P text

-- If the call succeeds, the fact holds of the bytes.
abbrev pub IfBytes : {E : Type 0} → Result CowBytes E → (List ℕ → Type 0) → Type 0
IfBytes result P = IfOk result (λ answer. P (answer_bytes answer))

-- If the call succeeds, it borrows exactly when the fact holds of the bytes.
abbrev pub BorrowsBytesWhere : {E : Type 0} → Result CowBytes E → (List ℕ → Type 0) → Type 0
BorrowsBytesWhere result P = IfOk result (λ answer. IsTrue (borrows_bytes answer) ↔ P (answer_bytes answer))

-- If the call built bytes, they have exactly this capacity.
abbrev pub BuildsBytesOfCapacity : {E : Type 0} → Result CowBytes E → ℕ → Type 0
BuildsBytesOfCapacity result n = IfOk result (λ answer. IfOwned answer (λ bytes. vec_capacity bytes ≡ n))

-- If the call succeeds, the fact holds of the text's scalar values.
abbrev pub IfText : {E : Type 0} → Result CowText E → (List ℕ → Type 0) → Type 0
IfText result P = IfOk result (λ answer. P (chars (answer_text answer)))

-- If the call succeeds, it borrows exactly when the fact holds of the text's UTF-8.
abbrev pub BorrowsTextWhere : {E : Type 0} → Result CowText E → (List ℕ → Type 0) → Type 0
BorrowsTextWhere result P = IfOk result (λ answer. IsTrue (borrows_text answer) ↔ P (answer_text answer))

-- If the call built a string, it has exactly this capacity.
abbrev pub BuildsTextOfCapacity : {E : Type 0} → Result CowText E → ℕ → Type 0
BuildsTextOfCapacity result n = IfOk result (λ answer. IfOwnedText answer (λ text. string_capacity text ≡ n))

-- If the call succeeds, the text's UTF-8 has this many bytes.
abbrev pub AnswersTextOfLength : {E : Type 0} → Result CowText E → ℕ → Type 0
AnswersTextOfLength result n = IfOk result (λ answer. length (answer_text answer) ≡ n)
