-- What a call that reads returns: a text, and the bytes after it.
use Rattle.std.specs.Prelude.{ℕ, List, Result, Ok, Err, IfOk}
use Rattle.std.specs.Borrow.{Bor}
use Rattle.std.specs.Str.{chars}
use Rattle.simd_cesu8.specs.declared.cow.CowText.{CowText}
use Rattle.simd_cesu8.specs.Cow.{answer_text}

-- If the call succeeds, the fact holds of the text's scalar values and the rest.
abbrev pub IfRead : {E : Type 0} → Result (CowText × Bor (List ℕ)) E → (List ℕ → List ℕ → Type 0) → Type 0
IfRead result P = IfOk result (λ read. P (chars (answer_text read.0)) read.1.now)

-- The result without the rest, for the definitions about results that are texts.
abbrev pub text_of : {E : Type 0} → Result (CowText × Bor (List ℕ)) E → Result CowText E
text_of (Ok read) = Ok read.0
text_of (Err fault) = Err fault
