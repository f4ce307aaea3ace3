-- What the program writes for its arguments and its input.
use Rattle.std.specs.Prelude.{◌≡◌, ◌≢◌, ◌⊎◌, ⊤, ℕ, List, [], ◌∷◌, ◌++◌, codes, Any, IsUtf8, IfSome, Option, Result, Ok, Err}
use Rattle.std.specs.Borrow.{Bor}
use Rattle.std.specs.Io.KnownBytes.{Appends}
use Rattle.simd_cesu8.specs.Class.{IsChangedByte, IsUnchangedUtf8}
use Rattle.simd_cesu8.specs.Text.{IsUtf8Of, utf8}
use Rattle.simd_cesu8.specs.Reading.{IsStrictReading, HasNoStrictReading, IsLenientReading, reading, IsLenientLossyReading}
use Rattle.simd_cesu8.specs.Encoding.{Flavor, Mutf8, encoding, NeedsEncoding}
use Rattle.java_text.specs.Form.{mutf8_len, HasForm, java_form, BeginsWithForm, counted, IsTruncated}
use Rattle.cesu8_cli_run.specs.Command.{flavor_of, AreWordsOf}
use Rattle.cesu8_cli_run.specs.declared.command.Command.{Command}
use Rattle.cesu8_cli_run.specs.declared.command.Command.TheVariants.{Encode, Needs, Decode, DecodeStrict, Lossy, LossyStrict, JavaWrite, JavaRead}
use Rattle.cesu8_cli_run.specs.declared.fault.RunFault.{RunFault}
use Rattle.cesu8_cli_run.specs.declared.fault.RunFault.TheVariants.{NotUtf8, Invalid, Truncated, TooLong, Trailing}

-- The error of a command that takes UTF-8: the input is not UTF-8.
abbrev pub IsUtf8Fault : List ℕ → RunFault → Type 0
IsUtf8Fault input NotUtf8 = (text : List ℕ) → ¬ (IsUtf8Of text input)
IsUtf8Fault input other = ⊥

-- The encoding of the text whose UTF-8 the input is, or the error that it is not UTF-8.
abbrev pub IsEncodingAnswer : Flavor → List ℕ → Result (List ℕ) RunFault → Type 0
IsEncodingAnswer f input (Ok bytes) =
    (text : List ℕ) × IsUtf8Of text input × (bytes ≡ encoding f text)
IsEncodingAnswer f input (Err fault) = IsUtf8Fault input fault

-- A word and a line end.
abbrev pub line_with : List ℕ → List ℕ
line_with word = word ++ 0x0A ∷ []

-- The line `yes` if the fact holds, and otherwise the line `no`.
abbrev pub IsYesOrNo : Type 0 → List ℕ → Type 0
IsYesOrNo fact bytes =
    (fact × (bytes ≡ line_with (codes "yes"))) ⊎ ((¬ fact) × (bytes ≡ line_with (codes "no")))

-- The line that says whether the input's text needs encoding, or the error that the input is not
-- UTF-8.
abbrev pub IsNeedsAnswer : Flavor → List ℕ → Result (List ℕ) RunFault → Type 0
IsNeedsAnswer f input (Ok bytes) =
    (text : List ℕ) × IsUtf8Of text input × IsYesOrNo (NeedsEncoding f text) bytes
IsNeedsAnswer f input (Err fault) = IsUtf8Fault input fault

-- The UTF-8 of a text that is a reading of the input, or the error that there is none.
abbrev pub IsTextAnswer : (List ℕ → Type 0) → Result (List ℕ) RunFault → Type 0
IsTextAnswer IsReading (Ok bytes) = (text : List ℕ) × IsReading text × (bytes ≡ utf8 text)
IsTextAnswer IsReading (Err (Invalid error)) = (text : List ℕ) → ¬ (IsReading text)
IsTextAnswer IsReading (Err other) = ⊥

-- The form of the text whose UTF-8 the input is: the length of its MUTF-8 in two bytes, and then
-- the MUTF-8. Otherwise the error that the MUTF-8, which has this length, is too long for a form,
-- or that the input is not UTF-8.
abbrev pub IsJavaWriteAnswer : List ℕ → Result (List ℕ) RunFault → Type 0
IsJavaWriteAnswer input (Ok bytes) =
    (text : List ℕ) × IsUtf8Of text input × HasForm text × (bytes ≡ java_form text)
IsJavaWriteAnswer input (Err (TooLong length)) =
    (text : List ℕ) × IsUtf8Of text input × (¬ (HasForm text)) × (length ≡ mutf8_len text)
IsJavaWriteAnswer input (Err fault) = IsUtf8Fault input fault

-- The UTF-8 of the text whose form the input is. Otherwise the first of these errors that holds:
-- bytes are missing; the counted bytes have no text; bytes follow the form.
abbrev pub IsJavaReadAnswer : List ℕ → Result (List ℕ) RunFault → Type 0
IsJavaReadAnswer input (Ok bytes) =
    (text : List ℕ) × BeginsWithForm input text [] × (bytes ≡ utf8 text)
IsJavaReadAnswer input (Err Truncated) = IsTruncated input
IsJavaReadAnswer input (Err (Invalid error)) =
    (¬ (IsTruncated input)) × HasNoStrictReading Mutf8 (counted input)
IsJavaReadAnswer input (Err Trailing) =
    (text : List ℕ) × (rest : List ℕ) × BeginsWithForm input text rest × (rest ≢ [])
IsJavaReadAnswer input (Err other) = ⊥

-- The output of a command for some input: bytes, or an error.
unfoldable pub IsAnswer : Command → List ℕ → Result (List ℕ) RunFault → Type 0
IsAnswer (Encode word) input answer = IsEncodingAnswer (flavor_of word) input answer
IsAnswer (Needs word) input answer = IsNeedsAnswer (flavor_of word) input answer
IsAnswer (Decode word) input answer = IsTextAnswer (IsLenientReading (flavor_of word) input) answer
IsAnswer (DecodeStrict word) input answer =
    IsTextAnswer (IsStrictReading (flavor_of word) input) answer
IsAnswer (Lossy word) input answer =
    IsTextAnswer (IsLenientLossyReading (flavor_of word) input) answer
IsAnswer (LossyStrict word) input answer =
    IsTextAnswer (λ text. text ≡ reading (flavor_of word) input) answer
IsAnswer JavaWrite input answer = IsJavaWriteAnswer input answer
IsAnswer JavaRead input answer = IsJavaReadAnswer input answer

-- The command allocates nothing for such input: it borrows the input or a constant, or returns an
-- error.
abbrev pub TakesNoMemory : Command → List ℕ → Type 0
TakesNoMemory (Encode word) input = IsUtf8 input → ¬ (Any (IsChangedByte (flavor_of word)) input)
TakesNoMemory (Needs word) input = ⊤
TakesNoMemory (Decode word) input = IsUtf8 input
TakesNoMemory (DecodeStrict word) input = IsUnchangedUtf8 (flavor_of word) input
TakesNoMemory (Lossy word) input = IsUtf8 input
TakesNoMemory (LossyStrict word) input = IsUnchangedUtf8 (flavor_of word) input
TakesNoMemory JavaWrite input = (text : List ℕ) → IsUtf8Of text input → ¬ (HasForm text)
TakesNoMemory JavaRead input = IsTruncated input ⊎ IsUnchangedUtf8 Mutf8 (counted input)

-- The output for the arguments as they were given.
abbrev pub IsAnswerTo : List (Bor (List ℕ)) → List ℕ → Result (List ℕ) RunFault → Type 0
IsAnswerTo words input answer =
    (command : Command) × AreWordsOf command words × IsAnswer command input answer

-- If the input is known, its output was appended to what was written before.
abbrev pub AppendsAnswer : List (Bor (List ℕ)) → (input old new : Option (List ℕ)) → Type 0
AppendsAnswer words input old new = IfSome input (λ bytes.
    (answer : List ℕ) × IsAnswerTo words bytes (Ok answer) × Appends old new answer)

-- If the input is known, the first bytes of its output were appended to what was written before.
abbrev pub AppendsBeginning : List (Bor (List ℕ)) → (input old new : Option (List ℕ)) → Type 0
AppendsBeginning words input old new = IfSome input (λ bytes. (written : List ℕ) × (rest : List ℕ)
    × IsAnswerTo words bytes (Ok (written ++ rest)) × Appends old new written)
