-- Conditions on the errors of the decoder.
use Rattle.std.specs.Prelude.{⊤, Result, IfErr}
use Rattle.cesu8_decode.specs.declared.error.BuildError.{BuildError}
use Rattle.cesu8_decode.specs.declared.error.BuildError.TheVariants.{NoText, Memory}

-- If the error is that the bytes have no text, the fact holds.
abbrev pub IfNoText : BuildError → Type 0 → Type 0
IfNoText NoText P = P
IfNoText (Memory error) P = ⊤

-- If the function returns the error that the bytes have no text, the fact holds.
abbrev pub OnNoText : {T : Type 0} → Result T BuildError → Type 0 → Type 0
OnNoText result P = IfErr result (λ error. IfNoText error P)
