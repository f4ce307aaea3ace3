-- What `append_piece` promises for CESU-8 that comes in pieces.
use Rattle.std.specs.Prelude.{◌≡◌, ℕ, List, [], ◌++◌}
use Rattle.simd_cesu8.specs.Text.{IsText, utf8}
use Rattle.simd_cesu8.specs.Encoding.{Cesu8, encoding}
use Rattle.cesu8_stream.specs.Written.{IsPartial, NeverBegins}
use Rattle.cesu8_stream.specs.declared.progress.State.{State}
use Rattle.cesu8_stream.specs.declared.progress.State.TheVariants.{InputEmpty, Incomplete, OutputFull, Malformed}

-- The bytes were the encoding of a text, followed by the rest. The UTF-8 of this text was appended
-- to what was read before.
abbrev pub Moves : (bytes rest before after : List ℕ) → Type 0
Moves bytes rest before after =
    (text : List ℕ) × IsText text × (bytes ≡ encoding Cesu8 text ++ rest) × (after ≡ before ++ utf8 text)

-- What a state says of the rest: it is empty, or a part of a character, or no character begins it,
-- whatever follows. It never says that a character does not fit.
abbrev pub Says : State → List ℕ → Type 0
Says InputEmpty rest = rest ≡ []
Says Incomplete rest = IsPartial (encoding Cesu8) rest
Says OutputFull rest = ⊥
Says Malformed rest = NeverBegins (encoding Cesu8) rest
