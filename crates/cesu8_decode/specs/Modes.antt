-- What a mode returns unchanged, and which text it reads.
use Rattle.std.specs.Prelude.{◌≡◌, ℕ, List, IsUtf8}
use Rattle.cesu8_text.specs.Class.{IsUnchangedUtf8}
use Rattle.cesu8_text.specs.Encoding.{Flavor}
use Rattle.cesu8_text.specs.Reading.{IsStrictReading, IsLenientReading, reading, IsLenientLossyReading}
use Rattle.cesu8_decode.specs.declared.modes.Mode.{Mode}
use Rattle.cesu8_decode.specs.declared.modes.Mode.TheVariants.{Lenient, EncodingAlone}

-- The input that is returned unchanged.
abbrev pub Keeps : Mode → Flavor → List ℕ → Type 0
Keeps Lenient f bytes = IsUtf8 bytes
Keeps EncodingAlone f bytes = IsUnchangedUtf8 f bytes

-- Which text an input has if ill-formed bytes are rejected.
abbrev pub Reads : Mode → Flavor → List ℕ → List ℕ → Type 0
Reads Lenient f bytes = λ text. IsLenientReading f bytes text
Reads EncodingAlone f bytes = λ text. IsStrictReading f bytes text

-- Which text an input has if ill-formed bytes are replaced.
abbrev pub ReadsLossily : Mode → Flavor → List ℕ → List ℕ → Type 0
ReadsLossily Lenient f bytes = λ text. IsLenientLossyReading f bytes text
ReadsLossily EncodingAlone f bytes = λ text. text ≡ reading f bytes
