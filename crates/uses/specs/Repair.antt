-- What a repair keeps of damaged CESU-8.
use Rattle.std.specs.Prelude.{◌≡◌, ◌≢◌, ◌<◌, ◌⊎◌, ◌++◌, [], ℕ, List}
use Rattle.simd_cesu8.specs.Text.{IsText}
use Rattle.simd_cesu8.specs.Encoding.{Cesu8, encoding}
use Rattle.simd_cesu8.specs.Reading.{reading}
use Rattle.simd_cesu8.specs.Cutting.{Piece, IsCutting, text_of, cost}

-- Each whole record of the log is in the text, between the readings of what precedes and follows
-- it. A record is any nonempty text whose CESU-8 is a part of the log.
abbrev pub KeepsRecords : List ℕ → List ℕ → Type 0
KeepsRecords log text = (before whole after : List ℕ) → IsText whole → whole ≢ [] →
    log ≡ before ++ encoding Cesu8 whole ++ after →
    text ≡ reading Cesu8 before ++ whole ++ reading Cesu8 after

-- Every cutting of the log into characters and replaced bytes replaces some byte.
abbrev pub LosesBytes : List ℕ → Type 0
LosesBytes log = (pieces : List Piece) → IsCutting Cesu8 log pieces → 0 < cost pieces

-- The text is that of a cutting of the log, and every other cutting replaces more bytes.
abbrev pub ReplacesFewest : List ℕ → List ℕ → Type 0
ReplacesFewest log text = (pieces : List Piece)
    × IsCutting Cesu8 log pieces × (text_of pieces ≡ text)
    × ((other : List Piece) → IsCutting Cesu8 log other →
    (other ≡ pieces) ⊎ (cost pieces < cost other))
