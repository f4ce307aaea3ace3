-- How a truncated character becomes whole again: by the missing bytes of a fixed character. These
-- are the characters that `completions` in conversion.rt returns, padded with zeros to six bytes.
use Rattle.std.specs.Prelude.{ℕ, List, [], ◌∷◌, ◌++◌, length, drop}
use Rattle.cesu8_stream.specs.Written.{Begins}

-- In CESU-8 and MUTF-8: U+10000, and U+0000 of MUTF-8.
abbrev pub pair_bytes : List ℕ
pair_bytes = 0xED ∷ 0xA0 ∷ 0x80 ∷ 0xED ∷ 0xB0 ∷ 0x80 ∷ []

abbrev pub null_bytes : List ℕ
null_bytes = 0xC0 ∷ 0x80 ∷ 0 ∷ 0 ∷ 0 ∷ 0 ∷ []

-- In UTF-8: U+100000, whose second byte 80 may follow each lead byte but E0 and F0, and U+20000,
-- whose second byte A0 may follow these two.
abbrev pub low_bytes : List ℕ
low_bytes = 0xF4 ∷ 0x80 ∷ 0x80 ∷ 0x80 ∷ 0 ∷ 0 ∷ []

abbrev pub high_bytes : List ℕ
high_bytes = 0xF0 ∷ 0xA0 ∷ 0x80 ∷ 0x80 ∷ 0 ∷ 0 ∷ []

-- The bytes, filled up to the length of `character` by its last bytes, begin with a character.
abbrev pub IsCompletedBy : (List ℕ → List ℕ) → (character bytes : List ℕ) → Type 0
IsCompletedBy write character bytes = (c : ℕ) × Begins write (bytes ++ drop (length bytes) character) c
