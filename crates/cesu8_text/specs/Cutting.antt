-- A second definition of lossy decoding: bytes are cut into pieces, each an encoded character or
-- one byte that is replaced. Laws say that the text of a greedy cutting is the lossy reading of
-- specs/Reading (`Places`), and that it replaces the fewest bytes (`Fewest`).
use Rattle.std.specs.Prelude.{◌≡◌, ℕ, ◌+◌, List, [], ◌∷◌, map, ⊤}
use Rattle.std.specs.List.{flat_map}
use Rattle.cesu8_text.specs.Text.{IsScalarValue}
use Rattle.cesu8_text.specs.Encoding.{Flavor, encoding}
use Rattle.cesu8_text.specs.Reading.{NoneBegins}

-- An encoded character, or one byte that is replaced.
pub data Piece : Type 0 where
  Character : (c : ℕ) → Piece
  Replaced : (byte : ℕ) → Piece

abbrev pub bytes_of_piece : Flavor → Piece → List ℕ
bytes_of_piece f (Character c) = encoding f (c ∷ [])
bytes_of_piece f (Replaced byte) = byte ∷ []

abbrev pub bytes_of : Flavor → List Piece → List ℕ
bytes_of f pieces = flat_map (bytes_of_piece f) pieces

abbrev pub character_of : Piece → ℕ
character_of (Character c) = c
character_of (Replaced byte) = 0xFFFD

-- The text of a cutting: its characters, with U+FFFD for each replaced byte.
abbrev pub text_of : List Piece → List ℕ
text_of pieces = map character_of pieces

abbrev pub IsPiece : Piece → Type 0
IsPiece (Character c) = IsScalarValue c
IsPiece (Replaced byte) = ⊤

abbrev pub ArePieces : List Piece → Type 0
ArePieces [] = ⊤
ArePieces (piece ∷ pieces) = IsPiece piece × ArePieces pieces

-- The pieces are valid, and their bytes, joined, are these bytes.
abbrev pub IsCutting : Flavor → List ℕ → List Piece → Type 0
IsCutting f bytes pieces = ArePieces pieces × (bytes_of f pieces ≡ bytes)

-- A cutting is greedy if it replaces a byte only if no encoded character begins there.
abbrev pub IsGreedy : Flavor → List Piece → Type 0
IsGreedy f [] = ⊤
IsGreedy f (Character c ∷ pieces) = IsGreedy f pieces
IsGreedy f (Replaced byte ∷ pieces) = NoneBegins f (byte ∷ bytes_of f pieces) × IsGreedy f pieces

-- The cost of a cutting is the number of bytes that it replaces.
abbrev pub cost : List Piece → ℕ
cost [] = 0
cost (Character c ∷ pieces) = cost pieces
cost (Replaced byte ∷ pieces) = 1 + cost pieces
