-- Bounds on the length of a cutting's text, and the construction of a greedy cutting for any bytes.
-- A cutting divides bytes into encoded characters and single bytes, which are replaced. It is
-- greedy if it replaces no byte at which a character begins.
use Rattle.std.proofs.Common.{◌≡◌, ℕ, suc, zero, ◌*◌, ◌≤◌, List, [], ◌∷◌, ◌++◌, Option, Some, None, refl, ap, arith, length, drop, length-append}
use Rattle.cesu8_text.specs.Text.{IsScalarValue, utf8}
use Rattle.cesu8_text.specs.Encoding.{Flavor, encoding}
use Rattle.cesu8_text.specs.Reading.{NoneBegins, width, standing, reading}
use Rattle.cesu8_text.specs.Cutting.{Piece, Character, Replaced, ArePieces, bytes_of, text_of, IsCutting, IsGreedy}
use Rattle.cesu8_text.proofs.encoding.Lengths.{length_of_character}
use Rattle.cesu8_text.proofs.reading.Standing.{standing_begins, standing_none}
use Rattle.cesu8_text.proofs.reading.Decoding.{shorter, length_utf8_replaced}
use Rattle.cesu8_text.proofs.reading.Greedy.{places}

-- A character's UTF-8 is no longer than its encoding, and U+FFFD is three bytes for one replaced
-- byte.
pieces_length : (f : Flavor) (pieces : List Piece) → ArePieces pieces →
    length (utf8 (text_of pieces)) ≤ 3 * length (bytes_of f pieces)
pieces_length f [] are_pieces = omega arith
pieces_length f (piece ∷ pieces) are_pieces =
    grind (arith, pieces_length f pieces are_pieces.1, length_of_character f, length_utf8_replaced, length-append)

-- The text of a cutting is at most three times as long as the bytes.
pub cutting_length : (f : Flavor) (bytes : List ℕ) (pieces : List Piece) → IsCutting f bytes pieces →
    length (utf8 (text_of pieces)) ≤ 3 * length bytes
cutting_length f bytes pieces cuts = omega (arith, pieces_length f pieces cuts.0, ap length cuts.1)

-- A greedy cutting of the bytes.
pub record GreedyCutting (f : Flavor) (bytes : List ℕ) : Type 0 where
  pub pieces : List Piece
  pub cuts : IsCutting f bytes pieces
  pub greedy : IsGreedy f pieces

-- The greedy cutting of at most n bytes takes the character that begins them, or else replaces one
-- byte.
cutting_up_to : (f : Flavor) (n : ℕ) (bytes : List ℕ) → length bytes ≤ n → GreedyCutting f bytes
cutting_up_to f n [] long = record { pieces = []; cuts = (tt, refl); greedy = tt }
cutting_up_to f zero (b ∷ bytes) long = absurd (omega arith)
cutting_up_to f (suc n) (b ∷ bytes) long = by (cutting_up_to f n) (standing f (b ∷ bytes)) refl
  where
    by : ((rest : List ℕ) → length rest ≤ n → GreedyCutting f rest) → (o : Option ℕ) → standing f (b ∷ bytes) ≡ o →
        GreedyCutting f (b ∷ bytes)
    by cutting None nothing =
        let after = cutting bytes (omega arith) in
        let none_begins = standing_none f (b ∷ bytes) nothing in
        record { pieces = Replaced b ∷ after.pieces; cuts = grind arith; greedy = grind arith }
    by cutting (Some c) found =
        let begins = standing_begins f (b ∷ bytes) c found in
        let short = shorter f (b ∷ bytes) (drop (width f c) (b ∷ bytes)) c begins in
        let after = cutting (drop (width f c) (b ∷ bytes)) (omega arith) in
        record { pieces = Character c ∷ after.pieces; cuts = grind arith; greedy = after.greedy }

-- All bytes have a greedy cutting.
pub greedy_cutting : (f : Flavor) (bytes : List ℕ) → GreedyCutting f bytes
greedy_cutting f bytes = cutting_up_to f (length bytes) bytes (omega arith)

-- The lossy reading is at most three times as long as the bytes, as it is the text of the greedy
-- cutting.
pub reading_length : (f : Flavor) (bytes : List ℕ) → length (utf8 (reading f bytes)) ≤ 3 * length bytes
reading_length f bytes =
    let cutting = greedy_cutting f bytes in
    grind (arith, cutting_length f bytes cutting.pieces cutting.cuts, places f bytes cutting.pieces cutting.cuts)

-- What holds of no bytes and the empty text, and goes on to hold with one more character or replaced
-- byte before them, holds of all bytes and their lossy reading.
module _ (f : Flavor) (P : List ℕ → List ℕ → Type 0) (none : P [] [])
    (character : (c : ℕ) (rest text : List ℕ) → IsScalarValue c → P rest text → P (encoding f (c ∷ []) ++ rest) (c ∷ text))
    (replaced : (b : ℕ) (rest text : List ℕ) → NoneBegins f (b ∷ rest) → P rest text → P (b ∷ rest) (0xFFFD ∷ text)) where
  by_pieces : (pieces : List Piece) → ArePieces pieces → IsGreedy f pieces → P (bytes_of f pieces) (text_of pieces)
  by_pieces [] are_pieces is_greedy = none
  by_pieces (Character c ∷ pieces) are_pieces is_greedy = character c _ _ are_pieces.0 (by_pieces pieces are_pieces.1 is_greedy)
  by_pieces (Replaced b ∷ pieces) are_pieces is_greedy = replaced b _ _ is_greedy.0 (by_pieces pieces are_pieces.1 is_greedy.1)

  pub by_reading : (bytes : List ℕ) → P bytes (reading f bytes)
  by_reading bytes =
      let cutting = greedy_cutting f bytes in
      let text = places f bytes cutting.pieces cutting.cuts cutting.greedy in
      coe 0 1 (i. P (cutting.cuts.1 i) (text i)) (by_pieces cutting.pieces cutting.cuts.0 cutting.greedy)
