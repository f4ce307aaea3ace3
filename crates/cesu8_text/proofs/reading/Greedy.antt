-- The text of every greedy cutting is the lossy reading.
use Rattle.std.proofs.Common.{◌≡◌, List, [], ◌∷◌, sym, ap, ◌∙◌, arith}
use Rattle.cesu8_text.specs.Encoding.{Flavor}
use Rattle.cesu8_text.specs.Reading.{reading}
use Rattle.cesu8_text.specs.Cutting.{Piece, ArePieces, bytes_of, text_of, IsGreedy}
use Rattle.cesu8_text.specs.Laws.{Places}
use Rattle.cesu8_text.proofs.reading.Steps.{reading_nil, reading_character, reading_replaced}

-- The text of greedy pieces is the lossy reading of their bytes, by induction over the pieces.
greedy_reading : (f : Flavor) (pieces : List Piece) → ArePieces pieces → IsGreedy f pieces →
    text_of pieces ≡ reading f (bytes_of f pieces)
greedy_reading f [] are_pieces is_greedy = sym (reading_nil f)
greedy_reading f (piece ∷ pieces) are_pieces is_greedy =
    grind (
      arith,
      reading_character f (bytes_of f (piece ∷ pieces)),
      reading_replaced f,
      greedy_reading f pieces are_pieces.1,
    )

-- The text of a greedy cutting is the lossy reading.
pub places : Places
places f bytes pieces cuts is_greedy = greedy_reading f pieces cuts.0 is_greedy ∙ ap (reading f) cuts.1
