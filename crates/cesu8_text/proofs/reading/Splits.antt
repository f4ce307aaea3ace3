-- Bytes can be decoded in two parts if and only if no character crosses the boundary, since exactly
-- then two greedy cuttings join to a greedy one.
use Rattle.std.proofs.Common.{◌≡◌, ℕ, suc, zero, ◌≤◌, ◌↔◌, refl, List, [], ◌∷◌, ◌++◌, sym, ◌∙◌, arith, length, drop}
use Rattle.std.proofs.lemmas.List.{take-append-le, take-append-drop, map-append}
use Rattle.std.proofs.lemmas.List.Concat.{flat_map-append}
use Rattle.std.proofs.Math.Seq.{take-append_seam}
use Rattle.cesu8_text.specs.Encoding.{Flavor, encoding}
use Rattle.cesu8_text.specs.Reading.{BeginsWith, width, reading}
use Rattle.cesu8_text.specs.Cutting.{Piece, Character, Replaced, bytes_of_piece, bytes_of, text_of, ArePieces, IsCutting, IsGreedy}
use Rattle.cesu8_text.specs.Laws.{NoneCrosses, Split}
use Rattle.cesu8_text.proofs.reading.Stretches.{none_crosses_later, none_crosses_character}
use Rattle.cesu8_text.proofs.reading.Greedy.{places}
use Rattle.cesu8_text.proofs.reading.Cuttings.{greedy_cutting}
use Rattle.cesu8_text.proofs.reading.Costs.{greedy_by_text}

-- The bytes of joined cuttings are their joined bytes.
bytes_of_joined : (f : Flavor) (p q : List Piece) → bytes_of f (p ++ q) ≡ bytes_of f p ++ bytes_of f q
bytes_of_joined f p q = flat_map-append (bytes_of_piece f) p q

-- Joined lists of valid pieces are valid.
joined_pieces : (p q : List Piece) → ArePieces p → ArePieces q → ArePieces (p ++ q)
joined_pieces [] q are_pieces others = others
joined_pieces (piece ∷ p) q are_pieces others = (are_pieces.0, joined_pieces p q are_pieces.1 others)

-- A character that begins the whole and ends in the first part begins the first part.
pub begins_in_prefix : (f : Flavor) (front back rest : List ℕ) (c : ℕ) → BeginsWith f (front ++ back) c rest → width f c ≤ length front →
    BeginsWith f front c (drop (width f c) front)
begins_in_prefix f front back rest c begins inside =
    grind (
      arith,
      take-append-drop (width f c) front,
      take-append-le (width f c) front back,
      take-append_seam (encoding f (c ∷ [])) rest,
    )

-- If no character crosses, two greedy cuttings join to a greedy one.
joined_greedy : (f : Flavor) (p q : List Piece) → IsGreedy f p → IsGreedy f q → NoneCrosses f (bytes_of f p) (bytes_of f q) →
    IsGreedy f (p ++ q)
joined_greedy f [] q is_greedy other_is_greedy crosses = other_is_greedy
joined_greedy f (Character c ∷ p) q is_greedy other_is_greedy crosses =
    joined_greedy f p q is_greedy other_is_greedy
    (none_crosses_later f (encoding f (c ∷ [])) (bytes_of f p) (bytes_of f q) crosses)
joined_greedy f (Replaced b ∷ p) q is_greedy other_is_greedy crosses = (
  λ c rest stands. grind (
    arith,
    bytes_of_joined f p q,
    crosses 0 c,
    begins_in_prefix f (b ∷ bytes_of f p) (bytes_of f q) rest c,
    is_greedy.0 c (drop (width f c) (b ∷ bytes_of f p)),
  ),
  joined_greedy f p q is_greedy.1 other_is_greedy
      (none_crosses_later f (b ∷ []) (bytes_of f p) (bytes_of f q) crosses),
)

-- If two cuttings join to a greedy one, no character crosses.
none_crosses_joined : (f : Flavor) (p q : List Piece) → ArePieces p → IsGreedy f (p ++ q) → NoneCrosses f (bytes_of f p) (bytes_of f q)
none_crosses_joined f [] q are_pieces is_greedy i c stands before = absurd (omega arith)
none_crosses_joined f (Character d ∷ p) q are_pieces is_greedy i c stands before =
    none_crosses_character f d (bytes_of f p) (bytes_of f q) are_pieces.0
    (none_crosses_joined f p q are_pieces.1 is_greedy) i c stands before
none_crosses_joined f (Replaced b ∷ p) q are_pieces is_greedy zero c stands before =
    grind (arith, is_greedy.0 c stands.0, bytes_of_joined f p q)
none_crosses_joined f (Replaced b ∷ p) q are_pieces is_greedy (suc i) c stands before =
    omega (arith, none_crosses_joined f p q are_pieces.1 is_greedy.1 i c stands (omega arith))

-- `split` for bytes that are given by greedy cuttings.
split_pieces : (f : Flavor) (p q : List Piece) → ArePieces p → ArePieces q → IsGreedy f p → IsGreedy f q →
    (reading f (bytes_of f p ++ bytes_of f q) ≡ reading f (bytes_of f p) ++ reading f (bytes_of f q)) ↔ NoneCrosses f (bytes_of f p) (bytes_of f q)
split_pieces f p q are_pieces others is_greedy other_is_greedy =
    let whole = bytes_of f p ++ bytes_of f q in
    let cuts : IsCutting f whole (p ++ q) = (joined_pieces p q are_pieces others, bytes_of_joined f p q) in
    let text : text_of (p ++ q) ≡ reading f (bytes_of f p) ++ reading f (bytes_of f q) =
    rw (
      map-append,
      places f (bytes_of f p) p (are_pieces, refl) is_greedy,
      places f (bytes_of f q) q (others, refl) other_is_greedy,
    ) in (
      λ same. none_crosses_joined f p q are_pieces (greedy_by_text f whole (p ++ q) cuts (text ∙ sym same)),
      λ crosses. sym (places f whole (p ++ q) cuts (joined_greedy f p q is_greedy other_is_greedy crosses)) ∙ text,
    )

-- The lossy reading of the whole is that of its two parts if and only if no character crosses.
pub split : Split
split f a b =
    let front = greedy_cutting f a in
    let back = greedy_cutting f b in
    let by_pieces = split_pieces f front.pieces back.pieces front.cuts.0 back.cuts.0 front.greedy back.greedy in
    rw (front.cuts.1, back.cuts.1) at by_pieces
