-- The greedy cutting replaces fewer bytes than every other cutting of the same bytes.
use Rattle.std.proofs.Common.{◌≡◌, ℕ, zero, suc, ◌+◌, ◌-◌, ◌*◌, ◌<◌, ◌≤◌, ◌⊎◌, List, [], ◌∷◌, ◌++◌, refl, sym, ap, ◌∙◌, inl, arith, length, drop, length-append}
use Rattle.std.proofs.Math.Seq.{drop-append_seam}
use Rattle.cesu8_text.specs.Utf16.{units_of}
use Rattle.cesu8_text.specs.Encoding.{Flavor, form, encoding}
use Rattle.cesu8_text.specs.Reading.{BeginsWith, NoneBegins, width, reading}
use Rattle.cesu8_text.specs.Cutting.{Piece, Character, Replaced, bytes_of_piece, bytes_of, text_of, IsPiece, ArePieces, IsCutting, IsGreedy, cost}
use Rattle.cesu8_text.specs.Laws.{Fewest}
use Rattle.cesu8_text.proofs.encoding.Encodings.{encoding_nil, encoding_cons}
use Rattle.cesu8_text.proofs.encoding.Lengths.{length_of_character}
use Rattle.cesu8_text.proofs.encoding.Unique.{same_character}
use Rattle.cesu8_text.proofs.reading.Inside.{none_inside}
use Rattle.cesu8_text.proofs.reading.Greedy.{places}
use Rattle.cesu8_text.proofs.reading.Cuttings.{greedy_cutting}

-- A piece has at least one byte.
some_bytes : (f : Flavor) (piece : Piece) → IsPiece piece → 0 < length (bytes_of_piece f piece)
some_bytes f piece is_piece = grind (arith, length_of_character)

-- Only the empty cutting has no bytes.
no_pieces : (f : Flavor) (pieces : List Piece) → ArePieces pieces → length (bytes_of f pieces) ≡ 0 → pieces ≡ []
no_pieces f [] are_pieces empty = refl
no_pieces f (piece ∷ pieces) are_pieces empty = grind (arith, some_bytes f piece, length-append)

-- The cutting replaces each of the first n bytes, and the other pieces are a cutting of the rest.
record After (f : Flavor) (n : ℕ) (pieces : List Piece) : Type 0 where
  left : List Piece
  cuts : IsCutting f (drop n (bytes_of f pieces)) left
  costs : cost pieces ≡ n + cost left

-- If no character begins at the first n offsets, a cutting replaces each of these n bytes.
after : (f : Flavor) (n : ℕ) (pieces : List Piece) → ArePieces pieces → n ≤ length (bytes_of f pieces) →
    ((j : ℕ) → j < n → NoneBegins f (drop j (bytes_of f pieces))) → After f n pieces
after f zero pieces are_pieces long none_begins =
    record { left = pieces; cuts = (are_pieces, refl); costs = omega arith }
after f (suc n) [] are_pieces long none_begins = absurd (omega arith)
after f (suc n) (Character c ∷ pieces) are_pieces long none_begins =
    grind (arith, none_begins 0 (omega arith) c (bytes_of f pieces))
after f (suc n) (Replaced b ∷ pieces) are_pieces long none_begins =
    let more = after f n pieces are_pieces.1 (omega arith) (λ j before. none_begins (suc j) (omega arith)) in
    record { left = more.left; cuts = more.cuts; costs = omega (arith, more.costs) }

-- Every cutting of the same bytes as a greedy one is equal to it or costs more. If it replaces the
-- first byte of a character that the greedy one keeps, it replaces all bytes of that character,
-- since no character begins inside another.
least : (f : Flavor) (greedy other : List Piece) → ArePieces greedy → IsGreedy f greedy → IsCutting f (bytes_of f greedy) other →
    (other ≡ greedy) ⊎ (cost greedy < cost other)
least f [] other are_pieces is_greedy cuts = inl (no_pieces f other cuts.0 (ap length cuts.1))
least f greedy [] are_pieces is_greedy cuts = inl (sym (no_pieces f greedy are_pieces (ap length (sym cuts.1))))
least f (Character c ∷ greedy) (Character d ∷ other) are_pieces is_greedy cuts =
    grind (
      arith,
      same_character f (encoding f (c ∷ []) ++ bytes_of f greedy) d c (bytes_of f other) (bytes_of f greedy),
      least f greedy other are_pieces.1 is_greedy,
    )
least f (Character c ∷ greedy) (Replaced b ∷ other) are_pieces is_greedy cuts =
    let whole = b ∷ bytes_of f other in
    let long = some_bytes f (Character c) are_pieces.0 in
    let begins : BeginsWith f whole c (bytes_of f greedy) = record { scalar = are_pieces.0; bytes_are = cuts.1 } in
    let more = after f (width f c - 1) other cuts.0.1 (grind (arith, long, ap length cuts.1, length-append))
    (λ j before d tail other_begins.
    none_inside f whole c d (suc j) (bytes_of f greedy) begins (tail, other_begins) (omega arith) (omega arith)) in
    let width_is : suc (width f c - 1) ≡ width f c = omega arith in
    let rest : drop (suc (width f c - 1)) whole ≡ bytes_of f greedy =
    rw (width_is, cuts.1, drop-append_seam (encoding f (c ∷ [])) (bytes_of f greedy)) in
    grind (arith, more.costs, long, least f greedy more.left are_pieces.1 is_greedy (rw rest at more.cuts))
least f (Replaced b ∷ greedy) (piece ∷ other) are_pieces is_greedy cuts =
    grind (arith, is_greedy.0, least f greedy other are_pieces.1 is_greedy.1)

-- The greedy cutting has the fewest replaced bytes.
pub fewest : Fewest
fewest f bytes =
    let cutting = greedy_cutting f bytes in (
      cutting.pieces,
      cutting.cuts,
      cutting.greedy,
      places f bytes cutting.pieces cutting.cuts cutting.greedy,
      λ other cuts. least f cutting.pieces other cutting.cuts.0 cutting.greedy
          (cuts.0, cuts.1 ∙ sym cutting.cuts.1),
    )

-- U+FFFD is encoded as three bytes.
width_of_replacement : (f : Flavor) → length (encoding f (0xFFFD ∷ [])) ≡ 3
unfolding encoding form units_of
width_of_replacement f = refl

-- The cost of a cutting follows from its bytes and its text: each replaced byte becomes the three
-- bytes of U+FFFD, two more.
cost_by_text : (f : Flavor) (pieces : List Piece) → length (bytes_of f pieces) + 2 * cost pieces ≡ length (encoding f (text_of pieces))
cost_by_text f [] = grind (arith, encoding_nil)
cost_by_text f (piece ∷ pieces) =
    grind (arith, width_of_replacement, encoding_cons, length-append, cost_by_text f pieces)

-- A cutting whose text is the lossy reading is greedy, since it costs as much as the greedy one.
pub greedy_by_text : (f : Flavor) (bytes : List ℕ) (pieces : List Piece) → IsCutting f bytes pieces →
    text_of pieces ≡ reading f bytes → IsGreedy f pieces
greedy_by_text f bytes pieces cuts reads =
    let best = fewest f bytes in
    grind (arith, best.4 pieces cuts, cost_by_text f pieces, cost_by_text f best.0, best.3, best.2, best.1.1)
