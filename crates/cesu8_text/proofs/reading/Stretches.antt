-- The stretches of encoded characters don't overlap. Lemmas on the boundary between two lists that
-- no character crosses.
use Rattle.std.proofs.Common.{ℕ, ◌+◌, ◌-◌, ◌<◌, ◌≤◌, List, [], ◌∷◌, ◌++◌, refl, arith, length, drop, length-append, append_assoc}
use Rattle.std.proofs.Math.Seq.{drop-append-add}
use Rattle.std.proofs.lemmas.List.{drop-drop}
use Rattle.std.proofs.lemmas.Bool.{cases_order, cases_lt}
use Rattle.cesu8_text.specs.Text.{IsScalarValue}
use Rattle.cesu8_text.specs.Encoding.{Flavor, encoding}
use Rattle.cesu8_text.specs.Reading.{BeginsWith, StandsAt, width}
use Rattle.cesu8_text.specs.Laws.{NoOverlap, NoneCrosses}
use Rattle.cesu8_text.proofs.encoding.Unique.{same_character}
use Rattle.cesu8_text.proofs.reading.Inside.{none_inside}

-- If two characters begin at different offsets, the later one begins after the stretch of the
-- earlier one.
past : (f : Flavor) (bytes : List ℕ) (i j c d : ℕ) → StandsAt f bytes i c → StandsAt f bytes j d → i < j → i + width f c ≤ j
past f bytes i j c d stands later_stands before =
    grind (arith, none_inside f (drop i bytes) c d (j - i) stands.0, drop-drop (j - i) i bytes, cases_lt j (i + width f c))

-- The stretches of two characters are equal or disjoint.
pub no_overlap : NoOverlap
no_overlap f bytes i j c d stands other_stands =
    grind (
      arith,
      cases_order i j,
      past f bytes i j c d stands other_stands,
      past f bytes j i d c other_stands stands,
      same_character f (drop i bytes) c d stands.0 other_stands.0,
    )

-- A character in the second part is in the whole, at an offset that is greater by the length of the
-- first.
pub later : (f : Flavor) (front back : List ℕ) (i c : ℕ) → StandsAt f back i c → StandsAt f (front ++ back) (length front + i) c
later f front back i c stands = rw drop-append-add stands

-- A character of the whole at or after the boundary is in the second part.
pub earlier : (f : Flavor) (front back : List ℕ) (i c : ℕ) → StandsAt f (front ++ back) (length front + i) c → StandsAt f back i c
earlier f front back i c stands = rw drop-append-add at stands

-- If no character crosses from `piece ++ front` into `back`, none crosses from `front` into it.
pub none_crosses_later : (f : Flavor) (piece front back : List ℕ) → NoneCrosses f (piece ++ front) back → NoneCrosses f front back
none_crosses_later f piece front back crosses i c stands before =
    grind (
      arith,
      crosses (length piece + i) c,
      later f piece (front ++ back) i c stands,
      append_assoc piece front back,
      length-append piece front,
    )

-- If no character crosses from `front` into `back`, none does after a character is put before
-- `front`.
pub none_crosses_character : (f : Flavor) (d : ℕ) (front back : List ℕ) → IsScalarValue d → NoneCrosses f front back →
    NoneCrosses f (encoding f (d ∷ []) ++ front) back
none_crosses_character f d front back scalar crosses i c stands inside =
    let first = encoding f (d ∷ []) in
    let there : StandsAt f (first ++ (front ++ back)) i c = rw (← append_assoc first front back) stands in
    let begins : BeginsWith f (first ++ (front ++ back)) d (front ++ back) =
    record { scalar = scalar; bytes_are = refl } in
    grind (
      arith,
      no_overlap f (first ++ (front ++ back)) 0 i d c (front ++ back, begins) there,
      earlier f first (front ++ back) (i - width f d) c,
      crosses (i - width f d) c,
      length-append first front,
    )
