-- The lossy reading step by step: the character that begins the bytes, or U+FFFD for a byte that
-- begins none, then the rest. The mark of an offset is what lossy decoding writes for it, and the
-- stretch of a character is the offsets of its bytes.
use Rattle.std.proofs.Common.{◌≡◌, ℕ, suc, zero, ◌+◌, ◌-◌, ◌<◌, ◌≤◌, List, [], ◌∷◌, ◌++◌, refl, sym, ◌∙◌, arith, length, drop, length-append, append_assoc, append-nil, add-zero, zero-add, suc-add}
use Rattle.std.specs.List.{flat_map, range_with_len}
use Rattle.std.proofs.Math.Seq.{drop-append-add}
use Rattle.cesu8_text.specs.Encoding.{Flavor, encoding}
use Rattle.cesu8_text.specs.Reading.{BeginsWith, NoneBegins, LiesWithin, width, IsMark, Stands, Within, Damaged, mark, reading}
use Rattle.cesu8_text.specs.Laws.{NoneCrosses}
use Rattle.cesu8_text.proofs.encoding.Lengths.{length_of_character}
use Rattle.cesu8_text.proofs.reading.Inside.{none_inside}
use Rattle.cesu8_text.proofs.reading.Stretches.{later, earlier, none_crosses_character}
use Rattle.cesu8_text.proofs.reading.Marks.{mark_is, mark_from}

-- The marks of the n offsets from i on.
marks : Flavor → List ℕ → ℕ → ℕ → List ℕ
marks f bytes i n = flat_map (mark f bytes) (range_with_len i n)

-- The marks of m + n offsets are those of the first m, then those of the next n.
marks_split : (f : Flavor) (bytes : List ℕ) (i m n : ℕ) → marks f bytes i (m + n) ≡ marks f bytes i m ++ marks f bytes (i + m) n
unfolding marks
marks_split f bytes i zero n = rw (add-zero i, zero-add n) refl
marks_split f bytes i (suc m) n =
    let offset : i + 1 + m ≡ i + suc m = omega arith in
    rw (suc-add m n, marks_split f bytes (i + 1) m n, offset) (sym (append_assoc (mark f bytes i) _ _))

-- If no character crosses, an offset of the second part that is in a stretch of the whole is in a
-- stretch of the second part.
within_earlier : (f : Flavor) (front back : List ℕ) (i : ℕ) → NoneCrosses f front back →
    LiesWithin f (front ++ back) (length front + i) → LiesWithin f back i
within_earlier f front back i crosses (j, c, stands, before, reaches) =
    let back_stands = earlier f front back (j - length front) c in (
      j - length front,
      c,
      grind (arith, crosses j c stands, back_stands),
      grind (arith, crosses j c stands),
      grind (arith, crosses j c stands),
    )

-- If no character crosses, a mark of the second part is a mark of the whole.
mark_later : (f : Flavor) (front back : List ℕ) (i : ℕ) (m : List ℕ) → NoneCrosses f front back → IsMark f back i m →
    IsMark f (front ++ back) (length front + i) m
mark_later f front back i m crosses (Stands c stands) = Stands c (later f front back i c stands)
mark_later f front back i m crosses (Within none_begins (j, c, stands, before, reaches)) =
    Within (rw drop-append-add none_begins)
    (length front + j, c, later f front back j c stands, omega arith, omega arith)
mark_later f front back i m crosses (Damaged none_begins not_within) =
    Damaged (rw drop-append-add none_begins) (λ within. not_within (within_earlier f front back i crosses within))

-- If no character crosses, the second part has the same marks in the whole.
marks_later : (f : Flavor) (front back : List ℕ) (i n : ℕ) → NoneCrosses f front back →
    marks f (front ++ back) (length front + i) n ≡ marks f back i n
unfolding marks
marks_later f front back i zero crosses = refl
marks_later f front back i (suc n) crosses =
    let offset : length front + i + 1 ≡ length front + (i + 1) = omega arith in
    rw (
      offset,
      marks_later f front back (i + 1) n crosses,
      mark_from f (front ++ back) (length front + i) (mark f back i) (mark_later f front back i _ crosses (mark_is f back i)),
    ) refl

-- If no character crosses, the reading of the whole is the marks of the first part and the reading
-- of the second.
reading_parts : (f : Flavor) (front back : List ℕ) → NoneCrosses f front back →
    reading f (front ++ back) ≡ marks f (front ++ back) 0 (length front) ++ reading f back
unfolding reading marks
reading_parts f front back crosses =
    let seam : 0 + length front ≡ length front + 0 = omega arith in
    rw (
      length-append front back,
      marks_split f (front ++ back) 0 (length front) (length back),
      seam,
      marks_later f front back 0 (length back) crosses,
    ) refl

-- A byte that begins no character is read as U+FFFD.
pub reading_replaced : (f : Flavor) (b : ℕ) (bytes : List ℕ) → NoneBegins f (b ∷ bytes) →
    reading f (b ∷ bytes) ≡ 0xFFFD ∷ reading f bytes
unfolding marks
reading_replaced f b bytes none_begins =
    reading_parts f (b ∷ []) bytes (λ j c stands before. grind (arith, none_begins c stands.0))
    ∙ rw (mark_from f (b ∷ bytes) 0 (0xFFFD ∷ []) (Damaged none_begins (λ within. omega (arith, within.3)))) refl

-- The offsets of a character's stretch after the first have empty marks.
inside_marks : (f : Flavor) (bytes : List ℕ) (c i n : ℕ) (rest : List ℕ) → BeginsWith f bytes c rest → 0 < i → i + n ≤ width f c →
    marks f bytes i n ≡ []
unfolding marks
inside_marks f bytes c i zero rest begins later inside = refl
inside_marks f bytes c i (suc n) rest begins later inside =
    let none : NoneBegins f (drop i bytes) = λ d more other_begins. none_inside f bytes c d i rest begins (more, other_begins) later (omega arith) in
    let here : IsMark f bytes i [] = Within none (0, c, (rest, begins), later, omega arith) in
    grind (arith, mark_from f bytes i [] here, inside_marks f bytes c (i + 1) n rest begins)

-- If a character begins the bytes, the marks of its stretch, joined, are this character alone.
marks_of_prefix : (f : Flavor) (bytes : List ℕ) (c n : ℕ) (rest : List ℕ) → BeginsWith f bytes c rest → suc n ≡ width f c →
    marks f bytes 0 (suc n) ≡ c ∷ []
unfolding marks
marks_of_prefix f bytes c n rest begins all =
    grind (arith, mark_from f bytes 0 (c ∷ []) (Stands c (rest, begins)), inside_marks f bytes c 1 n rest begins)

-- A character that begins the bytes is read first.
pub reading_character : (f : Flavor) (bytes : List ℕ) (c : ℕ) (rest : List ℕ) → BeginsWith f bytes c rest →
    reading f bytes ≡ c ∷ reading f rest
unfolding marks
reading_character f bytes c rest begins =
    let front = encoding f (c ∷ []) in
    let long = length_of_character f c begins.scalar in
    let crosses : NoneCrosses f front rest =
    rw append-nil at (none_crosses_character f c [] rest begins.scalar (λ i d stands before. absurd (omega arith))) in
    grind (
      arith,
      long,
      reading_parts f front rest crosses,
      marks_of_prefix f bytes c (width f c - 1) rest begins,
    )

-- The lossy reading of no bytes is empty.
pub reading_nil : (f : Flavor) → reading f [] ≡ []
unfolding reading
reading_nil f = refl
