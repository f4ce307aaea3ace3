-- Text that is read piece by piece, for `append_piece` of src/pieces.rt. It calls `decode_strict`
-- of `cesu8_stream`, whose contract is `ConvertsPiece`: a character has at most 4 bytes in the
-- output. `old` and `new` are the buffer before and after that call, and `before` and `after` the
-- argument `text` before and after `append_piece`.
use Rattle.std.proofs.Common.{◌≡◌, ℕ, ◌+◌, ◌-◌, ◌≤◌, List, [], ◌∷◌, ◌++◌, refl, sym, ap, ◌∙◌, arith, length, take, drop, replicate, length-append, length-drop}
use Rattle.std.proofs.Math.Seq.{take-append-add, take-append_seam}
use Rattle.std.proofs.lemmas.List.{take-append-drop, take-append-le, take-take, take_at, take_all, take_rest, drop_all}
use Rattle.std.proofs.lemmas.List.Edits.{take-paste}
use Rattle.std.specs.List.{copy_within}
use Rattle.std.proofs.lemmas.Grind.{flat_map-append}
use Rattle.simd_cesu8.specs.Text.{IsScalarValue, IsText, utf8_of, utf8}
use Rattle.simd_cesu8.specs.Encoding.{Cesu8, encoding}
use Rattle.simd_cesu8.specs.Reading.{IsStrictReading}
use Rattle.simd_cesu8.specs.Laws.{Concat, Bounds}
use Rattle.cesu8_stream.specs.Written.{Begins, Converts}
use Rattle.cesu8_stream.specs.Streams.{ConvertsPiece}
use Rattle.cesu8_stream.specs.declared.progress.Progress.{Progress}
use Rattle.cesu8_stream.specs.declared.progress.State.{State}
use Rattle.cesu8_stream.specs.declared.progress.State.TheVariants.{InputEmpty, Incomplete, OutputFull, Malformed}
use Rattle.uses.specs.Pieces.{Moves, Says}

-- A text and one more character are a text.
one_more_is_text : (text : List ℕ) (c : ℕ) → IsText text → IsScalarValue c → IsText (text ++ c ∷ [])
one_more_is_text [] c is_text scalar = (scalar, tt)
one_more_is_text (d ∷ text) c is_text scalar = (is_text.0, one_more_is_text text c is_text.1 scalar)

-- In a buffer as long as the bytes, the next character fits: with it, the text is at most as long
-- as its encoding.
next_fits : Bounds → Concat → (bytes old new : List ℕ) (read written c : ℕ) → length old ≡ length bytes →
    Converts (encoding Cesu8) utf8 bytes read written old new → Begins (encoding Cesu8) (drop read bytes) c →
    written + length (utf8 (c ∷ [])) ≤ length old
next_fits bounds concat bytes old new read written c same moves begins =
    let text = moves.0 in
    let next = encoding Cesu8 (c ∷ []) in
    let joined : encoding Cesu8 (text ++ c ∷ []) ≡ take read bytes ++ next =
    concat Cesu8 text (c ∷ []) ∙ ap (λ bs. bs ++ next) moves.1.1 in
    let is_reading : IsStrictReading Cesu8 (take read bytes ++ next) (text ++ c ∷ []) =
    (one_more_is_text text c moves.1.0 begins.scalar, joined) in
    let bound = bounds.1 Cesu8 (take read bytes ++ next) (text ++ c ∷ []) is_reading in
    let utf8_joined : length (utf8 (text ++ c ∷ [])) ≡ length (utf8 text) + length (utf8 (c ∷ [])) =
    ap length (flat_map-append utf8_of text (c ∷ [])) ∙ length-append (utf8 text) (utf8 (c ∷ [])) in
    let all : bytes ≡ take read bytes ++ (next ++ begins.rest) =
    sym (take-append-drop read bytes) ∙ ap (λ bs. take read bytes ++ bs) begins.bytes_are in
    let size : length bytes ≡ length (take read bytes) + (length next + length begins.rest) =
    ap length all ∙ length-append (take read bytes) (next ++ begins.rest)
    ∙ ap (λ n. length (take read bytes) + n) (length-append next begins.rest) in
    let written_is = moves.2.0 in
    omega (arith, length-append (take read bytes) next)

-- The state says what the bytes are that the call did not read. It is not `OutputFull`, since the
-- buffer is as long as the bytes.
pub left_says : Bounds → Concat → (bytes rest old new : List ℕ) (progress : Progress) →
    ConvertsPiece (encoding Cesu8) utf8 4 bytes progress old new → length old ≡ length bytes → rest ≡ drop progress.read bytes →
    Says progress.state rest
left_says bounds concat bytes rest old new progress piece same left = rw left (by progress.state refl)
  where
    by : (state : State) → progress.state ≡ state → Says state (drop progress.read bytes)
    by InputEmpty is = let all = piece.input_empty.0 is in drop_all progress.read bytes (omega arith)
    by Incomplete is = piece.incomplete.0 is
    by OutputFull is =
        let longer = piece.output_full.0 is in
        let fits = next_fits bounds concat bytes old new progress.read progress.written longer.0 same piece.text longer.1 in
        let long = longer.2 in
        absurd (omega arith)
    by Malformed is = piece.malformed.0 is

-- The text is moved: its UTF-8 was written at the start of the buffer.
pub moved : (bytes rest before after old new : List ℕ) (progress : Progress) →
    ConvertsPiece (encoding Cesu8) utf8 4 bytes progress old new → rest ≡ drop progress.read bytes →
    after ≡ before ++ take progress.written new → Moves bytes rest before after
moved bytes rest before after old new progress piece left is =
    let text = piece.text.0 in
    let n = progress.read in
    let w = progress.written in
    let end : take w new ≡ utf8 text =
    ap (take w) piece.text.2.1 ∙ take_at (utf8 text) (drop w old) w (sym piece.text.2.0) in (
      text,
      piece.text.1.0,
      sym (take-append-drop n bytes) ∙ ap (λ bs. bs ++ drop n bytes) (sym piece.text.1.1)
          ∙ ap (λ bs. encoding Cesu8 text ++ bs) (sym left),
      is ∙ ap (λ bs. before ++ bs) end,
    )

-- What was written is within the buffer.
pub written_inside : (bytes old new : List ℕ) (progress : Progress) →
    ConvertsPiece (encoding Cesu8) utf8 4 bytes progress old new → progress.written ≤ length new
written_inside bytes old new progress piece =
    let text = piece.text.0 in
    let size : length new ≡ length (utf8 text) + length (drop progress.written old) =
    ap length piece.text.2.1 ∙ length-append (utf8 text) (drop progress.written old) in
    let written = piece.text.2.0 in
    omega arith

-- A list to which zeros were appended begins with what was there.
pub grown_prefix : (before grown : List ℕ) (n k : ℕ) → length before ≤ n → grown ≡ take n before ++ replicate k 0 →
    take (length before) grown ≡ before
grown_prefix before grown n k fits is =
    ap (take (length before)) is ∙ ap (λ bs. take (length before) (bs ++ replicate k 0)) (take_all n before fits)
    ∙ take-append_seam before (replicate k 0)

-- If `new` was written after `front`, a truncation to `start + end` leaves `front` and the first
-- `end` bytes of `new`, whatever follows (`other`, `more`).
pub written_after : (start end len : ℕ) (front new other more : List ℕ) → length front ≡ start → end ≤ length new → start + end ≤ len →
    take (start + end) (take len ((front ++ (new ++ other)) ++ more)) ≡ front ++ take end new
written_after start end len front new other more long inside fits =
    let place : start + end ≡ length front + end = omega (arith, long) in
    take-take (start + end) len ((front ++ (new ++ other)) ++ more) (omega (arith, fits))
    ∙ take-append-le (start + end) (front ++ (new ++ other)) more (omega (arith, length-append front (new ++ other), length-append new other, long, inside))
    ∙ ap (λ n. take n (front ++ (new ++ other))) place ∙ take-append-add front (new ++ other) end
    ∙ ap (λ bs. front ++ bs) (take-append-le end new other inside)

-- If the bytes after the first n are moved to the start, a truncation to their number leaves just
-- these bytes.
pub rest_moved : (bytes new : List ℕ) (n len end : ℕ) → new ≡ copy_within bytes n end 0 → end ≡ length bytes →
    len ≡ length bytes → n ≤ length bytes → take (len - n) new ≡ drop n bytes
rest_moved bytes new n len end is end_is len_is within =
    let rest = length bytes - n in
    let some : rest ≤ length (drop n bytes) = omega (arith, length-drop n bytes) in
    let zero : 0 + rest ≡ rest = omega arith in
    ap (take (len - n)) (is ∙ ap (λ e. copy_within bytes n e 0) end_is)
    ∙ ap (λ k. take (k - n) (copy_within bytes n (length bytes) 0)) len_is
    ∙ ap (λ k. take k (copy_within bytes n (length bytes) 0)) (sym zero)
    ∙ take-paste bytes 0 (drop n bytes) rest (omega arith) some ∙ take_rest bytes n
