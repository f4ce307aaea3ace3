-- The loop of `fill_arena` (src/arena.rt), which writes the encodings of texts to an arena one
-- after another. It begins with no text (`none_yet`), and each round writes one more (`one_more`).
-- If the next one does not fit, the error has how many bytes are missing (`next_missing`). `old` is
-- the arena before the loop, and `now` the arena with `count` texts in its first `used` bytes. The
-- next call writes to the rest of `now`, which then is `part`. `d` is what `get_or` returns outside
-- the list of texts.
use Rattle.std.proofs.Common.{◌≡◌, ℕ, ◌+◌, ◌-◌, ◌<◌, ◌≤◌, List, [], ◌++◌, Bor, refl, sym, ◌∙◌, ap, length, get_or, take, drop, slice_range, slice_set, length-append, append-nil, append_assoc, arith}
use borrow.Rule.Slice.PartMut.{put_mid}
use Rattle.std.proofs.Math.Nat.{lt_of_not-le}
use Rattle.std.proofs.Math.Seq.{drop-append_seam, take-append_seam}
use Rattle.std.proofs.lemmas.List.{drop-drop, drop_all, take_all}
use Rattle.std.proofs.lemmas.Grind.{common_steps}
use Rattle.simd_cesu8.specs.Encoding.{encoding}
use Rattle.simd_cesu8.specs.Laws.{Concat}
use Rattle.simd_cesu8.specs.Slices.{StandsAtFront}
use Rattle.uses.specs.Arena.{HoldsFirst, first_encoded}
use Rattle.uses.proofs.JoinedTexts.{encoded, encoding-joined, encoded_more}

-- At first the arena holds no text.
pub none_yet : (texts : List (Bor (List ℕ))) (arena ends : List ℕ) →
    HoldsFirst texts 0 0 arena arena ends
unfolding encoding
none_yet texts arena ends = record {
  front = (refl, refl);
  ends_are = λ i before. absurd (omega (arith, before));
}

-- With one more text, one more encoding follows the others.
first_encoded_next : Concat → (texts : List (Bor (List ℕ))) (count : ℕ) (d : Bor (List ℕ)) →
    count < length texts →
    first_encoded texts (count + 1) ≡ first_encoded texts count ++ encoded (get_or texts count d)
first_encoded_next concat texts count d inside =
    encoding-joined concat (take (count + 1) texts) ∙ encoded_more texts count d inside
    ∙ ap (λ front. front ++ encoded (get_or texts count d))
    (sym (encoding-joined concat (take count texts)))

-- If the bytes `front` are at the start of the arena, and the bytes `text` are written to the rest,
-- the arena begins with `front ++ text`.
written_next : (front text old now part : List ℕ) (used len : ℕ) → StandsAtFront front used old now →
    StandsAtFront text len (slice_range now used (length now)) part →
    StandsAtFront (front ++ text) (used + len) old
    (put_mid used (length now - used) now part)
written_next front text old now part used len is_front is_part =
    let len_now : length now ≡ length front + length (drop used old) =
    ap length is_front.1 ∙ length-append front (drop used old) in
    let before : take used now ≡ front =
    ap (take used) is_front.1 ∙ ap (λ n. take n (front ++ drop used old)) is_front.0
    ∙ take-append_seam front (drop used old) in
    let after : drop used now ≡ drop used old =
    ap (drop used) is_front.1 ∙ ap (λ n. drop n (front ++ drop used old)) is_front.0
    ∙ drop-append_seam front (drop used old) in
    let all : slice_range now used (length now) ≡ drop used old =
    ap (take (length now - used)) after
    ∙ take_all (length now - used) (drop used old) (omega (arith, len_now, is_front.0)) in
    let none : drop (length now - used) (drop used now) ≡ [] =
    ap (drop (length now - used)) after
    ∙ drop_all (length now - used) (drop used old) (omega (arith, len_now, is_front.0)) in
    let wrote : part ≡ text ++ drop (used + len) old =
    is_part.1 ∙ ap (λ rest. text ++ drop len rest) all
    ∙ ap (λ rest. text ++ rest) (drop-drop len used old) in (
      omega (arith, is_front.0, is_part.0, length-append front text),
      rw (before, none, append-nil part, wrote)
          (sym (append_assoc front text (drop (used + len) old))),
    )

-- So the arena holds one more text, and `ends` has where it ends.
pub one_more : Concat → (texts : List (Bor (List ℕ))) (count used len : ℕ)
    (old now part ends : List ℕ) (d : Bor (List ℕ)) →
    count < length texts → count < length ends → HoldsFirst texts count used old now ends →
    StandsAtFront (encoded (get_or texts count d)) len (slice_range now used (length now)) part →
    HoldsFirst texts (count + 1) (used + len) old
    (put_mid used (length now - used) now part) (slice_set ends count (used + len))
one_more concat texts count used len old now part ends d inside has_end holds is_part =
    let more = first_encoded_next concat texts count d inside in
    let front : StandsAtFront (first_encoded texts (count + 1)) (used + len) old
    (put_mid used (length now - used) now part) =
    rw more (written_next (first_encoded texts count) (encoded (get_or texts count d)) old now part
    used len holds.front is_part) in
    record {
      front = front;
      ends_are = λ i before. let earlier = holds.ends_are i in
          grind (arith, common_steps, front.0, earlier);
    }

-- If the next text does not fit, `missing` is not 0, and the encodings up to this text take
-- `missing` more bytes than the arena has.
pub next_missing : Concat → {texts : List (Bor (List ℕ))} {count used needed : ℕ}
    {old now ends : List ℕ} (d : Bor (List ℕ)) →
    count < length texts → HoldsFirst texts count used old now ends →
    length now ≡ length old → needed ≡ length (encoded (get_or texts count d)) →
    ¬ (length (encoded (get_or texts count d)) ≤ length (slice_range now used (length now))) →
    let missing = needed - (length now - used) in
    (0 < missing) × (length (first_encoded texts (count + 1)) ≡ length old + missing)
next_missing concat {texts} {count} {used} {needed} {old} {now} d inside holds same needed_is too_long =
    let within : used ≤ length now =
    omega (
      arith,
      same,
      holds.front.0,
      ap length holds.front.1
          ∙ length-append (first_encoded texts count) (drop used old),
    ) in
    let len = ap length (first_encoded_next concat texts count d inside) in
    let sum = length-append (first_encoded texts count) (encoded (get_or texts count d)) in
    let left : length (slice_range now used (length now)) ≡ length now - used =
    grind (arith, common_steps) in
    let more : length now - used < needed =
    lt_of_not-le (λ fits. too_long (omega (arith, fits, left, needed_is))) in
    (omega (arith, more), omega (arith, more, len, sum, needed_is, same, within, holds.front.0))
