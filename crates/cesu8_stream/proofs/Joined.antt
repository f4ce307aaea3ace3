-- What two calls, one after the other, read and wrote, as if they were one call: for instance the
-- steps of `convert_rest` (src/engine.rt).
use Rattle.std.proofs.Common.{◌≡◌, ℕ, ◌+◌, ◌-◌, ◌≤◌, List, [], ◌∷◌, ◌++◌, refl, sym, ap, ◌∙◌, arith, length, take, drop, append_assoc, length-append, length-drop}
use Rattle.std.proofs.lemmas.Grind.{common_steps}
use Rattle.std.proofs.lemmas.List.{take_rest}
use Rattle.std.proofs.Math.Seq.{take-add}
use Rattle.simd_cesu8.specs.Text.{IsText}
use Rattle.simd_cesu8.specs.Slices.{StandsAtFront}
use Rattle.cesu8_stream.specs.Written.{IsWritten, Converts}

-- A way of writing writes a concatenation as the concatenation of what it writes.
abbrev pub Appends : (List ℕ → List ℕ) → Type 0
Appends write = (s t : List ℕ) → write (s ++ t) ≡ write s ++ write t

-- Two texts, joined, are a text.
pub joined_text : (s t : List ℕ) → IsText s → IsText t → IsText (s ++ t)
joined_text [] t is_text other = other
joined_text (c ∷ s) t is_text other = (is_text.0, joined_text s t is_text.1 other)

-- To drop m + n bytes is to drop m bytes and then n.
pub drop_more : (m n : ℕ) (bytes : List ℕ) → drop (m + n) bytes ≡ drop n (drop m bytes)
drop_more m n bytes = grind (arith, common_steps)

-- The text of what two calls read is what both read, joined.
pub joined_written : (write : List ℕ → List ℕ) (m n : ℕ) (bytes s t : List ℕ) → Appends write →
    IsWritten write (take m bytes) s → IsWritten write (take n (drop m bytes)) t →
    IsWritten write (take (m + n) bytes) (s ++ t)
joined_written write m n bytes s t append first second = (
  joined_text s t first.0 second.0,
  append s t ∙ (λ i. first.1 i ++ second.1 i) ∙ sym (take-add m n bytes),
)

-- What two calls wrote stands at the front of the buffer, joined. The second call wrote to the rest
-- of the buffer, which is `new` after it.
pub joined_front : (a b : List ℕ) (w v : ℕ) (old mid new : List ℕ) → StandsAtFront a w old mid →
    StandsAtFront b v (drop w mid) new → StandsAtFront (a ++ b) (w + v) old (take w mid ++ new)
joined_front a b w v old mid new first second =
    let before : take w mid ≡ a = ap (take w) first.1 ∙ rw (first.0) (grind (arith, common_steps)) in
    let after : drop w mid ≡ drop w old = ap (drop w) first.1 ∙ rw (first.0) (grind (arith, common_steps)) in (
      rw (first.0, second.0) (sym (length-append a b)),
      rw (before, second.1, after, drop_more w v old) (sym (append_assoc a b (drop v (drop w old)))),
    )

-- Two calls in a row are one: the first reads m bytes and writes w, the second n and v.
pub joined : (from to : List ℕ → List ℕ) (bytes old mid new : List ℕ) (m w n v : ℕ) → Appends from → Appends to →
    Converts from to bytes m w old mid → Converts from to (drop m bytes) n v (drop w mid) new →
    Converts from to bytes (m + n) (w + v) old (take w mid ++ new)
joined from to bytes old mid new m w n v append_from append_to first second = (
  first.0 ++ second.0,
  joined_written from m n bytes first.0 second.0 append_from first.1 second.1,
  rw (append_to first.0 second.0) (joined_front (to first.0) (to second.0) w v old mid new first.2 second.2),
)

-- `Converts` holds of no bytes, if the buffer is unchanged.
pub nothing : (from to : List ℕ → List ℕ) (bytes old new : List ℕ) → from [] ≡ [] → to [] ≡ [] → new ≡ old →
    Converts from to bytes 0 0 old new
nothing from to bytes old new from_empty to_empty same =
    ([], (tt, from_empty), (rw to_empty refl, rw (to_empty, same) refl))

-- What was written fits in the buffer.
pub written_fits : (answer old new : List ℕ) (w : ℕ) → StandsAtFront answer w old new → w ≤ length new
written_fits answer old new w h =
    let all : length new ≡ length answer + length (drop w old) = ap length h.1 ∙ length-append answer (drop w old) in
    omega (arith, h.0, all)

-- What was written to a buffer and to the rest of it fits in the buffer.
pub both_fit : (text answer old buf new : List ℕ) (w n : ℕ) → StandsAtFront text w old buf →
    length new ≡ length (take (length buf - w) (drop w buf)) →
    StandsAtFront answer n (take (length buf - w) (drop w buf)) new → w + n ≤ length buf
both_fit text answer old buf new w n first long h =
    let within = written_fits text old buf w first in
    let fits = written_fits answer (take (length buf - w) (drop w buf)) new n h in
    omega (arith, within, fits, length-drop w buf, rw take_rest at long)
