-- What the lossy decoder reads by windows (src/lossy_windows.rt). `ReadsOn` says that a call has
-- read n bytes and written w bytes of UTF-8, and that what follows is read by itself.
use Rattle.std.proofs.Common.{◌≡◌, ℕ, List, [], ◌++◌, Bool, false, refl, sym, ap, ◌∙◌, take, drop, append_assoc}
use Rattle.std.proofs.lemmas.List.{take-append-drop}
use Rattle.simd_cesu8.specs.Text.{IsText, utf8}
use Rattle.simd_cesu8.specs.Slices.{StandsAtFront}
use Rattle.simd_cesu8.specs.Encoding.{Flavor, encoding}
use Rattle.simd_cesu8.specs.Reading.{reading}
use Rattle.simd_cesu8.specs.Laws.{Split}
use Rattle.cesu8_stream.specs.Written.{NoneCrosses}
use Rattle.cesu8_stream.specs.Lossy.{ReadsOn}

-- If no character crosses from one part to the other, the reading of both is that of the first and
-- then that of the second.
pub parts_read : Split → (f : Flavor) (first others : List ℕ) → NoneCrosses (encoding f) first others →
    reading f (first ++ others) ≡ reading f first ++ reading f others
parts_read split f first others none =
    (split f first others).1 (λ i c stands low.
    none i c low (record { scalar = stands.1.scalar; rest = stands.0; bytes_are = stands.1.bytes_are }))

-- If the first n bytes are read as a text whatever follows them, and its UTF-8 is at the front of
-- the buffer, a call has read these n bytes.
pub window_read : (reading : List ℕ → List ℕ) (bytes old new : List ℕ) (n w : ℕ) → IsText (reading (take n bytes)) →
    ((more : List ℕ) →
    reading (take n bytes ++ (drop n bytes ++ more)) ≡ reading (take n bytes) ++ reading (drop n bytes ++ more)) →
    StandsAtFront (utf8 (reading (take n bytes))) w old new → ReadsOn reading false bytes n w old new
window_read reading bytes old new n w is_text parts written = (
  reading (take n bytes),
  is_text,
  written,
  (λ more _.
      ap reading (ap (λ bs. bs ++ more) (sym (take-append-drop n bytes)) ∙ append_assoc (take n bytes) (drop n bytes) more)
      ∙ parts more),
)

-- `ReadsOn` holds of no bytes, if the buffer is unchanged.
pub nothing_read_on : (reading : List ℕ → List ℕ) (bytes old new : List ℕ) → new ≡ old → ReadsOn reading false bytes 0 0 old new
nothing_read_on reading bytes old new same = ([], tt, (refl, same), (λ more _. refl))

-- What is read whatever follows is also read if nothing follows, as after the last piece.
pub read_whatever : (reading : List ℕ → List ℕ) (is_last : Bool) (bytes old new : List ℕ) (n w : ℕ) →
    ReadsOn reading false bytes n w old new → ReadsOn reading is_last bytes n w old new
read_whatever reading is_last bytes old new n w reads =
    (reads.0, reads.1, reads.2, (λ more _. reads.3 more (λ e. absurd (let h = e in cc))))
