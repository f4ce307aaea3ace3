-- Text that is written to a slice chunk by chunk, for `put_chunks`.
use Rattle.std.proofs.Common.{◌≡◌, ℕ, ◌≤◌, List, [], ◌++◌, refl, sym, ap, ◌∙◌, length, take, drop}
use Rattle.std.proofs.lemmas.List.{take-append-drop, length-take-le}
use Rattle.cesu8_text.specs.Text.{utf8}
use Rattle.cesu8_text.specs.Encoding.{Flavor}
use Rattle.cesu8_text.specs.Reading.{reading}
use Rattle.cesu8_text.specs.Slices.{StandsAtFront}
use Rattle.cesu8_bytes.specs.declared.strictness.Strictness.TheVariants.{Lossy}
use Rattle.cesu8_decode.proofs.by_offset.IllFormed.{IsChunk}
use Rattle.cesu8_decode.proofs.chunks.ReadChunks.{all_read}

-- If all bytes are decoded, their lossy reading is at the start of the slice.
pub all_written : (f : Flavor) (bytes old new : List ℕ) (end : ℕ) → IsChunk f Lossy bytes [] (take end new) → end ≤ length new →
    drop end new ≡ drop end old → StandsAtFront (utf8 (reading f bytes)) end old new
all_written f bytes old new end chunk inside same =
    let all = all_read f Lossy bytes [] [] (take end new) chunk refl in
    let is : take end new ≡ utf8 (reading f bytes) = all.2 ∙ ap utf8 all.1.1 in (
      sym (length-take-le end new inside) ∙ ap length is,
      sym (take-append-drop end new) ∙ ap (λ bs. bs ++ drop end new) is ∙ ap (λ bs. utf8 (reading f bytes) ++ bs) same,
    )
