-- What functions return that write a window. The proofs of `write_well_formed` and `write_lossily`
-- find the lemmas on padded bytes by search, so they name no variable or branch, and a rewritten
-- body keeps its proof.
use Rattle.std.proofs.Common.{false, ◌≡◌, ℕ, ◌+◌, ◌≤◌, List, [], ◌++◌, take, drop, replicate, length, ap, sym, subst, arith, length-drop}
use Rattle.std.proofs.lemmas.List.{length-take-le, take-take}
use Rattle.cesu8_text.specs.Encoding.{Flavor}
use Rattle.cesu8_bytes.specs.Puts.{WritesAt}
use Rattle.cesu8_bytes.specs.declared.strictness.Strictness.{Strictness}
use Rattle.cesu8_bytes.specs.declared.strictness.Strictness.TheVariants.{Lossy, Strict}
use Rattle.cesu8_bytes.proofs.lists.Stored.{first_written}
use Rattle.cesu8_decode.specs.Decoding.{WritesText, most_written}
use Rattle.cesu8_decode.specs.DecodedOffsets.{decoded, window_of}
use Rattle.cesu8_decode.specs.Masks.{IsWindow}
use Rattle.cesu8_decode.specs.declared.lanes.windows.Window.{Window}
use Rattle.cesu8_decode.proofs.decoder.PaddedWindows.{alike_with_zeros, window_of_alike}
use Rattle.cesu8_decode.proofs.decoder.WrittenWindows.{all_decoded, decoded_in, windows_alike, writes_window}

-- A copy of `count` bytes, from offset `at` of `bytes` to offset `end` of a slice, stores `width`
-- bytes. `n` is the end of the copied ones, and `m` that of the stored ones.
pub first_copied : (width count at end m n : ℕ) (bytes old new : List ℕ) → n ≡ end + count → WritesAt (take width (drop at bytes)) end old new m →
    count ≤ width → at + width ≤ length bytes → end ≤ length old → WritesAt (take count (drop at bytes)) end old new n
first_copied width count at end m n bytes old new is writes few inside room =
    let rest = drop at bytes in
    let long = length-take-le width rest (omega (arith, length-drop at bytes, inside)) in
    let first = first_written count end m (take width rest) old new (omega (arith, long, few)) room writes in
    subst (λ bs. WritesAt bs end old new n) (take-take count width rest few) (subst (λ e. WritesAt (take count (take width rest)) end old new e) (sym is) first)

-- ---- at most 64 bytes, with zeros after them

module _ (f : Flavor) (bytes source : List ℕ) (window : Window) (m : ℕ) (padded : source ≡ bytes ++ replicate m 0) where
  -- A window of the bytes is one of the source.
  pub padded_window : IsWindow f bytes 0 window → IsWindow f source 0 window
  padded_window = window_of_alike f bytes source 0 window (λ k. sym (alike_with_zeros bytes source m padded k))

  -- The text of a window of all bytes is that of the bytes.
  pub text_of_padded : (which : Strictness) (end : ℕ) (old new : List ℕ) → IsWindow f source 0 window → window.len ≡ length bytes →
      (which ≡ Strict → window.ill_formed ≡ 0) → WritesAt (decoded f (window_of source) 0 window.len) 0 old new end → WritesText f which bytes end old new
  text_of_padded which end old new is len whole written =
      let writes = writes_window f which source 0 window 0 end old new is whole written in
      let alike = windows_alike source bytes (alike_with_zeros bytes source m padded) in
      record {
        text = all_decoded f which bytes [] _ window.len (decoded_in f which (window_of source) (window_of bytes) [] _ 0 0 window.len false (λ k small. alike (0 + k)) writes.text) len;
        fits = omega (arith, writes.end, ap (most_written which) len);
        len = writes.len;
      }

  pub text_of_padded_lossily : (end : ℕ) (old new : List ℕ) → IsWindow f source 0 window → window.len ≡ length bytes →
      WritesAt (decoded f (window_of source) 0 window.len) 0 old new end → WritesText f Lossy bytes end old new
  text_of_padded_lossily end old new is len written = text_of_padded Lossy end old new is len (λ strict. absurd (let e = strict in cc)) written
