-- The lanes are the bytes with zeros after them. So the window of all offsets ends with the bytes.
use Rattle.std.proofs.Common.{ℕ, List, ◌+◌, ◌<◌, ◌≡◌, ◌++◌, get_or, length, replicate, refl, ap, sym, subst, ◌∙◌, zero-add}
use Rattle.cesu8_decode.specs.Masks.{IsWindow}
use Rattle.cesu8_decode.proofs.by_offset.CharacterBoundaries.{boundary_of_zeros}
use Rattle.cesu8_decode.proofs.decoder.PaddedWindows.{alike_with_zeros, ends_with_bytes}
use Rattle.cesu8_decode.proofs.lanes.windows.window_of_padded.Goals as goal

-- The lanes agree with the bytes at every offset.
lanes_alike : (bytes lanes : List ℕ) (m n : ℕ) → lanes ≡ bytes ++ replicate m 0 → (i : ℕ) → i < n → get_or lanes i 0 ≡ get_or bytes (0 + i) 0
lanes_alike bytes lanes m n is i small = alike_with_zeros bytes lanes m is i ∙ ap (λ k. get_or bytes k 0) (sym (zero-add i))

pub returns : goal.returns
returns g c =
    let f = g.F.Flavor.flavor in
    let bytes = c.args.bytes.now in
    let w = c.window_of_lanes.result in
    let window = c.window_of_lanes.ensures bytes 0 (lanes_alike bytes _ _ _ c.requires.lanes) (boundary_of_zeros f bytes) in record {
      -- The window may be given the length of the bytes, which is its own.
      window = subst (λ n. (is : IsWindow f bytes 0 (record { ill_formed = w.ill_formed; pairs = w.pairs; nulls = w.nulls; len = n })) × (is.n ≡ length bytes))
          (ends_with_bytes f bytes w window.0 window.1) window;
      len = refl;
    }
