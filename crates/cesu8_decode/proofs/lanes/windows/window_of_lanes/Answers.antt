-- The window ends with its first `count` bytes, or with a character that begins in them and ends
-- later. `rest` is how many bytes of that character come after them: as many bits in a row are set
-- in the mask of covered bytes from bit `count` on, and none if `count` is 64 (`LANES`). `alike`
-- says that the lanes are the bytes at `at`, and `boundary` that a character boundary is there.
use Rattle.std.proofs.Common.{◌≤◌, length, ◌∙◌, sym, subst, arith}
use Rattle.cesu8_decode.proofs.decoder.WindowMasks.{Ends, window_is, by_ones, no_ends}
use Rattle.cesu8_decode.proofs.lanes.windows.window_of_lanes.Goals as goal
use Rattle.cesu8_decode.proofs.lanes.windows.window_of_lanes.Goals.{then-count-eq-LANES, else-count-eq-LANES}

pub returns : goal.returns
returns g c bytes at alike boundary =
    let f = g.F.Flavor.flavor in
    let lanes = c.args.lanes in
    let n = c.args.count in
    let masks = c.masks_of-masks.result in
    let rest = c.if-count-eq-LANES.rest in
    let short : length lanes ≤ 64 = omega (arith, c.fits-lanes.0, c.requires.lanes) in
    let few : n ≤ 64 = omega (arith, c.requires.lanes, c.requires.count) in
    let ends : Ends f bytes at n boundary rest = elim c.if-count-eq-LANES.branch [
      | then-count-eq-LANES w ↦
          subst (λ r. Ends f bytes at n boundary r) (sym w.rest-is) (no_ends f bytes at n boundary w.if-count-eq-LANES.true)
      | else-count-eq-LANES w ↦
          subst (λ r. Ends f bytes at n boundary r) (sym (w.rest-is ∙ w.trailing_ones.ensures))
          (by_ones f lanes bytes at n rest masks short few alike boundary c.masks_of-masks.ensures (omega (arith, few, w.if-count-eq-LANES.false)))
    ] in
    window_is f lanes bytes at n rest masks short few alike boundary c.masks_of-masks.ensures ends
