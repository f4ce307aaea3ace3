-- The shuffles take 32 successive bytes of the two vectors, from one to four bytes before the
-- block.
use Rattle.std.proofs.Common.{◌≡◌, ℕ, ◌+◌, ◌≤◌, List, [], ◌∷◌, ◌++◌, refl, ◌∙◌, sym, ap, arith, length, length-append, length-drop, drop, take, take_all}
use Rattle.std.proofs.lemmas.List.{drop-drop}
use Rattle.std.proofs.lemmas.Simd.{pick_l-range_with_len}
use Rattle.std.specs.List.{range_with_len}
use lib.Lanes.{chunk, pick_l}
use Rattle.cesu8_decode.proofs.lanes.following.block_after.Goals as goal

-- A shuffle of two vectors is 32 successive bytes of the window, which begins at lane 28 of the
-- two: four bytes (`DECIDING`) before the block.
picked : (lanes : List ℕ) (k : ℕ) → 28 + k + 32 ≤ length lanes → pick_l 0 lanes (range_with_len (28 + k) 32) ≡ chunk k 32 (drop 28 lanes)
picked lanes k room = pick_l-range_with_len 0 lanes (28 + k) 32 room ∙ ap (take 32) (sym (drop-drop k 28 lanes))

drop_all_before : (before bytes : List ℕ) → drop (length before) (before ++ bytes) ≡ bytes
drop_all_before [] bytes = refl
drop_all_before (b ∷ before) bytes = drop_all_before before bytes

pub returns : goal.returns
returns c s =
    let lanes = c.args.before ++ c.args.bytes in
    let long : length lanes ≡ 64 = omega (arith, length-append c.args.before c.args.bytes, c.fits-before.0, c.fits-bytes.0) in
    record {
      room = omega (arith, length-drop 28 lanes, long);
      bytes = sym (ap (take 32) (drop-drop 4 28 lanes ∙ ap (λ n. drop n lanes) (sym c.fits-before.0) ∙ drop_all_before c.args.before c.args.bytes)
          ∙ take_all 32 c.args.bytes (omega (arith, c.fits-bytes.0)));
      one_before = picked lanes 3 (omega (arith, long));
      two_before = picked lanes 2 (omega (arith, long));
      three_before = λ _. picked lanes 1 (omega (arith, long));
      four_before = λ _. picked lanes 0 (omega (arith, long));
    }
