-- A surrogate pair that begins where the pass stands takes it six bytes further, and four bytes are
-- written. The pair begins before `last`, so at most `limit` bytes were written before it (`room`).
use Rattle.std.proofs.Common.{◌≤◌, refl, arith, length-drop}
use Rattle.std.proofs.Math.Nat.{mul-div-le}
use Rattle.std.proofs.lemmas.List.{take_rest}
use Rattle.cesu8_decode.specs.Decoding.{pass_from}
use Rattle.cesu8_decode.proofs.decoder.Passes.{pass_at, goes_nowhere, goes_further, pair_goes_on}
use Rattle.cesu8_decode.proofs.pass.windows.write_pairs.Goals as goal

pub loop-at-init : goal.loop-at-init
loop-at-init g c = record {
  used = omega arith;
  more = λ which. goes_nowhere g.F.Flavor.flavor which c.args.bytes.now (pass_from c.args.read) c.args.out.now
      (λ _. c.requires.pass) c.requires.pass.within refl (omega arith);
}

pub loop-at-preserved : goal.loop-at-preserved
loop-at-preserved g c =
    let f = g.F.Flavor.flavor in
    let bytes = c.args.bytes.now in
    let at = c.loop-at.at in
    let so_far = c.loop-at.invariant.more in
    let put = c.put-end.ensures in
    let room : c.loop-at.end ≤ c.args.limit =
    omega (arith, c.loop-at.invariant.used, c.loop-at-test.true, c.saturating_sub-last.ensures, c.min.ensures, mul-div-le c.args.limit 4) in
    record {
      used = omega (arith, c.loop-at.invariant.used, put.writes.end);
      more = λ which.
          goes_further f which bytes (pass_from c.args.read) (pass_at at c.loop-at.end) _ _ _ _ (so_far which) refl
          (pair_goes_on f which bytes at c.loop-at.end c.put-end.result ((so_far which).pass refl)
          (omega (arith, c.loop-at-test.true, c.saturating_sub-last.ensures, c.min.ensures, length-drop at bytes))
          (rw take_rest at (c.is_pair.ensures.0 c.if-is_pair.true))
          c.utf8_of_pair.result _ _ (rw take_rest at c.utf8_of_pair.ensures) put
          (omega (arith, put.writes.end, put.writes.len, (so_far which).len, room, c.requires.room)));
    }
