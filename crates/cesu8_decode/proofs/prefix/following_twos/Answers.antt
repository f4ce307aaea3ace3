-- `two_follow` says that each of the 64 bytes can follow the four before it, so the bytes without
-- an error now end 64 later. `follow_up_to` counts from four bytes before the first of the 64.
use Rattle.std.proofs.Common.{◌≡◌, ◌+◌, ◌-◌, subst, arith}
use Rattle.cesu8_decode.specs.Following.{FirstFollow}
use Rattle.cesu8_decode.proofs.decoder.ErrorMasks.{follow_up_to}
use Rattle.cesu8_decode.proofs.prefix.following_twos.Goals as goal

pub loop-at-preserved : goal.loop-at-preserved
loop-at-preserved g c =
    let s = g.S.CharacterSet.set in
    let f = g.F.Flavor.flavor in
    let at = c.loop-at.at in
    let end : at - 4 + 64 + 4 ≡ at + 64 = omega (arith, c.loop-at.invariant.start, c.requires.start) in
    record {
      first =
          subst (FirstFollow s f c.args.bytes.now) end
          (follow_up_to s f c.args.bytes.now at (at - 4) 64 c.loop-at.invariant.first (omega (arith, c.loop-at.invariant.start, c.requires.start))
          (omega (arith, c.loop-at.invariant.start, c.requires.start, c.loop-at-test.true)) (c.two_follow.ensures c.if-two_follow.true));
      start = omega (arith, c.loop-at.invariant.start);
    }
