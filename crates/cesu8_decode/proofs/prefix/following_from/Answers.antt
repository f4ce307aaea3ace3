-- A block is tested by the bytes in it and the four before it (`stop_after`). It begins at `at`, or
-- before it if fewer than 32 bytes are left. All bytes before `at` can follow each other, so the
-- first error in the block is the first error of all.
use Rattle.std.proofs.Common.{◌≡◌, ◌+◌, ◌-◌, ◌<◌, subst, arith}
use Rattle.cesu8_decode.specs.Following.{FirstFollow, FollowUpTo}
use Rattle.cesu8_decode.proofs.decoder.ErrorMasks.{follow_up_to, stop_after}
use Rattle.cesu8_decode.proofs.prefix.following_from.Goals as goal

pub returns-then-len-ne-BLOCK : goal.returns-then-len-ne-BLOCK
returns-then-len-ne-BLOCK g c =
    let s = g.S.CharacterSet.set in
    let f = g.F.Flavor.flavor in
    let bytes = c.args.bytes.now in
    let from = c.min-from.result in
    let len = c.following_len-len.result in
    let is = c.block_at.ensures in
    let less : len < 32 = omega (arith, c.following_len-len.ensures.within bytes (from - 4) is, c.if-len-ne-BLOCK.true) in
    let end : from - 4 + len + 4 ≡ from + len = omega arith in
    subst (FollowUpTo s f bytes) end
    (stop_after s f bytes c.loop-at.at (from - 4) len c.loop-at.invariant.first (omega arith)
    (omega (arith, less)) (c.following_len-len.ensures.follow bytes (from - 4) is)
    (λ more. c.following_len-len.ensures.stops bytes (from - 4) is less))

pub loop-at-preserved : goal.loop-at-preserved
loop-at-preserved g c =
    let s = g.S.CharacterSet.set in
    let f = g.F.Flavor.flavor in
    let bytes = c.args.bytes.now in
    let from = c.min-from.result in
    let len = c.following_len-len.result in
    let is = c.block_at.ensures in
    let within = c.following_len-len.ensures.within bytes (from - 4) is in
    let end : from - 4 + len + 4 ≡ from + 32 = omega (arith, c.if-len-ne-BLOCK.false, within) in
    record {
      first =
          subst (FirstFollow s f bytes) end
          (follow_up_to s f bytes c.loop-at.at (from - 4) len c.loop-at.invariant.first (omega arith)
          (omega (arith, within)) (c.following_len-len.ensures.follow bytes (from - 4) is));
      start = omega arith;
    }
