-- Each store begins after the replacement characters that are already written, and writes ten more
-- (`AT_ONCE`), which are 30 bytes. Of the last store only `left` characters count.
use Rattle.std.proofs.Common.{◌≡◌, ◌+◌, ◌-◌, ◌*◌, arith, refl, subst, replicate}
use Rattle.cesu8_text.specs.Text.{utf8, utf8_of}
use Rattle.cesu8_bytes.specs.Puts.{WritesAt}
use Rattle.cesu8_decode.proofs.decoder.EventsDecoded.{replacements_stored}
use Rattle.cesu8_decode.proofs.pass.events.put_replacements.Goals as goal

pub loop-left-preserved : goal.loop-left-preserved
unfolding utf8_of
loop-left-preserved c =
    let loop = c.loop-left in
    let many : c.args.count - loop.left + 10 ≡ c.args.count - (loop.left - 10) = omega (arith, loop.invariant.few, c.loop-left-test.true) in
    record {
      few = omega (arith, loop.invariant.few);
      end = omega (arith, loop.invariant.end, c.loop-left-test.true);
      written =
          subst (λ m. WritesAt (utf8 (replicate m 0xFFFD)) c.args.end c.args.out.now c.put_lanes-end.new.out (loop.end + 30)) many
          (replacements_stored (c.args.count - loop.left) 10 c.args.end loop.end _ _ c.args.out.now loop.out c.put_lanes-end.new.out (omega arith) refl
          loop.invariant.written c.put_lanes-end.ensures.writes (omega (arith, loop.invariant.end, loop.auto.out, c.requires.room)));
    }

pub returns : goal.returns
unfolding utf8_of
returns c =
    let loop = c.loop-left in
    let many : c.args.count - loop.left + loop.left ≡ c.args.count = omega (arith, loop.invariant.few) in
    subst (λ m. WritesAt (utf8 (replicate m 0xFFFD)) c.args.end c.args.out.now c.put_lanes.new.out (loop.end + 3 * loop.left)) many
    (replacements_stored (c.args.count - loop.left) loop.left c.args.end loop.end _ _ c.args.out.now loop.out c.put_lanes.new.out c.loop-left-test.false refl
    loop.invariant.written c.put_lanes.ensures.writes (omega (arith, loop.invariant.end, loop.auto.out, c.requires.room)))
