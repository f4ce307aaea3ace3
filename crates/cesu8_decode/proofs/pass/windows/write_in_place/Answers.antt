-- A window that begins where the pass stands takes it to the end of the window. Unchanged bytes
-- that are copied after that take it further.
use Rattle.std.proofs.Common.{rules, ◌≡◌, false, arith}
use Rattle.cesu8_decode.proofs.decoder.Passes.{goes_nowhere, goes_further, window_goes_on}
use Rattle.cesu8_decode.proofs.pass.windows.write_in_place.Goals as goal

pub loop-pass-init : goal.loop-pass-init
loop-pass-init g c = record {
  more = goes_nowhere g.F.Flavor.flavor c.args.strictness c.args.bytes.now c.args.before c.args.out.now (λ _. c.requires.before.pass) c.requires.before.pass.within
      c.requires.before.fine c.requires.before.end;
  fresh = λ _. c.requires.before.fine;
}

pub write_window-window-requires-clause-boundary : goal.write_window-window-requires-clause-boundary
write_window-window-requires-clause-boundary g c =
    let fine : c.loop-pass.pass.is_rejected ≡ false = search rules in
    (c.loop-pass.invariant.more.pass fine).boundary

pub loop-pass-preserved : goal.loop-pass-preserved
loop-pass-preserved g c =
    let so_far = c.loop-pass.invariant.more in
    let window = c.write_window-window.ensures in
    record {
      more = window_goes_on g.F.Flavor.flavor c.args.strictness c.args.bytes.now c.args.before c.loop-pass.pass _ _ _ _ _ _ so_far (search rules) (search rules)
          window.boundary window.written (search rules);
      fresh = λ same. absurd (omega (arith, same, so_far.within.0, window.count.0));
    }

pub loop-pass-preserved-then-pass-limit-2 : goal.loop-pass-preserved-then-pass-limit-2
loop-pass-preserved-then-pass-limit-2 g c =
    let f = g.F.Flavor.flavor in
    let which = c.args.strictness in
    let bytes = c.args.bytes.now in
    let window = c.write_window-window.ensures in
    let written = window_goes_on f which bytes c.args.before c.loop-pass.pass _ _ _ _ _ _ c.loop-pass.invariant.more (search rules) (search rules)
    window.boundary window.written (search rules) in
    record {
      more = goes_further f which bytes c.args.before _ _ _ _ _ written (window.unchanged c.if-window.true) (c.copy_unchanged-pass.ensures.more which);
      fresh = λ same. c.copy_unchanged-pass.ensures.fine;
    }

pub loop-pass-smaller-then-pass-limit-2 : goal.loop-pass-smaller-then-pass-limit-2
loop-pass-smaller-then-pass-limit-2 g c =
    let more = c.copy_unchanged-pass.ensures.more c.args.strictness in
    omega (arith, more.within.0, c.write_window-window.ensures.count.0, c.if-bytes-pass-ge-IN_PLACE.true)
