-- The pass goes on from the pairs at its start to the windows in place, and from these to the last
-- bytes, if no window is rejected, the buffer has space, and a byte is left.
use Rattle.std.proofs.Common.{◌≡◌, ℕ, ◌<◌, ◌≤◌, arith}
use Rattle.cesu8_decode.proofs.decoder.Passes.{goes_further}
use Rattle.cesu8_decode.proofs.pass.windows.write_windows.Goals as goal

inside : (read long : ℕ) → read ≤ long → ¬ (read ≡ long) → read < long
inside read long low other = omega arith

later : (start between after read : ℕ) → start ≤ between → between ≤ after → after < read → start < read
later start between after read first second third = omega arith

pub write_in_place-pass-requires-clause-before : goal.write_in_place-pass-requires-clause-before
write_in_place-pass-requires-clause-before g c =
    let more = c.write_pairs-pairs.ensures.more c.args.strictness in
    record { pass = more.pass c.write_pairs-pairs.ensures.fine; fine = c.write_pairs-pairs.ensures.fine; end = more.inside }

pub returns-then-pass-clause-more : goal.returns-then-pass-clause-more
returns-then-pass-clause-more g c =
    goes_further g.F.Flavor.flavor c.args.strictness c.args.bytes.now _ _ _ _ _ _ (c.write_pairs-pairs.ensures.more c.args.strictness) c.write_pairs-pairs.ensures.fine c.write_in_place-pass.ensures.more

pub write_last-requires-clause-before : goal.write_last-requires-clause-before
write_last-requires-clause-before g c =
    record { pass = c.write_in_place-pass.ensures.more.pass c.if-pass.false; fine = c.if-pass.false; end = c.if-pass-limit.false }

pub write_last-requires-clause-last : goal.write_last-requires-clause-last
write_last-requires-clause-last g c =
    let pass = c.write_in_place-pass.ensures in
    (inside _ _ pass.more.within.1 c.if-pass-bytes.false, pass.last c.if-pass.false c.if-pass-limit.false)

pub returns-clause-more : goal.returns-clause-more
returns-clause-more g c =
    let f = g.F.Flavor.flavor in
    let which = c.args.strictness in
    let bytes = c.args.bytes.now in
    goes_further f which bytes _ _ _ _ _ _
    (goes_further f which bytes _ _ _ _ _ _ (c.write_pairs-pairs.ensures.more which) c.write_pairs-pairs.ensures.fine c.write_in_place-pass.ensures.more)
    c.if-pass.false c.write_last.ensures.more

pub returns-clause-some : goal.returns-clause-some
returns-clause-some g c =
    λ some. later c.args.read _ _ c.write_last.result.read (c.write_pairs-pairs.ensures.more c.args.strictness).within.0 c.write_in_place-pass.ensures.more.within.0 c.write_last.ensures.some
