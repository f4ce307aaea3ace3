-- What was taken so far was converted and written. The unread bytes at the front of the window come
-- next in the input, which may go on after them (`false`).
use Rattle.std.proofs.Common.{◌≤◌, false, length, take}
use Rattle.cesu8conv_run.specs.Stream.{IsSoFar}
use Rattle.cesu8conv_run.proofs.convert.convert.Given as goal

abbrev pub invariant-loop : goal.invariant-loop
invariant-loop g l = record {
  unread_fits : l.unread ≤ length l.window;
  so_far : IsSoFar l.conversion false (g.R.Read.remaining l.initial.input) (g.R.Read.remaining l.input)
      (g.W.Write.contents l.initial.output) (g.W.Write.contents l.output) (take l.unread l.window) l.offset;
}
