-- The bytes that were written and the rest are together all bytes.
use Rattle.std.proofs.Common.{List, ℕ, ◌≡◌, ◌++◌}
use Rattle.std.specs.Io.KnownBytes.{Appends}
use Rattle.cesu8conv_run.proofs.convert.write_whole.Given as goal

abbrev pub invariant-loop : goal.invariant-loop
invariant-loop g l = record {
  written : List ℕ;
  whole : l.fn.bytes ≡ written ++ l.rest;
  appended : Appends (g.W.Write.contents l.initial.output) (g.W.Write.contents l.output) written;
}
