-- The encoding of the first `i` blocks is at the start of the slice.
use Rattle.std.proofs.Common.{◌≡◌, ◌*◌, length}
use Rattle.cesu8_encode.specs.EncodedOffsets.{IsWritten}
use Rattle.cesu8_encode.proofs.blockwise.write_each_block.Given as goal

abbrev pub invariant-loop-i : goal.invariant-loop-i
invariant-loop-i g l = record {
  written : IsWritten g.F.Flavor.flavor l.fn.text (32 * l.i) l.out l.end;
  len : length l.out ≡ length l.initial.out;
}
