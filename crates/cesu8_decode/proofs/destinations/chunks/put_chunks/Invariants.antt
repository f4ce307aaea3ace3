-- So far the lossy reading of the first `read` bytes is at the start of the slice, and the bytes
-- after `end` are unchanged. Each pass reads at least one byte, so the loop ends.
use Rattle.std.proofs.Common.{◌≡◌, ◌-◌, ◌≤◌, false, [], length, take, drop}
use Rattle.cesu8_bytes.specs.declared.strictness.Strictness.TheVariants.{Lossy}
use Rattle.cesu8_decode.specs.Decoding.{IsDecoded, IsPass}
use Rattle.cesu8_decode.specs.DecodedOffsets.{window_of}
use Rattle.cesu8_decode.proofs.destinations.chunks.put_chunks.Given as goal

abbrev pub decreases-loop-read : goal.decreases-loop-read
decreases-loop-read g l = length l.fn.bytes - l.read

abbrev pub invariant-loop-read : goal.invariant-loop-read
invariant-loop-read g l = record {
  pass : IsPass g.F.Flavor.flavor l.fn.bytes l.read;
  text : IsDecoded g.F.Flavor.flavor Lossy (window_of l.fn.bytes) 0 l.read [] (take l.end l.out) false;
  inside : l.end ≤ length l.out;
  behind : drop l.end l.out ≡ drop l.end l.initial.out;
  len : length l.out ≡ length l.initial.out;
}
