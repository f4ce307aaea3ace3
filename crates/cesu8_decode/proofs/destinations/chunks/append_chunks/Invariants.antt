-- So far the vector has what was there before and then the text of the first `read` bytes. Each
-- pass reads at least one byte, so the loop ends.
use Rattle.std.proofs.Common.{◌≡◌, ◌-◌, false, length, vec_capacity}
use Rattle.cesu8_decode.specs.Decoding.{IsDecoded, IsPass}
use Rattle.cesu8_decode.specs.DecodedOffsets.{window_of}
use Rattle.cesu8_decode.proofs.destinations.chunks.append_chunks.Given as goal

abbrev pub decreases-loop-read : goal.decreases-loop-read
decreases-loop-read g l = length l.fn.bytes - l.read

abbrev pub invariant-loop-read : goal.invariant-loop-read
invariant-loop-read g l = record {
  pass : IsPass g.F.Flavor.flavor l.fn.bytes l.read;
  text : IsDecoded g.F.Flavor.flavor g.S.Reading.which (window_of l.fn.bytes) 0 l.read l.fn.before.items l.text.items false;
  capacity : vec_capacity l.text ≡ vec_capacity l.fn.before;
}
