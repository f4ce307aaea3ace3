-- The text of the bytes before `rest` is appended. The rest has more than 64 bytes, the first `len`
-- of them are its unchanged prefix, and the vector has the capacity for it. Each step shortens the
-- rest, so the loop ends.
use Rattle.std.proofs.Common.{◌≡◌, ◌+◌, ◌<◌, ◌≤◌, length, vec_len, vec_capacity}
use Rattle.cesu8_bytes.specs.TextChunks.{IsReadSoFar}
use Rattle.cesu8_bytes.specs.declared.strictness.Strictness.TheVariants.{Strict}
use Rattle.cesu8_decode.specs.Following.{Unchanged}
use Rattle.cesu8_decode.specs.Prefixes.{IsLongestPrefix}
use Rattle.cesu8_bytes.specs.declared.lanes.class.TheConstants.{LANES}
use Rattle.cesu8_decode.proofs.destinations.strict_append.append_many.Given as goal

abbrev pub decreases-loop-len : goal.decreases-loop-len
decreases-loop-len g l = length l.rest

abbrev pub invariant-loop-len : goal.invariant-loop-len
invariant-loop-len g l = record {
  read : IsReadSoFar g.F.Flavor.flavor Strict l.fn.bytes l.rest l.fn.before.items l.text.items;
  prefix : IsLongestPrefix Unchanged g.F.Flavor.flavor l.rest l.len;
  many : LANES < length l.rest;
  room : vec_len l.text + length l.rest ≤ vec_capacity l.text;
  capacity : vec_capacity l.text ≡ vec_capacity l.fn.before;
}
