-- The bytes that pass the test are unchanged ASCII, which is UTF-8. The stored vector has them in
-- its first lanes, and the buffer's own bytes in the others.
use Rattle.std.proofs.Common.{◌∙◌, refl, sym, ap, take, arith}
use Rattle.std.proofs.lemmas.List.{length-take-le}
use Rattle.std.proofs.lemmas.Str.{IsUtf8-from_ascii}
use lib.Lanes.{put_chunk}
use Rattle.simd_cesu8.proofs.Lanes.{prefix_stored}
use Rattle.simd_cesu8.proofs.front_to_slice.copy_unchanged_ascii.Goals as goal

pub returns-clause-unchanged : goal.returns-clause-unchanged
returns-clause-unchanged g c _ =
    let is = c.if-not-begins_with_unchanged_ascii.ensures in
    (IsUtf8-from_ascii (take c.args.len c.args.bytes.now) (is.ascii refl), is.unchanged refl)

pub returns-clause-copied : goal.returns-clause-copied
returns-clause-copied g c _ = (
  sym (length-take-le c.args.len c.args.bytes.now (omega arith)),
  ap (put_chunk 0 c.args.buf.now) c.join_lanes-lanes.ensures
      ∙ prefix_stored c.args.len 64 c.args.bytes.now c.args.buf.now (omega arith) (omega arith) (omega arith),
)
