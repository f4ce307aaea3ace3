-- If the block is unchanged, its encoding is the 32 bytes that are stored. The block begins two
-- bytes after `at` (`READ_BEFORE`).
use Rattle.std.proofs.Common.{◌+◌, ap, arith, length}
use Rattle.std.proofs.lemmas.Simd.{length-chunk}
use Rattle.cesu8_encode.proofs.middle_blocks.write_middle_block.Goals as goal

pub put_lanes-requires : goal.put_lanes-requires
put_lanes-requires g c =
    omega (arith, ap length (c.is_unchanged.ensures c.if-is_unchanged.true), length-chunk (c.args.at + 2) 32 c.args.text.now (omega arith))

pub returns-then-is_unchanged : goal.returns-then-is_unchanged
returns-then-is_unchanged g c =
    rw (c.is_unchanged.ensures c.if-is_unchanged.true) c.put_lanes.ensures.writes
