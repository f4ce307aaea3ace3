-- The four rows of a block, eight bytes each, are stored after one another. Each is packed by its
-- eight bits of the mask `doubled`: a byte whose bit is set becomes two, its lane of `firsts` and that
-- of `seconds`, and any other byte becomes its lane of `seconds`. So the rows together are the packed
-- block. The encoding of the first `count` bytes is a prefix of it, whose length is `count`, and one
-- more for each bit that is set among the first `count` of `doubled` (the last `omega`).
--
-- Each row is stored as 16 bytes. The last begins after what is written for the block's first 24
-- bytes, and the contract requires space for 16 more.
use Rattle.std.proofs.Common.{rules, ◌≤◌, ◌++◌, ap, ◌∙◌, arith, length, map, take}
use Rattle.std.specs.List.{range_with_len}
use Rattle.std.proofs.lemmas.List.{length-take-le}
use Rattle.std.proofs.lemmas.List.FromFn.{length-map-range_with_len}
use Rattle.std.proofs.lemmas.Simd.{length-chunk}
use lib.Lanes.{chunk}
use Rattle.cesu8_encode.specs.EncodedOffsets.{is_doubled_at}
use Rattle.cesu8_bytes.proofs.vectors.Rows.{row_mask, first_mask}
use Rattle.cesu8_encode.proofs.encoder.EncodedRows.{four_rows, rows_count}
use Rattle.cesu8_encode.proofs.encoder.EncodedWindows.{counted, prefix_long, prefix_of_block}
use Rattle.cesu8_encode.proofs.blocks.store_block.Goals as goal

pub store_row-at-requires-clause-room : goal.store_row-at-requires-clause-room
store_row-at-requires-clause-room c = omega (arith, c.requires.room)

pub store_row-at-requires-2-clause-room : goal.store_row-at-requires-2-clause-room
store_row-at-requires-2-clause-room c = omega (arith, c.requires.room, rows_count c.args.block.now.doubled, c.store_row-at.ensures.end)

pub store_row-at-requires-3-clause-room : goal.store_row-at-requires-3-clause-room
store_row-at-requires-3-clause-room c = omega (arith, c.requires.room, rows_count c.args.block.now.doubled, c.store_row-at.ensures.end, c.store_row-at-2.ensures.end)

pub store_row-requires-clause-room : goal.store_row-requires-clause-room
store_row-requires-clause-room c = omega (arith, c.requires.room, rows_count c.args.block.now.doubled, c.store_row-at.ensures.end, c.store_row-at-2.ensures.end, c.store_row-at-3.ensures.end)

pub returns : goal.returns
returns c = record {
  bytes = λ f window at lanes.
      let doubled = c.args.block.now.doubled in
      let before = take c.args.end c.args.out.now in
      let tests = map (is_doubled_at f window) (range_with_len at 32) in
      let long = length-map-range_with_len (is_doubled_at f window) at 32 in
      let rows = four_rows c.args.block.now.firsts c.args.block.now.seconds tests
      lanes.firsts_long lanes.seconds_long long _ _ _ _ _
      (c.store_row-at.ensures.bytes (chunk 0 8 tests) (length-chunk 0 8 tests (omega arith)) (first_mask tests doubled (omega arith) lanes.doubled_is))
      (c.store_row-at-2.ensures.bytes (chunk 8 8 tests) (length-chunk 8 8 tests (omega arith)) (row_mask 8 tests doubled (omega arith) lanes.doubled_is))
      (c.store_row-at-3.ensures.bytes (chunk 16 8 tests) (length-chunk 16 8 tests (omega arith)) (row_mask 16 tests doubled (omega arith) lanes.doubled_is))
      (c.store_row.ensures.bytes (chunk 24 8 tests) (length-chunk 24 8 tests (omega arith)) (row_mask 24 tests doubled (omega arith) lanes.doubled_is)) in
      let stored = rows ∙ ap (λ l. before ++ l) lanes.packed_to in
      let counted_is = counted c.args.count doubled c.requires.count in
      let fits : c.store_row.result ≤ length c.store_row.new.out = omega (arith, c.requires.room, rows_count doubled, c.store_row-at.ensures.end, c.store_row-at-2.ensures.end, c.store_row-at-3.ensures.end) in
      prefix_of_block f window before c.store_row.new.out at c.args.count c.store_row.result _ c.requires.count
      fits stored
      (omega (arith, prefix_long f window at c.args.count _ c.requires.count lanes.doubled_is, length-take-le c.args.end c.args.out.now (omega arith)));
  end = omega (arith, counted c.args.count c.args.block.now.doubled c.requires.count);
  len = search rules;
}
