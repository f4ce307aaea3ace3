-- The rows are stored to an array of their size, and only what the first `count` bytes of the block
-- become is copied. The contract requires room for that.
use Rattle.std.proofs.Common.{◌+◌, ◌∙◌, ◌++◌, ap, arith, length, take}
use Rattle.std.proofs.lemmas.List.{length-take}
use Rattle.cesu8_encode.proofs.blocks.write_by_array.Goals as goal

pub put-requires : goal.put-requires
put-requires g c =
    let stored = c.write_rows_by_call-len in
    omega (arith, length-take stored.result stored.new.out, stored.ensures.end, c.requires.room)

pub returns : goal.returns
returns g c = record {
  bytes = c.put.ensures.writes.bytes ∙ ap (λ bs. take c.args.end c.args.out.now ++ bs) c.write_rows_by_call-len.ensures.bytes;
  end = c.put.ensures.writes.end ∙ ap (λ bs. c.args.end + length bs) c.write_rows_by_call-len.ensures.bytes;
  len = c.put.ensures.writes.len;
}
