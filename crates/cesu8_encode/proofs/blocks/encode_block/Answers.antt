-- Each computed lane is the byte that the definitions give for its offset: the block begins two
-- bytes after `at`. No addition overflows a lane: 9F and six bits are at most DE (hexadecimal), and
-- no byte is both null and the lead byte of four bytes.
use Rattle.std.proofs.Common.{arith}
use Rattle.cesu8_text.specs.Class.{is_at_least_f0, is_null}
use Rattle.cesu8_bytes.proofs.vectors.Loads.{marks_at, marks_here}
use Rattle.cesu8_encode.proofs.encoder.EncodedBlocks.{AreMarks, six_at, highs_fit_at, eithers_fit_at, seconds_are, firsts_are, doubled_are}
use Rattle.cesu8_encode.proofs.blocks.encode_block.Goals as goal

pub overflow_add-of_high : goal.overflow_add-of_high
overflow_add-of_high g c =
    let window = c.args.window.now in
    let at = c.args.at in
    highs_fit_at window at c.requires _ (marks_at is_at_least_f0 window at 2 _ (omega arith) c.mask-lead.ensures)

pub overflow_add-doubled : goal.overflow_add-doubled
overflow_add-doubled g c =
    let window = c.args.window.now in
    let at = c.args.at in
    let f = g.F.Flavor.flavor in
    eithers_fit_at f window at _ _ (marks_at is_at_least_f0 window at 2 _ (omega arith) c.mask-lead.ensures)
    (marks_at (is_null f) window at 2 _ (omega arith) c.nulls-null.ensures)

pub returns : goal.returns
returns g c =
    let window = c.args.window.now in
    let at = c.args.at in
    let f = g.F.Flavor.flavor in
    let marks : AreMarks f window at _ _ _ _ _ = record {
      room = c.requires;
      lead_is = marks_at is_at_least_f0 window at 2 _ (omega arith) c.mask-lead.ensures;
      before_is = marks_at is_at_least_f0 window at 1 _ (omega arith) c.mask-lead_before.ensures;
      two_before_is = marks_here is_at_least_f0 window at _ (omega arith) c.mask-lead_two_before.ensures;
      null_is = marks_at (is_null f) window at 2 _ (omega arith) c.nulls-null.ensures;
      six_is = six_at window at c.requires;
    } in
    record {
      seconds_are = seconds_are _ _ _ _ _ _ _ _ marks;
      firsts_are = firsts_are _ _ _ _ _ _ _ _ marks;
      doubled_is = doubled_are _ _ _ _ _ _ _ _ marks;
    }
