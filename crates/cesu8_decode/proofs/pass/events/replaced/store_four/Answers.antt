-- `store_four` packs four bytes by the row of the table whose number has a bit for each ill-formed
-- one. The row puts U+FFFD, three bytes, in place of these, so it writes at most twelve bytes.
use Rattle.std.proofs.Common.{arith, get_or, []}
use Rattle.cesu8_decode.proofs.decoder.EventsRows.{end_of_four, four_written}
use Rattle.cesu8_decode.proofs.pass.events.replaced.store_four.Goals as goal

pub returns-clause-kept : goal.returns-clause-kept
returns-clause-kept c =
    let row = get_or c.rows.result.now c.args.ill_formed [] in
    four_written row c.args.ill_formed c.requires.small (c.rows.ensures c.args.ill_formed c.requires.small) c.args.lanes
    c.args.out.now _ c.args.at c.requires.room c.picked-packed.ensures

pub returns-clause-few : goal.returns-clause-few
returns-clause-few c = omega (arith, end_of_four _ c.args.ill_formed c.requires.small (c.rows.ensures c.args.ill_formed c.requires.small))
