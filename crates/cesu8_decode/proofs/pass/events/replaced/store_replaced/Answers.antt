-- Each of the four vectors has four of the bytes and a replacement character in its first lanes:
-- one shuffle makes two of them, and `second_of` moves the second to the first lanes. What is
-- stored for them, one after another, is what is written for the sixteen bytes.
use Rattle.std.proofs.Common.{ℕ, ◌+◌, ◌≤◌, ◌++◌, ap, ◌∙◌, subst, arith}
use Rattle.std.specs.List.{range_with_len}
use lib.Lanes.{chunk, pick_l}
use Rattle.cesu8_bytes.specs.Puts.{WritesAt}
use Rattle.cesu8_bytes.proofs.lists.Stored.{written_by_four}
use Rattle.cesu8_bytes.proofs.vectors.Rows.{lanes_of_first, lanes_of_second}
use Rattle.cesu8_decode.proofs.decoder.EventsRows.{kept_of_half}
use Rattle.cesu8_decode.specs.declared.pass.events.replaced.TheConstants.{REPLACEMENTS}
use Rattle.cesu8_decode.proofs.pass.events.replaced.store_replaced.Goals as goal

pub returns : goal.returns
returns c tests long is =
    let bytes = c.args.bytes in
    let eight = λ (a : ℕ). pick_l 0 (bytes ++ REPLACEMENTS)
    (range_with_len a 4 ++ (range_with_len 16 4 ++ (range_with_len (a + 4) 4 ++ range_with_len 20 4))) in
    let four = λ (a : ℕ) (le : a + 4 ≤ 16). lanes_of_first bytes REPLACEMENTS a 4 (omega (arith, c.fits-bytes.0)) in
    let replaced = λ (a : ℕ) (le : a + 3 ≤ 16). lanes_of_second bytes REPLACEMENTS 16 a 3 c.fits-bytes.0 (omega arith) in
    subst (λ bs. WritesAt bs c.args.at c.args.out.now c.store_four.new.out c.store_four.result)
    (kept_of_half tests bytes c.args.ill_formed (eight 0) _ (eight 8) _ long c.fits-bytes.0 is
    (four 0 (omega arith), replaced 0 (omega arith))
    (ap (chunk 0 4) c.second_of.ensures ∙ four 4 (omega arith), ap (chunk 4 3) c.second_of.ensures ∙ replaced 4 (omega arith))
    (four 8 (omega arith), replaced 0 (omega arith))
    (ap (chunk 0 4) c.second_of-2.ensures ∙ four 12 (omega arith), ap (chunk 4 3) c.second_of-2.ensures ∙ replaced 4 (omega arith)))
    (written_by_four _ _ _ _ _ _ _ _ _ _ _ _ _ _
    c.store_four-at.ensures.kept c.store_four-at-2.ensures.kept c.store_four-at-3.ensures.kept c.store_four.ensures.kept)
