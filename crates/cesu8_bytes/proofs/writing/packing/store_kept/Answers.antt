-- Each of four stores packs eight of the 32 bytes, so together they write what is kept of all. Each
-- half of the 32 bytes is packed by two stores, and for the second one, `second_of` moves the last
-- eight bytes to the first lanes.
use Rattle.std.proofs.Common.{ℕ, ◌+◌, ◌≤◌, ◌++◌, ap, ◌∙◌, subst, arith}
use lib.Lanes.{chunk, pick_l}
use Rattle.std.specs.List.{range_with_len}
use Rattle.cesu8_bytes.specs.Puts.{WritesAt}
use Rattle.cesu8_bytes.proofs.lists.Stored.{written_by_four}
use Rattle.cesu8_bytes.proofs.vectors.Packing.{kept_of_four}
use Rattle.cesu8_bytes.proofs.vectors.Rows.{lanes_of_first}
use Rattle.cesu8_bytes.proofs.writing.packing.store_kept.Goals as goal

pub returns : goal.returns
returns c tests long is =
    let bytes = c.args.bytes in
    let eight = λ (a : ℕ) (le : a + 8 ≤ 32). lanes_of_first bytes bytes a 8 (omega arith) in
    let half = λ (a : ℕ). pick_l 0 (bytes ++ bytes) (range_with_len a 16) in
    subst (λ bs. WritesAt bs c.args.at c.args.out.now c.store_eight.new.out c.store_eight.result)
    (kept_of_four tests bytes long c.fits-bytes.0 (half 0) _ (half 16) _ c.args.dropped is
    (eight 0 (omega arith)) (ap (chunk 0 8) c.second_of.ensures ∙ eight 8 (omega arith))
    (eight 16 (omega arith)) (ap (chunk 0 8) c.second_of-2.ensures ∙ eight 24 (omega arith)))
    (written_by_four _ _ _ _ _ _ _ _ _ _ _ _ _ _
    c.store_eight-at.ensures.kept c.store_eight-at-2.ensures.kept c.store_eight-at-3.ensures.kept c.store_eight.ensures.kept)
