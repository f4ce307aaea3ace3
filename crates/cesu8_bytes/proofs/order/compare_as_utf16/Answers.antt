-- At the first difference the ranks of the two bytes decide, and if one string is a prefix of the
-- other, the lengths do.
use Rattle.std.proofs.Common.{◌∙◌, ◌<◌, ap, arith, length}
use Rattle.std.specs.Ordering.{nat_cmp}
use Rattle.cesu8_text.specs.Order.{utf16_rank}
use Rattle.cesu8_text.proofs.order.RankOrder.{rank_order_by_bytes}
use Rattle.cesu8_bytes.proofs.lists.Prefixes.{compare_at, compare_lengths, low_bytes, ranks_differ, ended}
use Rattle.cesu8_bytes.proofs.order.compare_as_utf16.Goals as goal

pub returns-then-offset-len : goal.returns-then-offset-len
returns-then-offset-len c =
    let offset = c.first_difference-offset.result in
    let bytes = c.as_bytes-bytes.result.now in
    let other = c.as_bytes-other_bytes.result.now in
    let long : offset < length bytes = omega arith in
    let other_long : offset < length other = omega arith in
    c.cmp.ensures
    ∙ ap (λ r. nat_cmp r c.rank-then-offset-len.result) c.rank.ensures
    ∙ ap (nat_cmp _) c.rank-then-offset-len.ensures
    ∙ compare_at utf16_rank bytes other offset c.first_difference-offset.ensures.same long other_long
    (ranks_differ _ _ (low_bytes bytes c.as_bytes-bytes.ensures.utf8 offset long)
    (low_bytes other c.as_bytes-other_bytes.ensures.utf8 offset other_long)
    (c.first_difference-offset.ensures.end c.if-offset-len.true))
    ∙ rank_order_by_bytes c.args.text.now c.args.other.now _ _ c.as_bytes-bytes.ensures.value c.as_bytes-other_bytes.ensures.value c.utf8.text c.utf8.other

pub returns-else-offset-len : goal.returns-else-offset-len
returns-else-offset-len c =
    let bytes = c.as_bytes-bytes.result.now in
    let other = c.as_bytes-other_bytes.result.now in
    c.cmp-else-offset-len.ensures
    ∙ compare_lengths utf16_rank bytes other c.first_difference-offset.result c.first_difference-offset.ensures.same
    (ended (length bytes) (length other) c.min-len.result c.first_difference-offset.result c.min-len.ensures c.if-offset-len.false)
    ∙ rank_order_by_bytes c.args.text.now c.args.other.now _ _ c.as_bytes-bytes.ensures.value c.as_bytes-other_bytes.ensures.value c.utf8.text c.utf8.other
