-- Different texts have different keys, by the law `round_trip`, so the update changes no other
-- value. Keys in ascending order are in the order of UTF-16, by the law `key_order`.
use Rattle.std.proofs.Common.{◌∙◌}
use Rattle.std.specs.Str.{chars}
use Rattle.uses.proofs.OrderedKeys.{in_utf16_order, others_unchanged}
use Rattle.uses.proofs.key_store.put_value.Goals as goal

pub returns-clause-others : goal.returns-clause-others
returns-clause-others c other is_other differ =
    others_unchanged c.round_trip.ensures (chars c.args.key.now) other
    (c.chars.ensures.text c.args.key.now c.utf8.key) is_other differ c.in_ok-encoded.encoded
    (c.in_ok-encoded.ensures.bytes ∙ c.in_ok-encode.ensures.encoding)
    c.args.store.now c.insert.new.self _ c.in_ok-insert.ensures.updates

pub returns-clause-order : goal.returns-clause-order
returns-clause-order c =
    in_utf16_order c.key_order.ensures c.insert.new.self c.in_ok-insert.ensures.ordered
