-- In CESU-8 two encodings are in the order of the code units of their texts, and the `cmp` of std
-- is this order.
use Rattle.cesu8_text.proofs.order.UnitOrder.{key_order}
use Rattle.simd_cesu8.proofs.laws.key_order.Goals as goal

pub returns : goal.returns
returns c = key_order
