-- Two forms compare as the UTF-16 code units that they write, except for C0 80, the form of U+0000
-- in MUTF-8. The last two clauses are computed examples.
use Rattle.cesu8_text.proofs.order.UnitOrder.{order_in_cesu8, order_in_mutf8, null_out_of_order, scalars_out_of_order}
use Rattle.simd_cesu8.proofs.laws.order.Goals as goal

pub returns : goal.returns
returns c = record {
  cesu8 = order_in_cesu8;
  mutf8 = order_in_mutf8;
  null_differs = null_out_of_order;
  scalars_differ = scalars_out_of_order;
}
