-- Each clause is a lemma by induction on the lists: the first two elements that differ decide.
use Rattle.cesu8_text.proofs.order.Below.{trichotomy, transitive, slice_order}
use Rattle.simd_cesu8.proofs.laws.dictionary_order.Goals as goal

pub returns : goal.returns
returns c = record { one_of_three = trichotomy; transitive = transitive; slices = slice_order }
