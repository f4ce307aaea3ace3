-- The encoding is longer than the string by the sum of the weights: two for each four-byte lead,
-- and in MUTF-8 one for each null. A string in std is short enough that the sum does not overflow.
use Rattle.std.proofs.Common.{arith}
use Rattle.cesu8_text.proofs.encoding.EncodedLength.{length_by_bytes}
use Rattle.cesu8_bytes.proofs.lengths.encoded_len.Goals as goal

pub overflow_add-result : goal.overflow_add-result
overflow_add-result g c =
    let known = length_by_bytes g.F.Flavor.flavor c.args.text.now _ c.as_bytes.ensures.value c.utf8.text in
    grind (arith, known.sum, known.bound, g.met.F.Flavor.are_null)

pub returns : goal.returns
returns g c =
    let known = length_by_bytes g.F.Flavor.flavor c.args.text.now _ c.as_bytes.ensures.value c.utf8.text in
    grind (arith, known.sum, g.met.F.Flavor.are_null)
