-- The encoding of the empty string is empty, and appending nothing succeeds.
use Rattle.std.proofs.Common.{◌∙◌}
use Rattle.simd_cesu8.specs.Encoding.{Mutf8}
use Rattle.cesu8_text.proofs.encoding.Encodings.{encoding_of_empty}
use Rattle.simd_cesu8.proofs.mutf8.encode_into.Goals as goal

pub returns-clause-empty : goal.returns-clause-empty
returns-clause-empty c empty =
    c.encode_into.ensures.empty (c.counted.ensures ∙ encoding_of_empty Mutf8 c.args.value.now empty)
