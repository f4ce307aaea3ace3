-- The prover finds this proof by itself too. It is given here because this search fails sooner than
-- the prover's own if a wrong body makes the goal false.
use Rattle.std.proofs.Common.{rules}
use Rattle.cesu8_bytes.proofs.implementation.fallback.contains_null_or_utf8_4_byte_char_header.Goals as goal

pub returns : goal.returns
returns c = search rules
