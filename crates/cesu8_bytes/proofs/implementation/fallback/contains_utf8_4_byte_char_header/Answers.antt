-- The prover finds this proof by itself too. It is given here for `fallback_is_always_true.edit`,
-- which makes the goal false: this search fails sooner than the prover's own.
use Rattle.std.proofs.Common.{rules}
use Rattle.cesu8_bytes.proofs.implementation.fallback.contains_utf8_4_byte_char_header.Goals as goal

pub returns : goal.returns
returns c = search rules
