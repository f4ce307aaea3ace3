-- A byte that is neither a continuation byte nor ED is the first of its character, so no character
-- crosses the offset before it. ED can also be the fourth byte, in a surrogate pair.
use Rattle.std.proofs.Common.{⊎_elim, arith}
use Rattle.cesu8_decode.proofs.chunks.FirstBytes.{none_crosses_before}
use Rattle.cesu8_decode.proofs.destinations.strings.first_part.Goals as goal

pub returns-then-byte-clause-apart : goal.returns-then-byte-clause-apart
returns-then-byte-clause-apart c f =
    rw (c.split_at.ensures.front, c.split_at.ensures.back)
    (none_crosses_before f c.args.bytes.now c.loop-at.at (omega (arith, c.loop-at.invariant.fits, c.requires))
    (⊎_elim (λ is. omega (arith, is, c.if-byte-ge192.either)) c.if-byte.true))
