-- Every byte of an encoding is a byte of the form of a UTF-16 code unit. None of these is F0 or
-- more, and in MUTF-8 none is 00, since U+0000 is C0 80.
use Rattle.cesu8_text.proofs.order.Lawful.{no_zero_law}
use Rattle.simd_cesu8.proofs.laws.no_zero.Goals as goal

pub returns : goal.returns
returns c = no_zero_law
