-- A new entry has the empty name, whose encoding has no bytes. These have a strict reading, the
-- empty text. The argument `none` is the assumption that they have none.
use Rattle.std.proofs.Common.{[], refl}
use Rattle.std.specs.Str.{chars}
use Rattle.simd_cesu8.specs.Encoding.{encoding}
use Rattle.uses.proofs.entry.Entry.new.Goals as goal

pub invariant_of-result-clause-encoded : goal.invariant_of-result-clause-encoded
unfolding encoding
invariant_of-result-clause-encoded c none = none [] (tt, refl)

pub returns-clause-name : goal.returns-clause-name
unfolding encoding chars
returns-clause-name c = (([], (refl, refl)), refl)
