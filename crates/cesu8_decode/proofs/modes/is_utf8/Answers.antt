-- The lenient mode returns its input unchanged exactly if it is UTF-8, in either encoding. The
-- function calls `lenient_prefix` for CESU-8.
use Rattle.std.proofs.Common.{eq-eqb}
use Rattle.std.proofs.lemmas.Bool.{eqb-true}
use Rattle.cesu8_decode.proofs.modes.is_utf8.Goals as goal

pub returns : goal.returns
returns c =
    let kept = c.lenient_prefix.ensures.kept in
    (λ all. kept.0 (eqb-true _ _ all), λ is_utf8. eq-eqb _ _ (kept.1 is_utf8))
