-- Each conversion of `Mixed` is also one of `MixedLossy`. If the mixed step stopped at the first
-- byte, this byte is damaged, and U+FFFD is its conversion by `MixedLossy` (`replace`).
use Rattle.cesu8conv_run.proofs.Steps.{replaced-step, mixed-lossy-of-mixed, mixed-replaces}
use Rattle.cesu8conv_run.specs.declared.conversion.Conversion.TheVariants.{Mixed, MixedLossy}
use Rattle.cesu8conv_run.proofs.step.mixed_lossy_step.Goals as goal

pub returns : goal.returns
returns c =
    replaced-step (Mixed c.args.flavor) (MixedLossy c.args.flavor) c.args.bytes.now c.args.is_last c.mixed_step.new.room c.replace.new.room
    c.mixed_step.result c.replace.result (λ taken ahead x. mixed-lossy-of-mixed c.args.flavor c.args.is_last taken ahead x)
    (λ byte rest. mixed-replaces c.args.flavor c.args.is_last byte rest) c.mixed_step.ensures c.replace.ensures
