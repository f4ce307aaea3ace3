-- Each conversion of `Decode` is also one of `Lossy`: by the law `around`, the lossy reading of an
-- encoded text and more bytes is that text and the reading of these. If the strict step stopped at
-- the first byte, this byte is damaged, and its lossy conversion is U+FFFD, by the law `places`.
use Rattle.cesu8conv_run.proofs.Steps.{replaced-step, lossy-of-decoded, lossy-replaces}
use Rattle.cesu8conv_run.specs.declared.conversion.Conversion.TheVariants.{Decode, Lossy}
use Rattle.cesu8conv_run.proofs.step.lossy_step.Goals as goal

pub returns : goal.returns
returns c =
    replaced-step (Decode c.args.flavor) (Lossy c.args.flavor) c.args.bytes.now c.args.is_last c.decode_step.new.room c.replace.new.room
    c.decode_step.result c.replace.result (λ taken ahead x. lossy-of-decoded c.around.ensures c.args.flavor c.args.is_last taken ahead x)
    (λ byte rest. lossy-replaces c.places.ensures.text c.places.ensures.exists c.args.flavor c.args.is_last byte rest)
    c.decode_step.ensures c.replace.ensures
