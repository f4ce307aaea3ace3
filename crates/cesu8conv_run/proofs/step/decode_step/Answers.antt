-- A call of `cesu8_stream` is a step of the conversion. The 4 is the most bytes of a character in
-- UTF-8, which the contract of `decode` names. For `Decode`, the text, the bytes written and the
-- damage are those of that contract by definition.
use Rattle.std.proofs.Common.{refl}
use Rattle.simd_cesu8.specs.Text.{utf8}
use Rattle.simd_cesu8.specs.Encoding.{encoding}
use Rattle.cesu8conv_run.specs.Conversion.{flavor_of}
use Rattle.cesu8conv_run.proofs.Steps.{converted-step}
use Rattle.cesu8conv_run.specs.declared.conversion.Conversion.TheVariants.{Decode}
use Rattle.cesu8conv_run.proofs.step.decode_step.Goals as goal

pub returns : goal.returns
returns c =
    converted-step (Decode c.args.flavor) (encoding (flavor_of c.args.flavor)) utf8 4 c.args.bytes.now c.args.is_last c.args.room.now
    c.decode.new.room c.decode.result c.after.result (λ taken ahead text h. h) (λ text. refl) (λ rest h. h) c.decode.ensures c.after.ensures
