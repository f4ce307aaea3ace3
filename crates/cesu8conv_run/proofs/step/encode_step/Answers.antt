-- A call of `cesu8_stream` is a step of the conversion. The 6 is the most bytes of an encoded
-- character, which the contract of `encode` names.
use Rattle.std.proofs.Common.{refl}
use Rattle.simd_cesu8.specs.Text.{utf8}
use Rattle.simd_cesu8.specs.Encoding.{encoding}
use Rattle.cesu8conv_run.specs.Conversion.{flavor_of}
use Rattle.cesu8conv_run.proofs.Steps.{converted-step}
use Rattle.cesu8conv_run.specs.declared.conversion.Conversion.TheVariants.{Encode}
use Rattle.cesu8conv_run.proofs.step.encode_step.Goals as goal

pub returns : goal.returns
returns c =
    converted-step (Encode c.args.flavor) utf8 (encoding (flavor_of c.args.flavor)) 6 c.args.bytes.now c.args.is_last c.args.room.now
    c.encode.new.room c.encode.result c.after.result (λ taken ahead text h. h) (λ text. refl) (λ rest h. h) c.encode.ensures c.after.ensures
