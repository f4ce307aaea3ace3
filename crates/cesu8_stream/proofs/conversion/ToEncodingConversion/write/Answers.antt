-- If the bytes are UTF-8, they are the UTF-8 of their characters and of no other text. Then `write`
-- fails only if the encoding of that text does not fit the buffer.
use Rattle.std.proofs.Common.{◌≡◌, length, inl, inr}
use Rattle.std.proofs.lemmas.Bool.{cases_lt}
use Rattle.std.specs.Str.{chars}
use Rattle.simd_cesu8.specs.Encoding.{encoding}
use Rattle.simd_cesu8.proofs.StdUtf8.{IsUtf8Of_chars}
use Rattle.cesu8_stream.proofs.Utf8.{chars_are_text}
use Rattle.cesu8_stream.proofs.conversion.ToEncodingConversion.write.Goals as goal

pub returns-in-Ok-clause-some : goal.returns-in-Ok-clause-some
returns-in-Ok-clause-some g c =
    let text = c.in_ok-text.ensures.some in
    (chars c.args.bytes.now, IsUtf8Of_chars c.args.bytes.now text.1, rw text.0 at c.in-Ok.ensures.written)

pub returns-in-Err-clause-none : goal.returns-in-Err-clause-none
returns-in-Err-clause-none g c = λ text written.
    let same : chars c.in_ok-text.text.now ≡ text =
    rw (c.in_ok-text.ensures.some.0) (chars_are_text c.args.bytes.now text written) in
    elim (cases_lt (length c.args.buf.now) (length (encoding g.E.Encoding.flavor text))) [
      | inl long ↦ long
      | inr short ↦ absurd (let fits = c.in-Err.ensures.fits.1 (rw same short) in cc)
    ]
