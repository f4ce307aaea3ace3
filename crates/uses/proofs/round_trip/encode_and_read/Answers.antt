-- By the law `lossy`, the reading of an encoding is the encoded text. Strings with equal characters
-- have equal bytes, by the law `chars`.
use Rattle.std.proofs.Common.{◌∙◌, ap}
use Rattle.std.specs.Str.{chars}
use Rattle.std.specs.String.{string_bytes}
use Rattle.std.proofs.lemmas.Result.{IfOk-weaker}
use Rattle.std.proofs.lemmas.Str.{IsUtf8-string_bytes}
use Rattle.simd_cesu8.specs.Encoding.{Cesu8}
use Rattle.simd_cesu8.specs.Reading.{reading}
use Rattle.uses.proofs.round_trip.encode_and_read.Goals as goal

pub returns : goal.returns
returns c =
    let text = c.args.text.now in
    let reads = c.in_ok-decode_lossy_strict.ensures.reading
    ∙ ap (reading Cesu8) (c.as_bytes.ensures ∙ c.in_ok-encoded.ensures.encoding)
    ∙ c.lossy.ensures.encoding Cesu8 (chars text) (c.chars.ensures.text text c.utf8.text) in
    IfOk-weaker _ _ _
    (λ back is. c.chars.ensures.same_bytes (string_bytes back) text (IsUtf8-string_bytes back) c.utf8.text
    (ap chars is ∙ reads))
    c.into_string.ensures.text
