-- The law `inverse` says that strict decoding restores what was encoded, and never rejects it.
use Rattle.std.proofs.Common.{◌∙◌}
use Rattle.std.specs.String.{string_bytes}
use Rattle.std.proofs.lemmas.Result.{IfOk-weaker}
use Rattle.std.proofs.lemmas.Str.{IsUtf8-string_bytes}
use Rattle.simd_cesu8.specs.Encoding.{Cesu8}
use Rattle.uses.proofs.round_trip.encode_and_decode.Goals as goal

pub returns-in-Ok : goal.returns-in-Ok
returns-in-Ok c =
    IfOk-weaker _ _ _ (λ back is. c.inverse.ensures.decoded Cesu8 c.args.text.now _ (string_bytes back) c.utf8.text
    (IsUtf8-string_bytes back) (c.as_bytes.ensures ∙ c.in_ok-encoded.ensures.encoding) (rw is c.in-Ok.ensures.text))
    c.into_string.ensures.text

pub unreachable-requires : goal.unreachable-requires
unreachable-requires c =
    c.inverse.ensures.not_refused Cesu8 c.args.text.now _ c.utf8.text
    (c.as_bytes.ensures ∙ c.in_ok-encoded.ensures.encoding)
    (rw c.in-Err-Invalid.field-0-is at c.in-Err-Invalid.ensures.invalid)
