-- The buffer begins with the form of the text: its length and its MUTF-8. By the contract of
-- `read_utf` it begins with no other form. So the string that was read has the text's characters,
-- and by the law `chars` also its bytes.
use Rattle.std.proofs.Common.{◌≡◌, ◌<◌, ◌++◌, ◌∙◌, ap, sym, arith, rules}
use Rattle.std.specs.Str.{chars}
use Rattle.std.proofs.Math.Nat.{lt_of_not-le}
use Rattle.std.proofs.lemmas.Str.{IsUtf8-string_bytes}
use Rattle.java_text.specs.Form.{mutf8_len, java_form}
use Rattle.uses.proofs.round_trip.write_and_read.Goals as goal

pub returns-in-Ok-clause-same : goal.returns-in-Ok-clause-same
returns-in-Ok-clause-same c =
    let text = c.args.text.now in
    let fits : mutf8_len (chars text) < 65536 =
    lt_of_not-le (λ more. cc (c.in_ok-write_utf.ensures.too_long (λ small. omega (arith, more, small)))) in
    let is : c.as_slice.result.now ≡ java_form (chars text) ++ c.args.rest.now = search rules in
    let only = c.in-Ok.ensures.only (chars text) c.args.rest.now
    (record { scalars = c.chars.ensures.text text c.utf8.text; fits = omega arith; bytes_are = is }) in
    c.chars.ensures.same_bytes _ text (IsUtf8-string_bytes c.in_ok-into_string-in-Ok.field-0) c.utf8.text
    (ap chars c.in_ok-into_string-in-Ok.ensures.text ∙ sym only.0)
