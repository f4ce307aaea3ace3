-- ASCII in which no byte needs conversion is UTF-8 in which nothing needs conversion, so this mode
-- returns it unchanged.
use Rattle.std.proofs.lemmas.Str.{IsUtf8-from_ascii}
use Rattle.cesu8_decode.proofs.modes.EncodingAloneAccepts.is_short_kept.Goals as goal

pub returns : goal.returns
returns g c holds =
    let look = c.is_short_unchanged_ascii.ensures in
    (IsUtf8-from_ascii c.args.bytes.now (look.ascii holds), look.unchanged holds)
