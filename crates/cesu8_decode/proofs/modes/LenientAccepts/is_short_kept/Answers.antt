-- ASCII is UTF-8, which this mode returns unchanged.
use Rattle.std.proofs.lemmas.Str.{IsUtf8-from_ascii}
use Rattle.cesu8_decode.proofs.modes.LenientAccepts.is_short_kept.Goals as goal

pub returns : goal.returns
returns g c holds = IsUtf8-from_ascii c.args.bytes.now (c.is_short_ascii.ensures holds)
