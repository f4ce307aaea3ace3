-- Unchanged ASCII is whole encoded characters, so the valid prefix is all of it.
use Rattle.std.proofs.Common.{length}
use Rattle.std.proofs.lemmas.Str.{IsUtf8-from_ascii}
use Rattle.cesu8_decode.proofs.chunks.LongestPrefixes.{valid_up_to_of}
use Rattle.cesu8_decode.proofs.chunks.UnchangedPrefixes.{unchanged_prefix}
use Rattle.cesu8_decode.proofs.valid.valid_up_to.Goals as goal

pub returns-then-is_short_unchanged_ascii : goal.returns-then-is_short_unchanged_ascii
returns-then-is_short_unchanged_ascii g c =
    let f = g.F.Flavor.flavor in
    let bytes = c.args.bytes.now in
    let short = c.is_short_unchanged_ascii in
    let holds = c.if-is_short_unchanged_ascii.true in
    valid_up_to_of f bytes (length bytes) (unchanged_prefix f bytes (IsUtf8-from_ascii bytes (short.ensures.ascii holds), short.ensures.unchanged holds))
