-- Bytes that pass the fast path are ASCII, which is UTF-8. All others are tested by `is_utf8`.
use Rattle.std.proofs.lemmas.Bool.{iff_false}
use Rattle.std.proofs.lemmas.Str.{IsUtf8-from_ascii}
use Rattle.simd_cesu8.proofs.implementation.text_of.Goals as goal

pub known_text-requires : goal.known_text-requires
known_text-requires c = IsUtf8-from_ascii c.args.bytes.now (c.is_short_unchanged_ascii.ensures.ascii c.if-is_short_unchanged_ascii.true)

pub returns-clause-none : goal.returns-clause-none
returns-clause-none c = iff_false c.is_utf8.ensures c.if-is_utf8.false
