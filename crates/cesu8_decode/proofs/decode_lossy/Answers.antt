-- `build_lossily` leaves no byte undecoded, so its `Vec` holds the UTF-8 of the lossy reading: it
-- is UTF-8, and its characters and its length are those of that reading.
use Rattle.std.proofs.Common.{[], ◌∙◌, ap, arith}
use Rattle.std.specs.Str.{chars}
use Rattle.cesu8_bytes.specs.declared.strictness.Strictness.TheVariants.{Lossy}
use Rattle.cesu8_decode.proofs.chunks.ReadChunks.{chunk_utf8, lossy_text_length, whole_text}
use Rattle.cesu8_decode.proofs.decode_lossy.Goals as goal

pub known_string-requires : goal.known_string-requires
known_string-requires g c = chunk_utf8 g.F.Flavor.flavor Lossy c.args.bytes.now [] _ c.in_ok-text.ensures.text

pub returns-clause-text : goal.returns-clause-text
returns-clause-text g c =
    ap chars c.known_string.ensures.bytes ∙ (whole_text g.F.Flavor.flavor Lossy c.args.bytes.now _ c.in_ok-text.ensures.text).1

pub returns-clause-capacity : goal.returns-clause-capacity
returns-clause-capacity g c =
    omega (
      arith,
      c.known_string.ensures.capacity,
      c.in_ok-text.ensures.capacity,
      lossy_text_length g.F.Flavor.flavor c.args.bytes.now _ c.in_ok-text.ensures.text,
    )
