-- `write_strictly` appends to an empty `Vec`, so the `Vec` holds the UTF-8 of the strict reading
-- and nothing else.
use Rattle.std.proofs.Common.{◌≡◌, [], sym, subst, refl, rules}
use Rattle.std.specs.Str.{chars}
use Rattle.cesu8_text.specs.Reading.{IsStrictReading}
use Rattle.cesu8_bytes.specs.declared.strictness.Strictness.TheVariants.{Strict}
use Rattle.cesu8_decode.proofs.chunks.ReadChunks.{chunk_utf8, whole_text}
use Rattle.cesu8_decode.proofs.decode_strict.Goals as goal

pub known_string-requires : goal.known_string-requires
known_string-requires g c =
    let none : c.in_ok-empty.empty.items ≡ [] = search rules in
    chunk_utf8 g.F.Flavor.flavor Strict c.args.bytes.now [] _ (rw none at c.in-Ok.ensures.text)

pub returns-in-Ok-clause-text : goal.returns-in-Ok-clause-text
returns-in-Ok-clause-text g c =
    let none : c.in_ok-empty.empty.items ≡ [] = search rules in
    let read = whole_text g.F.Flavor.flavor Strict c.args.bytes.now _ (rw none at c.in-Ok.ensures.text) in
    subst (λ bytes. IsStrictReading g.F.Flavor.flavor c.args.bytes.now (chars bytes)) (sym c.known_string.ensures.bytes)
    (read.0, read.2 refl)
