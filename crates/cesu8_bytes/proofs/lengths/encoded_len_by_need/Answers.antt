-- If no byte changes, the encoding is the UTF-8, so their lengths are equal.
use Rattle.std.proofs.Common.{ap, sym, length}
use Rattle.std.proofs.lemmas.Bool.{iff_false}
use Rattle.cesu8_text.proofs.encoding.NeedsEncoding.{encoding_is_bytes}
use Rattle.cesu8_bytes.proofs.lengths.encoded_len_by_need.Goals as goal

pub returns-then-not-needs_encoded : goal.returns-then-not-needs_encoded
returns-then-not-needs_encoded g c =
    ap length (sym (encoding_is_bytes g.F.Flavor.flavor c.args.text.now c.utf8.text
    (iff_false c.needs_encoded.ensures c.if-not-needs_encoded.true)))
