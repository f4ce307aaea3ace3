-- If the string needs no encoding, its bytes are its encoding. There are two goals, since
-- `may_need_encoding` tests at most 32 bytes, and `needs_encoded` tests more.
use Rattle.std.proofs.Common.{sym, ◌∙◌, subst}
use Rattle.std.proofs.lemmas.Bool.{both_ways, iff_false}
use Rattle.cesu8_bytes.specs.Puts.{PutsAnswer}
use Rattle.cesu8_text.proofs.encoding.NeedsEncoding.{encoding_is_bytes}
use Rattle.cesu8_encode.proofs.to_slice.encode_to_slice.Goals as goal

pub returns-then-not-needs_encoded : goal.returns-then-not-needs_encoded
returns-then-not-needs_encoded g c =
    let same = encoding_is_bytes g.F.Flavor.flavor c.args.text.now c.utf8.text
    (iff_false c.needs_encoded.ensures c.if-not-needs_encoded.true) in
    subst (λ answer. PutsAnswer answer c.copy_to_slice-then-not-needs_encoded.result c.args.buf.now c.copy_to_slice-then-not-needs_encoded.new.buf)
    (c.as_bytes-then-not-needs_encoded.ensures.value ∙ sym same) c.copy_to_slice-then-not-needs_encoded.ensures

pub returns-then-not-may_need_encoding : goal.returns-then-not-may_need_encoding
returns-then-not-may_need_encoding g c =
    let same = encoding_is_bytes g.F.Flavor.flavor c.args.text.now c.utf8.text
    (λ needs. both_ways _ c.if-not-may_need_encoding.true (c.may_need_encoding.ensures needs)) in
    subst (λ answer. PutsAnswer answer c.copy_to_slice.result c.args.buf.now c.copy_to_slice.new.buf)
    (c.as_bytes.ensures.value ∙ sym same) c.copy_to_slice.ensures
