-- Bytes that are their own unchanged prefix are their own text, so a copy suffices.
use Rattle.std.proofs.Common.{arith}
use Rattle.cesu8_text.proofs.reading.KeptTexts.{encoding_texts}
use Rattle.cesu8_bytes.specs.declared.strictness.Strictness.TheVariants.{Strict}
use Rattle.cesu8_decode.proofs.chunks.SliceReadings.{kept_put}
use Rattle.cesu8_decode.proofs.chunks.UnchangedPrefixes.{all_unchanged}
use Rattle.cesu8_decode.proofs.destinations.slices.put_rest.Goals as goal

pub returns-then-prefix-bytes : goal.returns-then-prefix-bytes
returns-then-prefix-bytes g c =
    let f = g.F.Flavor.flavor in
    let bytes = c.args.bytes.now in
    let prefix = c.unchanged_prefix_by_call-prefix.ensures.len in
    kept_put f bytes _ _ _ (encoding_texts f bytes) Strict ((all_unchanged f bytes c.unchanged_prefix_by_call-prefix.result.len prefix).0 c.if-prefix-bytes.true) c.copy_by_call.result
    c.map_err.result c.args.buf.now c.copy_by_call.new.buf (omega arith) c.map_err.ensures.cases c.copy_by_call.ensures
