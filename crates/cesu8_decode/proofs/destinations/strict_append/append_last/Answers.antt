-- If the unchanged prefix is all bytes, they are their own text, and appending them is decoding
-- them. Otherwise `append_short_strictly` is called, which promises what `append_last` does.
use Rattle.std.proofs.Common.{◌++◌, ◌∙◌, sym, ap, arith, drop, length-drop}
use Rattle.std.proofs.lemmas.List.{take_all}
use Rattle.cesu8_bytes.specs.declared.strictness.Strictness.TheVariants.{Strict}
use Rattle.cesu8_decode.proofs.chunks.TextAfterPrefix.{prefix_appended}
use Rattle.cesu8_decode.proofs.chunks.ReadChunks.{none_left, nothing_read}
use Rattle.cesu8_decode.proofs.destinations.strict_append.append_last.Goals as goal

pub returns : goal.returns
returns g c =
    let f = g.F.Flavor.flavor in
    let bytes = c.args.bytes.now in
    let n = c.unchanged_prefix_by_call-prefix.result.len in
    let prefix = c.append_short.ensures.bytes ∙ ap (λ bs. c.args.before.items ++ bs) (sym (take_all n bytes (omega (arith, c.if-prefix-bytes.false)))) in
    record {
      text = none_left f Strict bytes (drop n bytes) _ _
          (prefix_appended f bytes n c.unchanged_prefix_by_call-prefix.ensures.len bytes _ _ _ (nothing_read f Strict bytes c.args.before.items) prefix)
          (omega (arith, length-drop n bytes, c.if-prefix-bytes.false));
      capacity = c.append_short.ensures.capacity;
      none = tt;
    }
