-- If the prefix is all bytes, the mode returns its input, which is then its own text. Otherwise the
-- texts of the mode are the readings of the encoding, so `put_strictly` and `put_lossily` promise
-- what is promised here (`same_reading`).
use Rattle.std.proofs.Common.{◌∙◌, sym, arith}
use Rattle.cesu8_decode.proofs.chunks.ModeTexts.{known_texts}
use Rattle.cesu8_decode.proofs.chunks.SliceReadings.{kept_put, same_reading, same_fault}
use Rattle.cesu8_decode.proofs.chunks.UnchangedPrefixes.{all_unchanged}
use Rattle.cesu8_decode.proofs.to_slice.decode_other_to_slice.Goals as goal

pub returns-then-unchanged-bytes : goal.returns-then-unchanged-bytes
returns-then-unchanged-bytes g c =
    let f = g.F.Flavor.flavor in
    let bytes = c.args.bytes.now in
    let known = known_texts c.args.mode f bytes in
    kept_put f bytes _ _ _ known g.S.Reading.which (known.unchanged ((all_unchanged f bytes _ c.unchanged_prefix-unchanged.ensures.len).0 c.if-unchanged-bytes.true)) c.copy_short_or_call.result
    c.map_err.result c.args.buf.now c.copy_short_or_call.new.buf (omega arith) c.map_err.ensures.cases c.copy_short_or_call.ensures

pub returns-then-prefix-bytes : goal.returns-then-prefix-bytes
returns-then-prefix-bytes g c =
    let f = g.F.Flavor.flavor in
    let bytes = c.args.bytes.now in
    kept_put f bytes _ _ _ (known_texts c.args.mode f bytes) g.S.Reading.which (c.prefix_in_mode-prefix.ensures.kept.0 c.if-prefix-bytes.true) c.copy_by_call.result
    c.map_err-then-prefix-bytes.result c.args.buf.now c.copy_by_call.new.buf (omega arith) c.map_err-then-prefix-bytes.ensures.cases c.copy_by_call.ensures

pub returns-in_ok-put_strictly-in-Strict : goal.returns-in_ok-put_strictly-in-Strict
returns-in_ok-put_strictly-in-Strict g c =
    let read = (known_texts c.args.mode g.F.Flavor.flavor c.args.bytes.now).other (λ keeps. c.if-prefix-bytes.false (c.prefix_in_mode-prefix.ensures.kept.1 keeps)) in
    rw (sym c.strictness.ensures ∙ c.in-Strict.is) (same_reading _ _ read.strictly _ _ _ _ c.in_ok-put_strictly-in-Strict.ensures)

pub returns-in_err-put_strictly-in-Strict : goal.returns-in_err-put_strictly-in-Strict
returns-in_err-put_strictly-in-Strict g c =
    let read = (known_texts c.args.mode g.F.Flavor.flavor c.args.bytes.now).other (λ keeps. c.if-prefix-bytes.false (c.prefix_in_mode-prefix.ensures.kept.1 keeps)) in
    rw (sym c.strictness.ensures ∙ c.in-Strict.is) (same_fault _ _ read.strictly _ _ _ _ _ c.from_residual.ensures c.in_err-put_strictly-in-Strict.ensures)

pub returns-in_ok-put_lossily-in-Lossy : goal.returns-in_ok-put_lossily-in-Lossy
returns-in_ok-put_lossily-in-Lossy g c =
    let read = (known_texts c.args.mode g.F.Flavor.flavor c.args.bytes.now).other (λ keeps. c.if-prefix-bytes.false (c.prefix_in_mode-prefix.ensures.kept.1 keeps)) in
    rw (sym c.strictness.ensures ∙ c.in-Lossy.is) (same_reading _ _ read.lossily _ _ _ _ c.in_ok-put_lossily-in-Lossy.ensures)

pub returns-in_err-put_lossily-in-Lossy : goal.returns-in_err-put_lossily-in-Lossy
returns-in_err-put_lossily-in-Lossy g c =
    let read = (known_texts c.args.mode g.F.Flavor.flavor c.args.bytes.now).other (λ keeps. c.if-prefix-bytes.false (c.prefix_in_mode-prefix.ensures.kept.1 keeps)) in
    rw (sym c.strictness.ensures ∙ c.in-Lossy.is) (same_fault _ _ read.lossily _ _ _ _ _ c.from_residual-in_err-put_lossily-in-Lossy.ensures c.in_err-put_lossily-in-Lossy.ensures)
