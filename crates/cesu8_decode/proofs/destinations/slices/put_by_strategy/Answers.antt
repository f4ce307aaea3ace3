-- Bytes that end within a character have no strict reading, so the early rejection is right.
use Rattle.std.proofs.Common.{refl, sym, ◌∙◌}
use Rattle.cesu8_bytes.specs.declared.strictness.Strictness.TheVariants.{Strict}
use Rattle.cesu8_decode.proofs.chunks.LongestPrefixes.{none_cut_off}
use Rattle.cesu8_decode.proofs.chunks.SliceReadings.{no_strict_text}
use Rattle.cesu8_decode.proofs.destinations.slices.put_by_strategy.Goals as goal

pub returns-in_default : goal.returns-in_default
returns-in_default g c =
    let f = g.F.Flavor.flavor in
    let bytes = c.args.bytes.now in
    no_strict_text f Strict bytes c.args.buf.now (refl, none_cut_off f bytes (sym c.may_be_crossed.ensures ∙ c.if-may_be_crossed.true))
