-- The comparison with C0 is a test of each lane, and the select writes 0 if it passes.
use Rattle.std.proofs.Common.{ap, ◌∙◌, eqb, replicate, w8}
use Rattle.std.proofs.lemmas.Simd.{tops_compared, zip2_splat}
use lib.Lanes.{sel_l}
use Rattle.cesu8_decode.proofs.decoder.PackedLanes.{zeroed_of}
use Rattle.cesu8_decode.proofs.pass.events.dense_nulls.zeroed.Goals as goal

pub returns : goal.returns
returns c =
    ap (λ tests. sel_l tests (replicate 32 0) c.args.bytes)
    (tops_compared w8 eqb c.args.bytes (replicate 32 0xC0) ∙ zip2_splat eqb c.args.bytes 32 0xC0 c.fits-bytes.0)
    ∙ zeroed_of (λ b. eqb b 0xC0) 32 c.args.bytes c.fits-bytes.0
