-- In the mode `Lenient` the result is that of `lenient_prefix`. The mode `EncodingAlone` returns
-- input unchanged exactly if the unchanged prefix is all of it.
use Rattle.cesu8_decode.proofs.chunks.UnchangedPrefixes.{all_unchanged, found_unless_kept}
use Rattle.cesu8_decode.proofs.modes.prefix_in_mode.Goals as goal

pub returns-in-Lenient : goal.returns-in-Lenient
returns-in-Lenient g c = rw c.in-Lenient.is c.lenient_prefix.ensures

pub returns-in-EncodingAlone : goal.returns-in-EncodingAlone
returns-in-EncodingAlone g c =
    let f = g.F.Flavor.flavor in
    let bytes = c.args.bytes.now in
    rw c.in-EncodingAlone.is (found_unless_kept f _ bytes _ c.requires (λ stays. stays) (all_unchanged f bytes _ c.requires.len).1)
