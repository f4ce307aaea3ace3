-- At most 64 bytes are one window: their valid prefix ends at the first ill-formed byte, the lowest
-- set bit of the window's mask. For more bytes, `longest_prefix` for the set of all encoded
-- characters is the valid prefix.
use Rattle.cesu8_decode.proofs.chunks.MaskPrefixes.{valid_by_mask}
use Rattle.cesu8_decode.proofs.chunks.LongestPrefixes.{valid_up_to_of}
use Rattle.cesu8_decode.proofs.valid.valid_up_to_other.Goals as goal

pub returns-then-are_short : goal.returns-then-are_short
returns-then-are_short g c =
    let f = g.F.Flavor.flavor in
    let bytes = c.args.bytes.now in
    let is = c.window_of_short-window.ensures.window in
    valid_up_to_of f bytes c.min.result
    (valid_by_mask f bytes c.window_of_short-window.result (c.are_short.ensures.0 c.if-are_short.true) is.0 is.1 c.min.result c.min.ensures)

pub returns : goal.returns
returns g c = valid_up_to_of g.F.Flavor.flavor c.args.bytes.now c.longest_prefix.result c.longest_prefix.ensures
