-- The block has 32 lanes. Those before the first error are bytes that can follow the bytes before
-- them, and the first error is at a byte that cannot.
use Rattle.cesu8_decode.proofs.decoder.ErrorMasks.{within, passed, stopped}
use Rattle.cesu8_decode.proofs.lanes.following.following_len.Goals as goal

pub returns-clause-within : goal.returns-clause-within
returns-clause-within g c window at is =
    within g.S.CharacterSet.set g.F.Flavor.flavor window at 32 c.lanes_before.result c.error_mask.result (c.error_mask.ensures window at is) c.lanes_before.ensures

pub returns-clause-follow : goal.returns-clause-follow
returns-clause-follow g c window at is =
    passed g.S.CharacterSet.set g.F.Flavor.flavor window at 32 c.lanes_before.result c.error_mask.result (c.error_mask.ensures window at is) c.lanes_before.ensures

pub returns-clause-stops : goal.returns-clause-stops
returns-clause-stops g c window at is more =
    stopped g.S.CharacterSet.set g.F.Flavor.flavor window at 32 c.lanes_before.result c.error_mask.result (c.error_mask.ensures window at is) c.lanes_before.ensures more
