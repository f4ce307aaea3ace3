-- A byte can follow the bytes before it if and only if the class of the byte pair is the required
-- one.
use Rattle.std.proofs.Common.{arith}
use Rattle.cesu8_decode.proofs.decoder.ErrorMasks.{error_mask_is}
use Rattle.cesu8_decode.proofs.lanes.following.error_mask.Goals as goal

pub returns : goal.returns
returns g c window at is =
    error_mask_is g.S.CharacterSet.set g.F.Flavor.flavor window at c.args.block is (omega arith) (omega arith) c.pair_classes.result c.required_classes-required.result
    c.pair_classes.ensures c.required_classes-required.ensures
