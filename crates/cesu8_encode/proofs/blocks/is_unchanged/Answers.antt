-- What is written for a byte depends on the two bytes before it, so `any_in_ends` searches the
-- block's 32 bytes and the two before them. If none of these 34 bytes is a changed byte, the
-- block's encoding is the block.
use Rattle.std.proofs.Common.{◌≡◌, ◌+◌, ◌-◌, ◌||◌, arith, subst}
use Rattle.std.proofs.lemmas.Bool.{iff_false, not-true}
use lib.Lanes.{chunk}
use Rattle.cesu8_bytes.specs.Kernels.{AnyIn}
use Rattle.cesu8_text.specs.Class.{is_at_least_f0}
use Rattle.cesu8_encode.proofs.encoder.UnchangedBytes.{unchanged_block}
use Rattle.cesu8_encode.proofs.blocks.is_unchanged.Goals as goal

pub returns : goal.returns
returns g c none =
    let at = c.args.at in
    let window = c.args.window.now in
    let long : 34 ≡ at + 2 + 32 - at = omega arith in
    unchanged_block g.F.Flavor.flavor g.F.Null.Class.class window at 32 g.met.F.Flavor.are_null (omega arith)
    (λ any. iff_false c.any_in_ends.ensures (not-true _ none)
    (subst (λ n. AnyIn (λ b. g.F.Null.Class.class b || is_at_least_f0 b) (chunk at n window)) long any))
