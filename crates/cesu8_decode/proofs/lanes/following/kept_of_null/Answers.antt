-- If the set has C0 80, the mask of each lane that is 80 is EF (hexadecimal), which lacks the bit
-- `OVERLONG_C0`. All other masks are FF.
use Rattle.std.proofs.Common.{◌≡◌, ◌∙◌, eqb, sym, ap, true}
use Rattle.cesu8_bytes.proofs.lists.Lanes.{chosen_lanes}
use Rattle.cesu8_decode.specs.Following.{has_changed}
use Rattle.cesu8_decode.proofs.decoder.FollowingLanes.{all_kept}
use Rattle.cesu8_decode.proofs.lanes.following.kept_of_null.Goals as goal

pub returns-then-rule : goal.returns-then-rule
returns-then-rule g c =
    let meant : has_changed g.S.CharacterSet.set ≡ true = ap (λ r. r.has_changed) (sym c.rule.ensures) ∙ c.if-rule.true in
    rw meant (chosen_lanes 32 eqb 0x80 0xEF 0xFF c.args.bytes c.fits-bytes.0)

pub returns : goal.returns
returns g c = all_kept g.S.CharacterSet.set (ap (λ r. r.has_changed) (sym c.rule.ensures) ∙ c.if-rule.false) c.args.bytes c.fits-bytes.0
