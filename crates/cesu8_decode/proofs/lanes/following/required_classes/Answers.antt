-- The saturating subtraction of 60 (hexadecimal) leaves the highest bit exactly for E0 and more. If
-- the set has surrogate pairs, ED and a byte from A0 to AF also require the second byte of a low
-- surrogate.
use Rattle.std.proofs.Common.{◌∙◌, refl, sym, ap}
use Rattle.std.proofs.lemmas.Bool.{not-true, not-false}
use Rattle.cesu8_decode.proofs.decoder.FollowingLanes.{third_are, alone_are, required_are, led_are}
use Rattle.cesu8_decode.proofs.lanes.following.required_classes.Goals as goal

pub returns-then-not-rule : goal.returns-then-not-rule
returns-then-not-rule g c =
    alone_are g.S.CharacterSet.set (ap (λ r. r.has_changed) (sym c.rule.ensures) ∙ not-true _ c.if-not-rule.true) c.args.four_before c.args.three_before c.args.two_before _
    c.fits-four_before.0 c.fits-three_before.0 c.fits-two_before.0
    (third_are c.args.three_before c.args.two_before _
    c.fits-three_before.0 c.fits-two_before.0 (led_are 0x60 0xE0 refl c.args.two_before c.fits-two_before.0 c.fits-two_before.1))

pub returns : goal.returns
returns g c =
    required_are g.S.CharacterSet.set (ap (λ r. r.has_changed) (sym c.rule.ensures) ∙ not-false _ c.if-not-rule.false) c.args.four_before c.args.three_before c.args.two_before _
    c.mask.result c.mask-2.result c.fits-four_before.0 c.fits-three_before.0 c.fits-two_before.0 c.fits-three_before.1
    (third_are c.args.three_before c.args.two_before _
    c.fits-three_before.0 c.fits-two_before.0 (led_are 0x60 0xE0 refl c.args.two_before c.fits-two_before.0 c.fits-two_before.1)) c.mask.ensures c.mask-2.ensures
