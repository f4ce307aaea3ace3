-- The class of a byte pair is what its three table entries have in common. In MUTF-8 the bit for C0
-- is cleared if the second byte is 80 and the set has C0 80. If the second byte is 00, which no
-- MUTF-8 has, all bits are set, and no byte is required to have such a class.
use Rattle.std.proofs.Common.{◌≡◌}
use Rattle.std.proofs.lemmas.Bool.{iff_false}
use Rattle.cesu8_text.specs.Encoding.{Cesu8, Mutf8}
use Rattle.cesu8_decode.proofs.decoder.FollowingLanes.{cesu8_unless, cesu8_lanes, mutf8_lanes}
use Rattle.cesu8_decode.proofs.decoder.TableLookups.{table_bits_are}
use Rattle.cesu8_decode.proofs.lanes.following.pair_classes.Goals as goal

pub returns-then-has_long_null : goal.returns-then-has_long_null
returns-then-has_long_null g c =
    let s = g.S.CharacterSet.set in
    let is_mutf8 : g.F.Flavor.flavor ≡ Mutf8 = c.has_long_null.ensures.0 c.if-has_long_null.true in
    let r = c.rule-rule.result in
    rw (
      is_mutf8,
      c.look_up.ensures,
      c.look_up-2.ensures,
      c.look_up-3.ensures,
      table_bits_are r.by_high r.by_low r.by_next c.args.first c.args.second c.fits-first.0 c.fits-second.0,
      c.rule-rule.ensures,
    )
    (mutf8_lanes s c.args.first c.args.second c.kept_of_null.result c.nulls.result c.fits-first.0 c.fits-second.0 c.fits-first.1 c.fits-second.1
    c.kept_of_null.ensures (rw is_mutf8 at c.nulls.ensures))

pub returns : goal.returns
returns g c =
    let is_cesu8 : g.F.Flavor.flavor ≡ Cesu8 = cesu8_unless g.F.Flavor.flavor (iff_false c.has_long_null.ensures c.if-has_long_null.false) in
    let r = c.rule-rule.result in
    rw (
      is_cesu8,
      c.look_up.ensures,
      c.look_up-2.ensures,
      c.look_up-3.ensures,
      table_bits_are r.by_high r.by_low r.by_next c.args.first c.args.second c.fits-first.0 c.fits-second.0,
      c.rule-rule.ensures,
    )
    (cesu8_lanes g.S.CharacterSet.set c.args.first c.args.second c.fits-first.0 c.fits-second.0 c.fits-first.1 c.fits-second.1)
