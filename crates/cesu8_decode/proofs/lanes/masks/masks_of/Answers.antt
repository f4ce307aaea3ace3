-- Each mask has the bits of its characters, as combinations of the masks of byte classes. If all
-- bytes are characters of one byte, no other begins. `and_comm` brings the operands of lemma and
-- goal to one order, so the code may exchange them.
use Rattle.std.proofs.Common.{arith}
use Rattle.std.proofs.lemmas.Nat.{and_comm}
use Rattle.cesu8_decode.proofs.decoder.FormMasks.{others_are, ones_alone, second_are, long_leads_are, below_c2_are, twos_are, threes_first, pairs_first, nulls_first}
use Rattle.cesu8_decode.proofs.lanes.masks.masks_of.Goals as goal

pub returns-then-others-eq0 : goal.returns-then-others-eq0
returns-then-others-eq0 g c =
    ones_alone g.F.Flavor.flavor c.args.lanes c.fits-lanes.1 c.args.count {lanes = g.row.N} c.requires.count c.first_bits-first.ensures
    c.bits-high.ensures c.null_bytes.ensures c.if-others-eq0.true

pub threes_and_pairs-threes-requires : goal.threes_and_pairs-threes-requires
threes_and_pairs-threes-requires g c =
    let f = g.F.Flavor.flavor in
    let xs = c.args.lanes in
    let fit = c.fits-lanes.1 in
    let leads = long_leads_are f xs fit c.bits-high.ensures c.bits_below.ensures c.bits-from_c2.ensures c.bits_below-wide.ensures (omega arith) (omega arith) (omega arith) in
    let second = second_are f xs fit c.bits-high.ensures c.bits_below.ensures c.bits-from_c2.ensures c.bits_below-wide.ensures (omega arith) (omega arith) (omega arith) in
    (omega arith, (c.requires.lanes, (simp and_comm (simp and_comm at leads), (second, c.bits_below-wide.ensures))))

pub nulls_of-nulls-requires : goal.nulls_of-nulls-requires
nulls_of-nulls-requires g c = (
  omega arith,
  (
    c.requires.lanes,
    below_c2_are g.F.Flavor.flavor c.args.lanes c.fits-lanes.1 c.bits-high.ensures c.bits_below.ensures c.bits-from_c2.ensures c.bits_below-wide.ensures (omega arith) (omega arith) (omega arith),
  ),
)

pub returns : goal.returns
returns g c =
    let f = g.F.Flavor.flavor in
    let xs = c.args.lanes in
    let fit = c.fits-lanes.1 in
    let n = c.args.count in
    let first = c.first_bits-first.ensures in record {
      others = others_are f xs fit n {lanes = g.row.N} c.requires.count first c.bits-high.ensures c.null_bytes.ensures;
      twos = simp and_comm (simp and_comm at (twos_are f xs fit c.bits-high.ensures c.bits_below.ensures c.bits-from_c2.ensures c.bits_below-wide.ensures (omega arith) (omega arith) (omega arith) n _ first));
      threes = threes_first f xs fit n c.threes_and_pairs-threes.ensures.threes first;
      pairs = pairs_first f xs fit n c.threes_and_pairs-threes.ensures.pairs first;
      nulls = nulls_first f xs fit n c.nulls_of-nulls.ensures first;
    }
