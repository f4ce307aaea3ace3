-- The vectors up to an offset are equal, so the first difference in the next one is the first of
-- all.
use Rattle.std.proofs.Common.{◌-◌, arith, rules}
use Rattle.cesu8_bytes.proofs.lists.Prefixes.{same_further}
use Rattle.cesu8_bytes.proofs.order.difference_by.Goals as goal

pub returns-then-same : goal.returns-then-same
returns-then-same g c = record {
  within = search rules;
  same = same_further c.args.bytes.now c.args.other.now c.loop-offset.offset c.loop-offset.offset c.equal_lanes-same.result (omega arith)
      c.loop-offset.invariant c.equal_lanes-same.ensures.same;
  end = λ _. c.equal_lanes-same.ensures.end c.if-same.true;
}

pub loop-offset-preserved : goal.loop-offset-preserved
loop-offset-preserved g c =
    same_further c.args.bytes.now c.args.other.now c.loop-offset.offset c.loop-offset.offset g.row.N (omega arith)
    c.loop-offset.invariant (λ i before. c.equal_lanes-same.ensures.same i (omega arith))

-- The last vector begins at or before the offset, so no byte that it covers again differs.
pub returns : goal.returns
returns g c = record {
  within = omega arith;
  same = same_further c.args.bytes.now c.args.other.now c.loop-offset.offset (c.args.len - g.row.N) c.equal_lanes.result
      (omega arith) c.loop-offset.invariant c.equal_lanes.ensures.same;
  end = λ less. c.equal_lanes.ensures.end (omega arith);
}
