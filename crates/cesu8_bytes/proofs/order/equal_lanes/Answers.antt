-- The lowest bit of the mask is the first lane in which the vectors differ.
use Rattle.std.proofs.Common.{◌≡◌, ◌∙◌, not}
use Rattle.std.specs.List.{prefix_len}
use Rattle.cesu8_bytes.proofs.lists.Prefixes.{differ, same_before, differs_there, run_within, first_of_marks}
use Rattle.cesu8_bytes.proofs.order.equal_lanes.Given.{Over}
use Rattle.cesu8_bytes.proofs.order.equal_lanes.Goals as goal

-- The result is the index of the first lane that differs.
first : (g : Over) (c : goal.After-first_bit g) →
    c.first_bit.result ≡ prefix_len (λ b. not b) (differ c.args.offset g.row.N c.args.bytes.now c.args.other.now)
first g c =
    c.first_bit.ensures
    ∙ first_of_marks c.args.offset g.row.N c.args.bytes.now c.args.other.now c.requires.long.0 c.requires.long.1 c.requires.lanes

pub returns-clause-within : goal.returns-clause-within
returns-clause-within g c =
    run_within c.args.offset g.row.N c.args.bytes.now c.args.other.now c.requires.long.0 c.requires.long.1 _ (first g c)

pub returns-clause-same : goal.returns-clause-same
returns-clause-same g c =
    same_before c.args.offset g.row.N c.args.bytes.now c.args.other.now c.requires.long.0 c.requires.long.1 _ (first g c)

pub returns-clause-end : goal.returns-clause-end
returns-clause-end g c =
    differs_there c.args.offset g.row.N c.args.bytes.now c.args.other.now c.requires.long.0 c.requires.long.1 _ (first g c)
