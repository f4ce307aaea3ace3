-- The capacity for all encodings was reserved first. The next one fits, so `unwrap` never fails.
use Rattle.std.proofs.Common.{length, arith, append-nil, ap, sym}
use Rattle.std.proofs.lemmas.Grind.{common_steps}
use Rattle.std.proofs.lemmas.List.Folds.{length-flat_map-take}
use Rattle.uses.proofs.JoinedTexts.{encoded, encoding-joined}
use Rattle.uses.proofs.many_texts.append_all.Goals as goal

pub loop-text-init : goal.loop-text-init
loop-text-init c =
    let len = ap length (encoding-joined c.concat.ensures c.args.texts.now) in
    record {
      items = sym (append-nil c.reserve_exact.new.self.items);
      room = grind (arith, common_steps);
    }

pub unwrap-requires : goal.unwrap-requires
unwrap-requires c =
    c.encode_into.ensures.room (grind (arith, common_steps, length-flat_map-take encoded))

pub returns-clause-ok : goal.returns-clause-ok
returns-clause-ok c =
    rw (encoding-joined c.concat.ensures c.args.texts.now) (grind (arith, common_steps))
