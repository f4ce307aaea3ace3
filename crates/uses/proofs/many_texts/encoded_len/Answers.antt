-- `encoded_len` adds up the lengths of the texts' encodings. The encoding of the joined texts is
-- these encodings in a row (`encoding-joined`), so the sum is its length. If the sum of the first
-- lengths does not fit `usize`, nor does the sum of all.
use Rattle.std.proofs.Common.{arith}
use Rattle.std.proofs.lemmas.Grind.{common_steps}
use Rattle.std.proofs.lemmas.List.Folds.{length-flat_map-take}
use Rattle.uses.proofs.JoinedTexts.{encoded, encoding-joined}
use Rattle.uses.proofs.many_texts.encoded_len.Goals as goal

pub returns-in_err-total-clause-none : goal.returns-in_err-total-clause-none
returns-in_err-total-clause-none c =
    rw (encoding-joined c.concat.ensures c.args.texts.now)
    (grind (arith, common_steps, length-flat_map-take encoded))

pub returns-clause-some : goal.returns-clause-some
returns-clause-some c =
    rw (encoding-joined c.concat.ensures c.args.texts.now) (grind (arith, common_steps))
