-- The copy replaces the bytes from `at` up to `end`, and no others.
use Rattle.std.proofs.Common.{length, ap, arith, rules}
use Rattle.std.proofs.lemmas.Grind.{common_steps}
use Rattle.std.proofs.lemmas.Slice.{drop-put_mid}
use Rattle.cesu8_bytes.proofs.writing.offsets.put.Goals as goal

pub returns : goal.returns
returns c = record {
  writes = record { bytes = grind (arith, common_steps); end = search rules; len = search rules };
  behind = drop-put_mid c.args.at _ _ _ _ (omega arith) (omega arith) (omega (arith, ap length c.copy_from_slice.ensures.after));
}
