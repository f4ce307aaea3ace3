-- If the log has a strict reading, this is the lossy reading too, and its encoding is the log
-- itself.
use Rattle.std.proofs.Common.{◌≡◌, ◌∙◌, ap, arith}
use Rattle.std.proofs.lemmas.Grind.{common_steps}
use Rattle.simd_cesu8.specs.Encoding.{Cesu8, encoding}
use Rattle.simd_cesu8.specs.Reading.{reading}
use Rattle.uses.proofs.repair.rewrite_log.Goals as goal

pub returns-clause-whole : goal.returns-clause-whole
returns-clause-whole c text reads =
    let same : encoding Cesu8 (reading Cesu8 c.args.log.now) ≡ c.args.log.now =
    ap (encoding Cesu8) (c.lossy.ensures.strict Cesu8 c.args.log.now text reads) ∙ reads.1 in
    grind (arith, common_steps, same)
