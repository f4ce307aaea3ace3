-- A log loses bytes if and only if it has no strict reading (`loses_bytes`, `loses_none`). By the
-- laws `middle` and `fewest`, each whole record is kept, and as few bytes as possible are replaced.
use Rattle.std.proofs.Common.{◌≡◌, IsTrue, false, refl, sym, ◌∙◌, ap}
use Rattle.std.specs.Str.{chars}
use Rattle.simd_cesu8.specs.Cow.{answer_text}
use Rattle.simd_cesu8.specs.Encoding.{Cesu8}
use Rattle.simd_cesu8.specs.Reading.{reading}
use Rattle.uses.proofs.LostBytes.{loses_bytes, loses_none}
use Rattle.uses.proofs.repair.repair_log.Goals as goal

-- The strict reading is the lossy one.
is_reading : (c : goal.In-Ok) → chars (answer_text c.in-Ok.text) ≡ reading Cesu8 c.args.log.now
is_reading c = sym (c.lossy.ensures.strict Cesu8 c.args.log.now _ c.in-Ok.ensures.text)

pub returns-in-Ok-clause-damaged : goal.returns-in-Ok-clause-damaged
returns-in-Ok-clause-damaged c = (
  (λ (is_true : IsTrue false). absurd (cc)),
  (λ loses. absurd (loses_none c.concat.ensures c.args.log.now _ c.in-Ok.ensures.text loses)),
)

pub returns-in-Ok-clause-kept : goal.returns-in-Ok-clause-kept
returns-in-Ok-clause-kept c before text after is_text some is =
    is_reading c ∙ ap (reading Cesu8) is ∙ c.middle.ensures Cesu8 before text after is_text some

pub returns-in-Ok-clause-fewest : goal.returns-in-Ok-clause-fewest
returns-in-Ok-clause-fewest c =
    let cutting = c.fewest.ensures Cesu8 c.args.log.now in
    (cutting.0, cutting.1, cutting.3 ∙ sym (is_reading c), cutting.4)

pub returns-in_ok-decode_lossy_strict-in-Err-Invalid-clause-damaged :
    goal.returns-in_ok-decode_lossy_strict-in-Err-Invalid-clause-damaged
returns-in_ok-decode_lossy_strict-in-Err-Invalid-clause-damaged c =
    let none = rw c.in-Err-Invalid.field-0-is at c.in-Err-Invalid.ensures.invalid in
    ((λ is_true. loses_bytes c.concat.ensures c.args.log.now none), (λ loses. refl))

pub returns-in_ok-decode_lossy_strict-in-Err-Invalid-clause-fewest :
    goal.returns-in_ok-decode_lossy_strict-in-Err-Invalid-clause-fewest
returns-in_ok-decode_lossy_strict-in-Err-Invalid-clause-fewest c =
    let cutting = c.fewest.ensures Cesu8 c.args.log.now in
    let reading = c.in_ok-decode_lossy_strict-in-Err-Invalid.ensures.reading in
    (cutting.0, cutting.1, cutting.3 ∙ sym reading, cutting.4)
