-- The mixed conversion copies the characters of UTF-8 that the encoding writes otherwise, and
-- decodes everything else. Either is one step of it: a character that is copied, or a call that
-- decodes.
use Rattle.std.proofs.Common.{◌≡◌, ◌≤◌, ◌++◌, ◌∙◌, length, take, drop, ap, arith, length-append}
use Rattle.std.proofs.lemmas.List.{take_at, length-take-le}
use Rattle.cesu8conv_run.proofs.Steps.{mixed-step-of-decoded, passed-step}
use Rattle.cesu8conv_run.proofs.step.pass_step.Goals as goal

pub returns-then-is_utf8 : goal.returns-then-is_utf8
returns-then-is_utf8 c =
    let len = c.utf8_len-len.result in
    let bytes = c.args.bytes.now in
    let rest = drop len c.args.room.now in
    let part : c.copy_from_slice.new.self ≡ take len bytes = c.copy_from_slice.ensures.after in
    let fits : len ≤ length bytes = c.if-len-bytes.false in
    let size : length (take len bytes) ≡ len = length-take-le len bytes fits in
    passed-step c.args.flavor bytes c.args.is_last (c.copy_from_slice.new.self ++ rest) len fits
    (rw part (omega (arith, size, length-append (take len bytes) rest))) (c.is_utf8.ensures c.if-is_utf8.true)
    (ap (λ y. take len (y ++ rest)) part ∙ take_at (take len bytes) rest len size)

pub returns : goal.returns
returns c =
    mixed-step-of-decoded c.args.flavor c.args.bytes.now c.args.is_last c.decode_step.new.room c.decode_step.result c.decode_step.ensures
