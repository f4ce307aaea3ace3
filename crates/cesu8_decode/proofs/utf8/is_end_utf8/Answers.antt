-- The rest is padded with zeros to 64 bytes. They are ASCII, so they do not change whether the
-- bytes are UTF-8 (`with_zeros`).
use Rattle.std.proofs.Common.{◌-◌, ◌++◌, length, append_assoc}
use Rattle.cesu8_decode.proofs.chunks.Utf8Parts.{with_zeros}
use Rattle.cesu8_decode.proofs.utf8.is_end_utf8.Goals as goal

pub returns : goal.returns
returns c read has =
    let rest = c.args.rest.now in
    let same = with_zeros (read ++ rest) (64 - length rest) in
    let said = rw (c.padded.ensures, ← append_assoc) at (c.finish.ensures _ (c.step.ensures read has)) in
    (λ t. same.0 (said.0 t), λ is_utf8. said.1 (same.1 is_utf8))
