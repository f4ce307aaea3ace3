-- The error of `simdutf8` says that the bytes are not UTF-8 by std's definition (`IsUtf8`), so they
-- are the UTF-8 of no text.
use Rattle.simd_cesu8.proofs.StdUtf8.{not_utf8_of}
use Rattle.cesu8_stream.proofs.text.utf8_text.Goals as goal

pub returns-in-Err-clause-none : goal.returns-in-Err-clause-none
returns-in-Err-clause-none c = not_utf8_of c.args.bytes.now c.in-Err.ensures
