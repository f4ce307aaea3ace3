-- `from_utf8` of `simdutf8` accepts the bytes, or returns an error with the length of the longest
-- prefix that is UTF-8. No character begins after that prefix (`utf8_stops`).
use Rattle.std.proofs.Common.{take}
use Rattle.std.proofs.Math.Seq.{take-length}
use Rattle.std.specs.Str.{chars}
use Rattle.simd_cesu8.proofs.StdUtf8.{IsUtf8Of_chars}
use Rattle.cesu8_stream.proofs.Utf8.{utf8_stops}
use Rattle.cesu8_stream.proofs.text.utf8_valid_up_to.Goals as goal

pub returns-in-Ok-clause-valid : goal.returns-in-Ok-clause-valid
returns-in-Ok-clause-valid c =
    let text = IsUtf8Of_chars c.args.bytes.now c.in-Ok.ensures.cases.1 in
    (chars c.args.bytes.now, rw (take-length c.args.bytes.now) text)

pub returns-in-Err-clause-valid : goal.returns-in-Err-clause-valid
returns-in-Err-clause-valid c =
    let front = take c.valid_up_to.result c.args.bytes.now in
    (chars front, IsUtf8Of_chars front (rw c.valid_up_to.ensures c.in-Err.ensures.cases.1.front))

pub returns-in-Err-clause-stops : goal.returns-in-Err-clause-stops
returns-in-Err-clause-stops c =
    λ _. rw c.valid_up_to.ensures (utf8_stops c.args.bytes.now c.in-Err.error.valid_up_to c.in-Err.ensures.cases.1)
