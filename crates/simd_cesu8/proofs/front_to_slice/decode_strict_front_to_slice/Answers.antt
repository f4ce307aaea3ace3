-- Only the first `len` bytes count, or all bytes if there are fewer. If they are ASCII that is the
-- same in UTF-8, the fast path has copied them, and they are their own strict reading. Otherwise it
-- wrote nothing, and the call decodes them to the buffer.
use Rattle.std.proofs.Common.{ℕ, ◌^◌, ◌<◌, ◌≤◌, List, Ok, length, take, arith}
use Rattle.std.specs.Str.{chars}
use Rattle.std.proofs.lemmas.List.{take_min}
use Rattle.simd_cesu8.specs.Encoding.{Flavor}
use Rattle.simd_cesu8.specs.Reading.{IsStrictReading}
use Rattle.simd_cesu8.specs.Class.{IsUnchangedUtf8}
use Rattle.simd_cesu8.specs.Slices.{StandsAtFront, WritesReading}
use Rattle.cesu8_text.proofs.reading.KeptTexts.{encoding_texts}
use Rattle.cesu8_bytes.specs.declared.strictness.Strictness.TheVariants.{Strict}
use Rattle.cesu8_decode.proofs.chunks.SliceReadings.{answer_put, only_kept}
use Rattle.simd_cesu8.proofs.front_to_slice.decode_strict_front_to_slice.Goals as goal

-- Copying unchanged bytes to the start of the buffer writes their strict reading: they are its UTF-8,
-- and no other text has them as its encoding (`encoding_texts`).
unchanged_written : (f : Flavor) (bytes : List ℕ) (len : ℕ) (old new : List ℕ) → IsUnchangedUtf8 f bytes → length bytes < 2 ^ 64 →
    length bytes ≤ length old → StandsAtFront bytes len old new → WritesReading (IsStrictReading f bytes) (Ok len) old new
unchanged_written f bytes len old new unchanged small room stands =
    let is = only_kept f bytes _ _ _ (encoding_texts f bytes) Strict unchanged in
    let puts = answer_put Strict (IsStrictReading f bytes) (chars bytes) bytes old is small len new room stands in
    record { written = puts.written; fits = puts.fits; invalid = puts.invalid; needed = tt; unchanged = tt }

pub returns-then-copy_unchanged_ascii : goal.returns-then-copy_unchanged_ascii
returns-then-copy_unchanged_ascii g c =
    let first = take c.min-len.result c.args.bytes.now in
    let copied = c.copy_unchanged_ascii.ensures in
    let found = c.if-copy_unchanged_ascii.true in
    let stands = copied.copied found in
    rw (← take_min c.args.len c.args.bytes.now, ← c.min-len.ensures)
    (unchanged_written g.F.Flavor.flavor first c.min-len.result c.args.buf.now c.copy_unchanged_ascii.new.buf (copied.unchanged found)
    (omega (arith, stands.0, c.min-len.type_inv)) (omega (arith, stands.0, copied.fits found)) stands)

pub returns : goal.returns
returns g c =
    rw (← take_min c.args.len c.args.bytes.now, ← c.min-len.ensures, ← c.copy_unchanged_ascii.ensures.other c.if-copy_unchanged_ascii.false)
    c.decode_by_call.ensures
