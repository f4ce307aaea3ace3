-- The function decodes the first `part.len()` bytes after the count, which are the counted bytes.
use Rattle.std.proofs.Common.{sym, subst}
use Rattle.simd_cesu8.specs.Encoding.{Mutf8}
use Rattle.simd_cesu8.specs.Reading.{IsStrictReading}
use Rattle.simd_cesu8.specs.Slices.{WritesReading}
use Rattle.java_text.proofs.Forms.{counted_written}
use Rattle.java_text.proofs.decode_counted.Goals as goal

pub returns : goal.returns
returns c =
    let result = c.decode_mutf8_front_to_slice.result in
    let new = c.decode_mutf8_front_to_slice.new.buf in
    subst (λ part. WritesReading (IsStrictReading Mutf8 part) result c.args.buf.now new) (sym c.requires.counted)
    (counted_written c.args.bytes.now c.args.part.now result c.args.buf.now new c.requires.counted c.decode_mutf8_front_to_slice.ensures)
