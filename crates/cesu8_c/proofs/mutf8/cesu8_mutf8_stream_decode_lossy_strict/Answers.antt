-- The contract of `cesu8_stream::mutf8::decode_lossy_strict`, with a status in place of the state.
-- `INVALID` is the status for `Malformed`, a state that this call never returns. It is from 1 to 5,
-- as the lemma requires: the other states have the statuses 0, 6 and 7.
use Rattle.std.proofs.Common.{arith}
use Rattle.simd_cesu8.specs.Encoding.{Mutf8, encoding}
use Rattle.simd_cesu8.specs.Reading.{reading}
use Rattle.cesu8_c.specs.declared.answer.TheConstants.{INVALID}
use Rattle.cesu8_c.proofs.Progresses.{decodes_piece}
use Rattle.cesu8_c.proofs.mutf8.cesu8_mutf8_stream_decode_lossy_strict.Goals as goal

pub returns : goal.returns
returns c =
    rw c.of.ensures
    (decodes_piece (encoding Mutf8) (reading Mutf8) c.args.is_last INVALID c.args.bytes.now c.decode_lossy_strict.result
    c.args.buf.now c.decode_lossy_strict.new.buf (omega arith) (omega arith) c.decode_lossy_strict.ensures)
