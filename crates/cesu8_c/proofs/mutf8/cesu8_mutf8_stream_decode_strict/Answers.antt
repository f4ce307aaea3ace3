-- The contract of `cesu8_stream::mutf8::decode_strict`, with a status in place of the state. A
-- character has at most 4 bytes in UTF-8. `INVALID`, the status for `Malformed`, is from 1 to 5, as
-- the lemma requires: the other states have the statuses 0, 6 and 7.
use Rattle.std.proofs.Common.{arith}
use Rattle.simd_cesu8.specs.Text.{utf8}
use Rattle.simd_cesu8.specs.Encoding.{Mutf8, encoding}
use Rattle.cesu8_c.specs.declared.answer.TheConstants.{INVALID}
use Rattle.cesu8_c.proofs.Progresses.{converts_piece}
use Rattle.cesu8_c.proofs.mutf8.cesu8_mutf8_stream_decode_strict.Goals as goal

pub returns : goal.returns
returns c =
    rw c.of.ensures
    (converts_piece (encoding Mutf8) utf8 4 INVALID c.args.bytes.now c.decode_strict.result c.args.buf.now
    c.decode_strict.new.buf (omega arith) (omega arith) c.decode_strict.ensures)
