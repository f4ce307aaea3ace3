-- The contract follows from that of `cesu8_stream::encode`: a status replaces the state. A
-- character has at most 6 bytes in CESU-8. `NOT_UTF8`, the status for `Malformed`, is from 1 to 5,
-- as the lemma requires: the other states have the statuses 0, 6 and 7.
use Rattle.std.proofs.Common.{arith}
use Rattle.simd_cesu8.specs.Text.{utf8}
use Rattle.simd_cesu8.specs.Encoding.{Cesu8, encoding}
use Rattle.cesu8_c.specs.declared.answer.TheConstants.{NOT_UTF8}
use Rattle.cesu8_c.proofs.Progresses.{converts_piece}
use Rattle.cesu8_c.proofs.cesu8_stream_encode.Goals as goal

pub returns : goal.returns
returns c =
    rw c.of.ensures
    (converts_piece utf8 (encoding Cesu8) 6 NOT_UTF8 c.args.text.now c.encode.result c.args.buf.now c.encode.new.buf
    (omega arith) (omega arith) c.encode.ensures)
