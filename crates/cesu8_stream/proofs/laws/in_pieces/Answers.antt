-- One lemma for each clause of the law: what consecutive calls wrote, joined, is the text of the
-- pieces joined.
use Rattle.cesu8_stream.proofs.InPieces.{strict_in_pieces, encoded_in_pieces, lossy_in_pieces}
use Rattle.cesu8_stream.proofs.laws.in_pieces.Goals as goal

pub returns : goal.returns
returns c = record {
  strict = strict_in_pieces c.concat.ensures;
  encoded = encoded_in_pieces c.concat.ensures;
  lossy = lossy_in_pieces;
}
