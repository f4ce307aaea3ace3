-- What the engine (src/engine.rt), which is written once for both directions, needs to know if an
-- encoding is the input and UTF-8 is the output: each clause is a lemma on one character or on a
-- truncated one. At most one character begins the same bytes, by the law `no_overlap`.
use Rattle.cesu8_stream.proofs.Characters.{encoding_empty, encoding_some, encoding_few, utf8_few, one_encoded_begins}
use Rattle.cesu8_stream.proofs.Completions.{part_completes}
use Rattle.cesu8_stream.proofs.conversion.FromEncodingConversion.laws.Goals as goal

pub returns-clause-from_empty : goal.returns-clause-from_empty
returns-clause-from_empty g c = encoding_empty g.E.Encoding.flavor

pub returns-clause-at_least_one : goal.returns-clause-at_least_one
returns-clause-at_least_one g c = encoding_some g.E.Encoding.flavor

pub returns-clause-at_most_six : goal.returns-clause-at_most_six
returns-clause-at_most_six g c = encoding_few g.E.Encoding.flavor

pub returns-clause-widest : goal.returns-clause-widest
returns-clause-widest g c = utf8_few

pub returns-clause-one_begins : goal.returns-clause-one_begins
returns-clause-one_begins g c = one_encoded_begins c.no_overlap.ensures g.E.Encoding.flavor

pub returns-clause-completed : goal.returns-clause-completed
returns-clause-completed g c = part_completes g.E.Encoding.flavor
