-- What the engine (src/engine.rt) needs to know if UTF-8 is the input and an encoding is the
-- output: each clause is a lemma on no character (`to_empty`), on one, or on a truncated one.
-- `at_most_six` is about the input of a character, and `widest` about its output.
use Rattle.std.proofs.Common.{arith}
use Rattle.cesu8_stream.proofs.Characters.{encoding_empty, encoding_few, utf8_some, utf8_few, one_utf8_begins}
use Rattle.cesu8_stream.proofs.Utf8Completions.{utf8_part_completes}
use Rattle.cesu8_stream.proofs.conversion.ToEncodingConversion.laws.Goals as goal

pub returns-clause-to_empty : goal.returns-clause-to_empty
returns-clause-to_empty g c = encoding_empty g.E.Encoding.flavor

pub returns-clause-at_least_one : goal.returns-clause-at_least_one
returns-clause-at_least_one g c = utf8_some

pub returns-clause-at_most_six : goal.returns-clause-at_most_six
returns-clause-at_most_six g c = λ x. let few = utf8_few x in omega arith

pub returns-clause-widest : goal.returns-clause-widest
returns-clause-widest g c = encoding_few g.E.Encoding.flavor

pub returns-clause-one_begins : goal.returns-clause-one_begins
returns-clause-one_begins g c = one_utf8_begins

pub returns-clause-completed : goal.returns-clause-completed
returns-clause-completed g c = utf8_part_completes
