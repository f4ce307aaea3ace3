-- What decoding damaged input needs to know of the lossy reading, from the laws of `simd_cesu8`.
use Rattle.cesu8_stream.proofs.LossyReadings.{text_read, damage_read}
use Rattle.cesu8_stream.proofs.LossyWindows.{parts_read}
use Rattle.cesu8_stream.proofs.decoding.FromEncodingDecoding.lossy_laws.Goals as goal

pub returns-clause-text : goal.returns-clause-text
returns-clause-text g c = text_read c.around.ensures g.E.Encoding.flavor

pub returns-clause-damage : goal.returns-clause-damage
returns-clause-damage g c = damage_read c.split.ensures.parts c.places.ensures.text g.E.Encoding.flavor

pub returns-clause-parts : goal.returns-clause-parts
returns-clause-parts g c = parts_read c.split.ensures.parts g.E.Encoding.flavor

pub returns-clause-is_text : goal.returns-clause-is_text
returns-clause-is_text g c = c.lossy.ensures.text g.E.Encoding.flavor
