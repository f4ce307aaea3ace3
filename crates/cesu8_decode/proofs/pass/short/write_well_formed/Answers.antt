-- The bytes with zeros after them are the source. Its window has no ill-formed byte, so its text is
-- that of the bytes in either strictness.
use Rattle.std.proofs.Common.{arith}
use Rattle.cesu8_decode.proofs.by_offset.CharacterBoundaries.{boundary_of_zeros}
use Rattle.cesu8_decode.proofs.decoder.WindowReturns.{text_of_padded}
use Rattle.cesu8_decode.proofs.pass.short.write_well_formed.Goals as goal

pub write_in_turn-requires-clause-window : goal.write_in_turn-requires-clause-window
write_in_turn-requires-clause-window g c = grind (arith, boundary_of_zeros)

pub returns-then-not-changed : goal.returns-then-not-changed
returns-then-not-changed g c which = search (arith, text_of_padded)

pub write_well_formed_events-requires-clause-window : goal.write_well_formed_events-requires-clause-window
write_well_formed_events-requires-clause-window g c = grind (arith, boundary_of_zeros)

pub returns : goal.returns
returns g c which = search (arith, text_of_padded)
