-- `source` is the bytes with zeros after them. So the window that is computed from the bytes is
-- also a window of `source`, and its text is that of the bytes. It begins at offset 0, which is a
-- boundary, since `window_of` puts five zeros before the bytes.
use Rattle.std.proofs.Common.{arith}
use Rattle.cesu8_decode.proofs.by_offset.CharacterBoundaries.{boundary_of_zeros}
use Rattle.cesu8_decode.proofs.decoder.WindowReturns.{padded_window, text_of_padded_lossily}
use Rattle.cesu8_decode.proofs.pass.short.write_lossily.Goals as goal

pub write_ill_formed_events-requires-clause-window : goal.write_ill_formed_events-requires-clause-window
write_ill_formed_events-requires-clause-window g c = record { is_window = search (arith, padded_window); boundary = search boundary_of_zeros; few = grind arith; after = grind arith }

pub returns : goal.returns
returns g c = search (arith, padded_window, text_of_padded_lossily)
