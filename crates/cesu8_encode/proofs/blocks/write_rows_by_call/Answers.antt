-- The first three rows, 24 bytes, become at most 48, and the vector of the last row has 16 bytes.
-- So the rows fit in 64.
use Rattle.std.proofs.Common.{arith}
use Rattle.cesu8_encode.proofs.encoder.EncodedWindows.{at_most_twice}
use Rattle.cesu8_encode.proofs.blocks.write_rows_by_call.Goals as goal

pub write_rows-requires-clause-room : goal.write_rows-requires-clause-room
write_rows-requires-clause-room g c = omega (arith, at_most_twice g.F.Flavor.flavor c.args.window.now 0 24, c.requires.room)
