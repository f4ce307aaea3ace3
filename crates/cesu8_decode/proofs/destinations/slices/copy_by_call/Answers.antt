-- If the bytes do not fit, nothing has been written, and the error says how many they are.
use Rattle.std.proofs.Common.{refl, rules}
use Rattle.cesu8_decode.proofs.destinations.slices.copy_by_call.Goals as goal

pub returns-then-buf-len : goal.returns-then-buf-len
returns-then-buf-len c = record { written = tt; fits = search rules; needed = refl; unchanged = refl }
