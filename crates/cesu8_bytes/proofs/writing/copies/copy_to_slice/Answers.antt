-- If the bytes do not fit, nothing has been written, and the error has their number.
use Rattle.std.proofs.Common.{refl, rules}
use Rattle.cesu8_bytes.proofs.writing.copies.copy_to_slice.Goals as goal

pub returns-then-buf-len : goal.returns-then-buf-len
returns-then-buf-len c = record { written = tt; fits = search rules; needed = refl; unchanged = refl }
