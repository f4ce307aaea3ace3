-- No character begins any of the prefixes that were tested. So the first prefix that a character
-- begins is this character alone.
use Rattle.std.proofs.Common.{ℕ, ◌<◌, take}
use Rattle.cesu8_stream.specs.Written.{BeginsNone}
use Rattle.cesu8_stream.proofs.engine.first_len.Given as goal

abbrev pub invariant-loop-len : goal.invariant-loop-len
invariant-loop-len g l = (n : ℕ) → 0 < n → n < l.len → BeginsNone g.C.Conversion.from (take n l.bytes)
