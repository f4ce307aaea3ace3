-- The length of an encoding, compared with the string's.
use Rattle.std.proofs.Common.{ℕ, ◌≤◌, List, ap, arith, length}
use Rattle.std.specs.Str.{chars, IsUtf8}
use Rattle.cesu8_text.specs.Encoding.{Flavor, encoding}
use Rattle.cesu8_text.proofs.StdUtf8.{IsUtf8Of_chars}
use Rattle.cesu8_text.proofs.encoding.Lengths.{length_bounds}

-- An encoding is at least as long as the string.
pub no_shorter : (f : Flavor) (bytes : List ℕ) → IsUtf8 bytes → length bytes ≤ length (encoding f (chars bytes))
no_shorter f bytes is_utf8 =
    let of_chars = IsUtf8Of_chars bytes is_utf8 in
    omega (arith, (length_bounds f (chars bytes) of_chars.0).low, ap length of_chars.1)
