-- The tests of `simdutf8` for UTF-8, in the terms of streams: which text the bytes are, and that no
-- character begins after the longest valid prefix.
use Rattle.std.proofs.Common.{◌≡◌, ℕ, ◌+◌, List, [], ◌∷◌, ◌++◌, sym, ap, ◌∙◌, arith, length, take, drop}
use Rattle.std.proofs.lemmas.Grind.{flat_map-append}
use Rattle.std.specs.Str.{chars, IsValidUpTo}
use Rattle.simd_cesu8.specs.Text.{utf8_of, utf8}
use Rattle.simd_cesu8.proofs.StdUtf8.{IsUtf8Of_chars, std_utf8, chars_utf8}
use Rattle.cesu8_stream.specs.Written.{IsWritten, BeginsNone}
use Rattle.cesu8_stream.proofs.Joined.{Appends, joined_written}
use Rattle.cesu8_stream.proofs.First.{first_bytes}
use Rattle.cesu8_stream.proofs.Characters.{utf8_some}

-- The UTF-8 of a concatenation is the concatenation of the UTF-8.
pub utf8_appends : Appends utf8
utf8_appends s t = flat_map-append utf8_of s t

-- After the longest prefix that is UTF-8, no character begins.
pub utf8_stops : (bytes : List ℕ) (n : ℕ) → IsValidUpTo bytes n → BeginsNone utf8 (drop n bytes)
utf8_stops bytes n valid c b =
    let len = length (utf8 (c ∷ [])) in
    let first = IsUtf8Of_chars (take n bytes) valid.front in
    let next : IsWritten utf8 (take len (drop n bytes)) (c ∷ []) =
    ((b.scalar, tt), sym (first_bytes utf8 (drop n bytes) c b)) in
    let both = joined_written utf8 n len bytes (chars (take n bytes)) (c ∷ []) utf8_appends first next in
    let some = utf8_some c in
    valid.longest (n + len) (omega arith) ((std_utf8 (take (n + len) bytes)).1 (chars (take n bytes) ++ c ∷ [], both))

-- The text of bytes of UTF-8 is their characters.
pub chars_are_text : (bytes text : List ℕ) → IsWritten utf8 bytes text → chars bytes ≡ text
chars_are_text bytes text written = ap chars (sym written.1) ∙ chars_utf8 text written.0
