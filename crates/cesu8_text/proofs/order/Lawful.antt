-- The laws of `specs/Laws.antt` that combine several lemmas. The others are proved in the
-- modules of their subjects.
use Rattle.std.proofs.Common.{◌∙◌, arith}
use Rattle.std.specs.Str.{chars}
use Rattle.cesu8_text.specs.Encoding.{encoding}
use Rattle.cesu8_text.specs.Reading.{reading}
use Rattle.cesu8_text.specs.Laws.{RoundTrip, CharsAreText, CharsInUtf8, SameBytes, DecodedBack, NotRefused, EncodedBack, Needs, UnchangedEncoding, UnchangedString, NoZero, Bounds, OneMark, HasGreedyCutting, ReadAgain, LossyIsStrict}
use Rattle.cesu8_text.proofs.StdUtf8.{IsUtf8Of_chars, IsUtf8_utf8}
use Rattle.cesu8_text.proofs.reading.EncodedBytes.{encoded_bytes, none_changed, same_in_both}
use Rattle.cesu8_text.proofs.reading.EncodedTexts.{reading_encoding, encoding_injective}
use Rattle.cesu8_text.proofs.reading.LossyTexts.{reading_is_text}
use Rattle.cesu8_text.proofs.encoding.Lengths.{length_bounds}
use Rattle.cesu8_text.proofs.reading.Cuttings.{cutting_length, greedy_cutting, reading_length}
use Rattle.cesu8_text.proofs.reading.Marks.{mark_is, mark_from}
use Rattle.cesu8_text.proofs.encoding.NeedsEncoding.{encoding_same, encoding_longer, needs_by_bytes}

-- An encoding decodes to the text that was encoded.
pub round_trip_law : RoundTrip
round_trip_law = grind (arith, encoding_injective)

-- The characters of a string are scalar values.
pub chars_are_text_law : CharsAreText
chars_are_text_law string is_utf8 = (IsUtf8Of_chars string is_utf8).0

-- The UTF-8 of a string's characters is the string.
pub chars_in_utf8_law : CharsInUtf8
chars_in_utf8_law string is_utf8 = (IsUtf8Of_chars string is_utf8).1

-- Strings with equal characters have equal bytes.
pub same_bytes_law : SameBytes
same_bytes_law string other is_utf8 other_is_utf8 same = grind (arith, IsUtf8Of_chars)

-- An encoded string decodes to itself.
pub decoded_back_law : DecodedBack
decoded_back_law f string bytes back is_utf8 back_is_utf8 encoded reads = grind (arith, IsUtf8Of_chars, encoding_injective)

-- Strict decoding never rejects an encoded string.
pub not_refused_law : NotRefused
not_refused_law f string bytes is_utf8 encoded none = grind (arith, IsUtf8Of_chars, none (chars string))

-- Encoding what was decoded gives back the bytes.
pub encoded_back_law : EncodedBack
encoded_back_law f bytes string back reads encoded = encoded ∙ reads.1

-- A text needs no encoding if and only if its encoding is its UTF-8.
pub needs_law : Needs
needs_law f text is_text = grind (arith, encoding_same f text is_text, encoding_longer f text is_text)

-- A string needs no encoding if and only if none of its bytes changes.
pub unchanged_string_law : UnchangedString
unchanged_string_law f string is_utf8 = grind (arith, needs_by_bytes f string is_utf8)

-- A text needs no encoding if and only if its encoding is UTF-8, since no encoding has a byte that
-- changes.
pub unchanged_encoding_law : UnchangedEncoding
unchanged_encoding_law f text is_text = (
  λ usual. grind (arith, encoding_same f text is_text usual, IsUtf8_utf8, none_changed f text is_text),
  λ same. grind (arith, needs_law f text is_text, IsUtf8Of_chars, same_in_both f (encoding f text) (chars (encoding f text)) text),
)

-- No byte of MUTF-8 is 0, and no byte of either encoding is F0 (hexadecimal) or more.
pub no_zero_law : NoZero
no_zero_law = grind (arith, encoded_bytes)

-- A lossy reading that is encoded again decodes to itself.
pub read_again_law : ReadAgain
read_again_law f bytes = reading_encoding f (reading f bytes) (reading_is_text f bytes)

-- If bytes have a strict reading, their lossy reading is equal to it.
pub lossy_is_strict_law : LossyIsStrict
lossy_is_strict_law f bytes text reads = grind (arith, reading_encoding)

-- The four bounds on lengths: of an encoding, a strict reading, a cutting and the lossy reading.
pub bounds_law : Bounds
bounds_law = (grind (arith, length_bounds), grind (arith, length_bounds), cutting_length, reading_length)

-- Each offset has exactly one mark, which the function computes.
pub one_mark_law : OneMark
one_mark_law = grind (arith, mark_is, mark_from)

-- All bytes have a greedy cutting.
pub has_greedy_cutting_law : HasGreedyCutting
has_greedy_cutting_law f bytes = let cutting = greedy_cutting f bytes in (cutting.pieces, cutting.cuts, cutting.greedy)
