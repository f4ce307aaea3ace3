-- What one step of a decoder adds to the text, and to the length of the lossy reading.
use Rattle.std.proofs.Common.{◌≡◌, ℕ, ◌+◌, ◌<◌, List, [], ◌∷◌, ◌++◌, arith, length, length-append}
use Rattle.std.proofs.lemmas.List.Concat.{flat_map-append}
use Rattle.cesu8_text.specs.Text.{IsText, utf8_of, utf8}
use Rattle.cesu8_text.specs.Encoding.{Flavor}
use Rattle.cesu8_text.specs.Reading.{BeginsWith, NoneBegins, reading, lossy_length}
use Rattle.cesu8_text.proofs.encoding.Lengths.{length_of_character}
use Rattle.cesu8_text.proofs.reading.Steps.{reading_character, reading_replaced}

-- The concatenation of two texts is a text.
pub IsText_append : (s t : List ℕ) → IsText s → IsText t → IsText (s ++ t)
IsText_append [] t is_text other_is_text = other_is_text
IsText_append (c ∷ s) t is_text other_is_text = (is_text.0, IsText_append s t is_text.1 other_is_text)

-- The UTF-8 of a concatenation is the concatenation of the UTF-8.
pub utf8_append : (s t : List ℕ) → utf8 (s ++ t) ≡ utf8 s ++ utf8 t
utf8_append s t = flat_map-append utf8_of s t

-- What follows a character is shorter than the bytes.
pub shorter : (f : Flavor) (bytes rest : List ℕ) (c : ℕ) → BeginsWith f bytes c rest → length rest < length bytes
shorter f bytes rest c begins = grind (arith, length_of_character, length-append)

-- In UTF-8, the replacement character takes three bytes.
pub length_utf8_replaced : (text : List ℕ) → length (utf8 (0xFFFD ∷ text)) ≡ 3 + length (utf8 text)
unfolding utf8_of
length_utf8_replaced text = omega arith

-- A character that begins the bytes adds the length of its UTF-8 to the lossy length.
pub lossy_length_character : (f : Flavor) (bytes rest : List ℕ) (c : ℕ) → BeginsWith f bytes c rest →
    lossy_length f bytes ≡ length (utf8_of c) + lossy_length f rest
unfolding lossy_length
lossy_length_character f bytes rest c begins =
    rw (reading_character f bytes c rest begins) (length-append (utf8_of c) (utf8 (reading f rest)))

-- A byte that begins no character adds three to the lossy length.
pub lossy_length_replaced : (f : Flavor) (b : ℕ) (bytes : List ℕ) → NoneBegins f (b ∷ bytes) →
    lossy_length f (b ∷ bytes) ≡ 3 + lossy_length f bytes
unfolding lossy_length
lossy_length_replaced f b bytes none_begins =
    rw (reading_replaced f b bytes none_begins) (length_utf8_replaced (reading f bytes))
