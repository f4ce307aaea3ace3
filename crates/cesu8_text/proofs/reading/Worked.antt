-- Ill-formed inputs and their lossy readings, computed by the definitions. `worked` is a test of
-- the definitions, which no other proof cites.
use Rattle.std.proofs.Common.{◌≡◌, [], ◌∷◌, rules}
use Rattle.cesu8_text.specs.Utf16.{units_of}
use Rattle.cesu8_text.specs.Encoding.{Cesu8, Mutf8, form, encoding}
use Rattle.cesu8_text.specs.Reading.{standing, lies_within, mark, reading}
use Rattle.cesu8_text.specs.Laws.{HalvesJoin}

worked :
    -- Two high surrogates and a low one: the first is ill-formed, and the other two are U+1F496.
    (reading Cesu8 (0xED ∷ 0xA0 ∷ 0xBD ∷ 0xED ∷ 0xA0 ∷ 0xBD ∷ 0xED ∷ 0xB2 ∷ 0x96 ∷ []) ≡ 0xFFFD ∷ 0xFFFD ∷ 0xFFFD ∷ 0x1F496 ∷ [])
    -- The first two bytes of a three-byte character, and then "A".
    × (reading Cesu8 (0xE2 ∷ 0x82 ∷ 0x41 ∷ []) ≡ 0xFFFD ∷ 0xFFFD ∷ 0x41 ∷ [])
    -- A surrogate pair without its last byte.
    × (reading Cesu8 (0xED ∷ 0xA0 ∷ 0xBD ∷ 0xED ∷ 0xB2 ∷ []) ≡ 0xFFFD ∷ 0xFFFD ∷ 0xFFFD ∷ 0xFFFD ∷ 0xFFFD ∷ [])
    -- C0, and then the null character of MUTF-8.
    × (reading Mutf8 (0xC0 ∷ 0xC0 ∷ 0x80 ∷ []) ≡ 0xFFFD ∷ 0x0 ∷ [])
    × (reading Cesu8 (0xC0 ∷ 0xC0 ∷ 0x80 ∷ []) ≡ 0xFFFD ∷ 0xFFFD ∷ 0xFFFD ∷ [])
unfolding units_of form encoding standing lies_within mark reading
worked = search rules

-- The halves of a surrogate pair are ill-formed apart, and one character when joined.
pub halves_join : HalvesJoin
unfolding units_of form encoding standing lies_within mark reading
halves_join f = search rules
