-- Text as a list of Unicode scalar values, and its UTF-8.
use Rattle.std.specs.Prelude.{◌≡◌, ℕ, ◌+◌, ◌/◌, ◌%◌, ◌<◌, ◌≤◌, ◌⊎◌, nat_lt, if◌then◌else◌, List, [], ◌∷◌}
use Rattle.std.specs.List.{flat_map}

-- A Unicode scalar value: 0 to 10FFFF without the surrogates D800 to DFFF. These and all numbers
-- below are hexadecimal. (Unicode, "Unicode scalar value")
abbrev pub IsScalarValue : ℕ → Type 0
IsScalarValue c = (c < 0xD800) ⊎ ((0xE000 ≤ c) × (c < 0x110000))

-- A text is a list of scalar values.
abbrev pub IsText : List ℕ → Type 0
IsText [] = Unit {0}
IsText (c ∷ text) = IsScalarValue c × IsText text

-- The UTF-8 of a scalar value: one to four bytes, with six bits in each continuation byte.
-- (Unicode, table "UTF-8 Bit Distribution"; RFC 3629)
unfoldable pub utf8_of : ℕ → List ℕ
utf8_of c =
    if nat_lt c 0x80 then c ∷ []
    else if nat_lt c 0x800 then (0xC0 + c / 0x40) ∷ (0x80 + c % 0x40) ∷ []
    else if nat_lt c 0x10000 then
    (0xE0 + c / 0x1000) ∷ (0x80 + c / 0x40 % 0x40) ∷ (0x80 + c % 0x40) ∷ []
    else
    (0xF0 + c / 0x40000) ∷ (0x80 + c / 0x1000 % 0x40) ∷ (0x80 + c / 0x40 % 0x40) ∷ (0x80 + c % 0x40) ∷ []

-- The UTF-8 of a text.
abbrev pub utf8 : List ℕ → List ℕ
utf8 text = flat_map utf8_of text

-- The bytes are the UTF-8 of the text. Bytes are UTF-8 if they are the UTF-8 of some text.
abbrev pub IsUtf8Of : List ℕ → List ℕ → Type 0
IsUtf8Of text bytes = IsText text × (utf8 text ≡ bytes)
