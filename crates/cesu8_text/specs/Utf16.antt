-- UTF-16 code units.
use Rattle.std.specs.Prelude.{ℕ, ◌+◌, ◌-◌, ◌/◌, ◌%◌, nat_lt, if◌then◌else◌, List, [], ◌∷◌}
use Rattle.std.specs.List.{flat_map}

-- The UTF-16 code units of a scalar value: the value itself below 10000 (hexadecimal), and
-- otherwise a surrogate pair, the high surrogate first. (Unicode, table "UTF-16 Bit Distribution")
unfoldable pub units_of : ℕ → List ℕ
units_of c =
    if nat_lt c 0x10000 then c ∷ []
    else (0xD800 + (c - 0x10000) / 0x400) ∷ (0xDC00 + (c - 0x10000) % 0x400) ∷ []

-- The UTF-16 code units of a text.
abbrev pub units : List ℕ → List ℕ
units text = flat_map units_of text
