-- CESU-8 and Modified UTF-8 (MUTF-8). Both encode each UTF-16 code unit by itself, with UTF-8's bit
-- patterns.
use Rattle.std.specs.Prelude.{◌≡◌, ℕ, ◌+◌, ◌/◌, ◌%◌, ◌≤◌, ◌⊎◌, nat_lt, ◌==◌, if◌then◌else◌, List, [], ◌∷◌, Any}
use Rattle.std.specs.List.{flat_map}
use Rattle.cesu8_text.specs.Utf16.{units}

-- The two encodings: CESU-8 of Unicode Technical Report 26, and MUTF-8 of Java's DataInput.
pub data Flavor : Type 0 where
  Cesu8 : Flavor
  Mutf8 : Flavor

-- The bytes of a code unit below 80 (hexadecimal): one byte, except that MUTF-8 encodes 0 as two,
-- so that no byte is 0. (Java, DataInput: "The null byte '\u0000' is encoded in 2-byte format
-- rather than 1-byte")
abbrev pub short_form : Flavor → ℕ → List ℕ
short_form Cesu8 u = u ∷ []
short_form Mutf8 u = if u == 0 then 0xC0 ∷ 0x80 ∷ [] else u ∷ []

-- The bytes of a code unit. (UTR 26, section 2; Java, DataInput, "Modified UTF-8")
unfoldable pub form : Flavor → ℕ → List ℕ
form f u =
    if nat_lt u 0x80 then short_form f u
    else if nat_lt u 0x800 then (0xC0 + u / 0x40) ∷ (0x80 + u % 0x40) ∷ []
    else (0xE0 + u / 0x1000) ∷ (0x80 + u / 0x40 % 0x40) ∷ (0x80 + u % 0x40) ∷ []

-- The encoding of a text: the bytes of its code units, in order.
unfoldable pub encoding : Flavor → List ℕ → List ℕ
encoding f text = flat_map (form f) (units text)

-- A scalar value that is encoded otherwise than in UTF-8: 10000 (hexadecimal) or more, and in
-- MUTF-8 also 0.
abbrev pub IsEncodedOtherwise : Flavor → ℕ → Type 0
IsEncodedOtherwise Cesu8 c = 0x10000 ≤ c
IsEncodedOtherwise Mutf8 c = (c ≡ 0) ⊎ (0x10000 ≤ c)

-- The text has a scalar value that is encoded otherwise than in UTF-8.
abbrev pub NeedsEncoding : Flavor → List ℕ → Type 0
NeedsEncoding f text = Any (IsEncodedOtherwise f) text
