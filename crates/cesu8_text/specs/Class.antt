-- Classes of bytes: which bytes of UTF-8 an encoding has to change, and what a lead byte says.
use Rattle.std.specs.Prelude.{ℕ, ◌+◌, Bool, IsTrue, nat_le, nat_lt, ◌&&◌, ◌||◌, ◌==◌, if◌then◌else◌, List, Any, IsUtf8, false}
use Rattle.cesu8_text.specs.Encoding.{Flavor, Cesu8, Mutf8}

-- F0 (hexadecimal) or more. In UTF-8, these are the lead bytes of four-byte characters.
abbrev pub is_at_least_f0 : ℕ → Bool
is_at_least_f0 b = nat_le 0xF0 b

-- Whether a byte is a 00 that is encoded as C0 80: never in CESU-8.
abbrev pub is_null : Flavor → ℕ → Bool
is_null Cesu8 b = false
is_null Mutf8 b = b == 0

-- F0 to F7 (hexadecimal), whose upper five bits are 11110. In UTF-8, F0 to F4 lead four bytes, and
-- F5 to F7 never occur.
abbrev pub is_four : ℕ → Bool
is_four b = nat_le 0xF0 b && nat_le b 0xF7

-- F0 to F7 (hexadecimal), or 00.
abbrev pub is_null_four : ℕ → Bool
is_null_four b = b == 0 || is_four b

abbrev pub IsFour : ℕ → Type 0
IsFour b = IsTrue (is_four b)

abbrev pub IsNullFour : ℕ → Type 0
IsNullFour b = IsTrue (is_null_four b)

-- In UTF-8, these begin the characters that the encoding writes otherwise: F0 to F7, and in MUTF-8
-- also 00.
abbrev pub IsChangedByte : Flavor → ℕ → Type 0
IsChangedByte Cesu8 = IsFour
IsChangedByte Mutf8 = IsNullFour

-- UTF-8 in which the encoding changes no byte.
abbrev pub IsUnchangedUtf8 : Flavor → List ℕ → Type 0
IsUnchangedUtf8 f bytes = IsUtf8 bytes × (¬ (Any (IsChangedByte f) bytes))

-- In UTF-8, whether a byte leads a character of one UTF-16 code unit: 00 to 7F, or C0 to EF
-- (hexadecimal).
abbrev pub is_one_unit : ℕ → Bool
is_one_unit b = nat_lt b 0x80 || (nat_le 0xC0 b && nat_lt b 0xF0)

-- The weight of a byte: one if it is in the class, plus two if it is F0 to F7. Added up over UTF-8,
-- the weights for `is_null f` are how many bytes longer the encoding is, and those for
-- `is_one_unit` are the number of code units.
abbrev pub weight_of : (ℕ → Bool) → ℕ → ℕ
weight_of class b = (if class b then 1 else 0) + (if is_four b then 2 else 0)
