-- What bytes decode to. A "reading" is the decoded text: strict, lenient, or lossy with U+FFFD for
-- each ill-formed byte.
use Rattle.std.specs.Prelude.{◌≡◌, ◌⊎◌, ℕ, ◌+◌, ◌-◌, ◌*◌, ◌<◌, Bool, ◌&&◌, ◌||◌, nat_eq, nat_lt, nat_le, if◌then◌else◌, List, [], ◌∷◌, ◌++◌, length, drop, slice_index, Option, Some, None}
use Rattle.std.specs.List.{flat_map, find, list_any, range_with_len, starts_with}
use Rattle.cesu8_text.specs.Text.{IsScalarValue, IsText, utf8, IsUtf8Of}
use Rattle.cesu8_text.specs.Encoding.{Flavor, encoding}

-- The bytes are the encoding of the scalar value c, followed by rest.
pub record BeginsWith (f : Flavor) (bytes : List ℕ) (c : ℕ) (rest : List ℕ) : Type 0 where
  pub scalar : IsScalarValue c
  pub bytes_are : bytes ≡ encoding f (c ∷ []) ++ rest

-- The bytes begin with no encoded character.
abbrev pub NoneBegins : Flavor → List ℕ → Type 0
NoneBegins f bytes = (c : ℕ) (rest : List ℕ) → ¬ (BeginsWith f bytes c rest)

-- The strict reading of bytes is the text whose encoding they are, if there is one.
abbrev pub IsStrictReading : Flavor → List ℕ → List ℕ → Type 0
IsStrictReading f bytes text = IsText text × (encoding f text ≡ bytes)

abbrev pub HasNoStrictReading : Flavor → List ℕ → Type 0
HasNoStrictReading f bytes = (text : List ℕ) → ¬ (IsStrictReading f bytes text)

-- The lenient reading: if the bytes as a whole are UTF-8, their text, and otherwise the strict
-- reading. The two are never mixed.
abbrev pub IsLenientReading : Flavor → List ℕ → List ℕ → Type 0
IsLenientReading f bytes text =
    IsUtf8Of text bytes ⊎ (((other : List ℕ) → ¬ (IsUtf8Of other bytes)) × IsStrictReading f bytes text)

abbrev pub HasNoLenientReading : Flavor → List ℕ → Type 0
HasNoLenientReading f bytes = (text : List ℕ) → ¬ (IsLenientReading f bytes text)

-- The character c stands at offset i: the bytes from there on begin with its encoding. The offsets
-- of that encoding are its stretch.
abbrev pub StandsAt : Flavor → List ℕ → ℕ → ℕ → Type 0
StandsAt f bytes i c = (rest : List ℕ) × BeginsWith f (drop i bytes) c rest

abbrev pub width : Flavor → ℕ → ℕ
width f c = length (encoding f (c ∷ []))

-- Offset i is in the stretch of a character that begins earlier.
abbrev pub LiesWithin : Flavor → List ℕ → ℕ → Type 0
LiesWithin f bytes i = (j : ℕ) × (c : ℕ) × StandsAt f bytes j c × (j < i) × (i < j + width f c)

-- The mark of an offset is what lossy decoding writes for it: the character that stands there, if
-- any; otherwise nothing if the offset is in a stretch that begins earlier, and U+FFFD if not.
pub data IsMark (f : Flavor) (bytes : List ℕ) (i : ℕ) : List ℕ → Type 0 where
  Stands : (c : ℕ) → StandsAt f bytes i c → IsMark f bytes i (c ∷ [])
  Within : NoneBegins f (drop i bytes) → LiesWithin f bytes i → IsMark f bytes i []
  Damaged : NoneBegins f (drop i bytes) → ¬ (LiesWithin f bytes i) → IsMark f bytes i (0xFFFD ∷ [])

-- The rest of the file defines the lossy reading as a function. By the law `OneMark` (Laws.antt),
-- `mark` computes the mark that `IsMark` describes.

-- The code point that two or three bytes would encode, or a surrogate pair with these second,
-- third, fifth and sixth bytes.
abbrev pub two_byte_value : ℕ → ℕ → ℕ
two_byte_value a b = (a - 0xC0) * 0x40 + (b - 0x80)

abbrev pub three_byte_value : ℕ → ℕ → ℕ → ℕ
three_byte_value a b d = (a - 0xE0) * 0x1000 + (b - 0x80) * 0x40 + (d - 0x80)

abbrev pub pair_value : ℕ → ℕ → ℕ → ℕ → ℕ
pair_value b d g h = 0x10000 + (b - 0xA0) * 0x10000 + (d - 0x80) * 0x400 + (g - 0xB0) * 0x40 + (h - 0x80)

-- The code points whose encoding could begin the bytes: one for each length.
abbrev pub candidates : List ℕ → List ℕ
candidates bytes =
    let b = slice_index bytes in
    b 0 ∷ two_byte_value (b 0) (b 1) ∷ three_byte_value (b 0) (b 1) (b 2) ∷ pair_value (b 1) (b 2) (b 4) (b 5) ∷ []

abbrev pub is_scalar_value : ℕ → Bool
is_scalar_value c = nat_lt c 0xD800 || (nat_le 0xE000 c && nat_lt c 0x110000)

-- The character that begins the bytes, if any: the first candidate whose encoding is a prefix of
-- them.
unfoldable pub standing : Flavor → List ℕ → Option ℕ
standing f bytes =
    find (λ c. is_scalar_value c && starts_with nat_eq bytes (encoding f (c ∷ []))) (candidates bytes)

-- The length of the character's encoding, or 0 if there is no character.
abbrev pub width_of : Flavor → Option ℕ → ℕ
width_of f (Some c) = width f c
width_of f None = 0

-- Whether offset i is in a stretch that begins earlier.
unfoldable pub lies_within : Flavor → List ℕ → ℕ → Bool
lies_within f bytes i =
    list_any (λ j. nat_lt i (j + width_of f (standing f (drop j bytes)))) (range_with_len 0 i)

-- The mark of an offset, from the character there and whether the offset is in an earlier stretch.
abbrev pub mark_by : Option ℕ → Bool → List ℕ
mark_by (Some c) within = c ∷ []
mark_by None within = if within then [] else 0xFFFD ∷ []

unfoldable pub mark : Flavor → List ℕ → ℕ → List ℕ
mark f bytes i = mark_by (standing f (drop i bytes)) (lies_within f bytes i)

-- The lossy reading: the marks of all offsets, in order.
unfoldable pub reading : Flavor → List ℕ → List ℕ
reading f bytes = flat_map (mark f bytes) (range_with_len 0 (length bytes))

-- The length of the lossy reading's UTF-8, in bytes.
unfoldable pub lossy_length : Flavor → List ℕ → ℕ
lossy_length f bytes = length (utf8 (reading f bytes))

-- The lenient lossy reading: if the bytes as a whole are UTF-8, their text, and otherwise the lossy
-- reading.
abbrev pub IsLenientLossyReading : Flavor → List ℕ → List ℕ → Type 0
IsLenientLossyReading f bytes text =
    IsUtf8Of text bytes ⊎ (((other : List ℕ) → ¬ (IsUtf8Of other bytes)) × (text ≡ reading f bytes))
