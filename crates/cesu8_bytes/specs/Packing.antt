-- Packing: which lanes of a vector are dropped, and the shuffles that drop them.
use Rattle.std.specs.Prelude.{◌≡◌, ℕ, zero, suc, ◌+◌, ◌/◌, ◌%◌, ◌-◌, ◌<◌, ◌==◌, if◌then◌else◌, Bool, List, [], ◌∷◌, ◌++◌, length, map, slice_index, slice_index_or, replicate}

-- What is written for a byte: U+FFFD if it is ill-formed, nothing if it is dropped, and otherwise
-- the byte.
abbrev pub written_for : Bool → Bool → ℕ → List ℕ
written_for dropped ill_formed b = if ill_formed then 0xEF ∷ 0xBF ∷ 0xBD ∷ [] else if dropped then [] else b ∷ []

-- What is written for a list of bytes. The first list says which bytes are dropped, and the second
-- which are ill-formed.
abbrev pub written : List Bool → List Bool → List ℕ → List ℕ
written [] ill_formed bytes = []
written (g ∷ dropped) [] bytes = []
written (g ∷ dropped) (d ∷ ill_formed) [] = []
written (g ∷ dropped) (d ∷ ill_formed) (b ∷ bytes) = written_for g d b ++ written dropped ill_formed bytes

-- The lanes that packing keeps, for n bytes from lane i on. Bit 0 of the first number says whether
-- the first of them is dropped, and bit 0 of the second whether it is ill-formed. If bytes may be
-- ill-formed, `cesu8_decode` packs only four at once, and lanes 4 to 6 have U+FFFD.
abbrev pub kept_of : ℕ → ℕ → ℕ → ℕ → List ℕ
kept_of dropped ill_formed i zero = []
kept_of dropped ill_formed i (suc n) =
    (if ill_formed % 2 == 1 then 4 ∷ 5 ∷ 6 ∷ [] else if dropped % 2 == 1 then [] else i ∷ [])
    ++ kept_of (dropped / 2) (ill_formed / 2) (i + 1) n

-- The lanes that the lower halves of the numbers select.
abbrev pub lanes_at : List ℕ → List ℕ → List ℕ
lanes_at lanes numbers = map (λ j. slice_index lanes (j % 0x10)) numbers

-- A shuffle of sixteen lanes that keeps the given lanes. Its last number is how many they are, and
-- the numbers between are unused.
abbrev pub shuffle_keeping : List ℕ → List ℕ
shuffle_keeping kept = kept ++ replicate (15 - length kept) 0 ++ length kept ∷ []

-- A shuffle for eight bytes, none of them ill-formed. Bit i of the number is set if byte i is
-- dropped.
abbrev pub shuffle_of_eight : ℕ → List ℕ
shuffle_of_eight dropped = shuffle_keeping (kept_of dropped 0 0 8)

-- The table of these shuffles, one for each number below 100 (hexadecimal).
abbrev pub AreShufflesOfEight : List (List ℕ) → Type 0
AreShufflesOfEight rows = (dropped : ℕ) → dropped < 0x100 → slice_index_or rows dropped [] ≡ shuffle_of_eight dropped
