-- Fields that hold a name, of which only the first `len` bytes are used.
use Rattle.std.specs.Prelude.{◌≡◌, ℕ, List, take}
use Rattle.std.specs.Str.{chars, IsUtf8}
use Rattle.simd_cesu8.specs.Encoding.{Mutf8, encoding}
use Rattle.simd_cesu8.specs.Reading.{HasNoStrictReading}

-- The used bytes of the field are the MUTF-8 of some text.
abbrev pub HoldsText : ℕ → List ℕ → Type 0
HoldsText len field = ¬ (HasNoStrictReading Mutf8 (take len field))

-- The used bytes of the field are the MUTF-8 of this string.
abbrev pub HoldsName : ℕ → List ℕ → List ℕ → Type 0
HoldsName len field name = IsUtf8 name × (take len field ≡ encoding Mutf8 (chars name))
