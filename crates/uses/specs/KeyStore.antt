-- A store whose keys are the CESU-8 of texts.
use Rattle.std.specs.Prelude.{◌≡◌, ℕ, List, Option, AllPairs}
use Rattle.std.specs.Global.{Vec}
use Rattle.std.specs.BTreeMap.{BTreeMap, get_by, keys}
use Rattle.std.specs.Ordering.{nat_cmp}
use Rattle.std.specs.declared.cmp.Ordering.TheVariants.{Less}
use Rattle.std.specs.Cmp.Lexicographic.{slice_cmp}
use Rattle.simd_cesu8.specs.Encoding.{Cesu8, encoding}
use Rattle.simd_cesu8.specs.Reading.{IsStrictReading}
use Rattle.simd_cesu8.specs.Utf16.{units}

-- The value of the key of a text.
abbrev pub value_at : BTreeMap (Vec ℕ) ℕ → List ℕ → Option ℕ
value_at store text = get_by (λ key. slice_cmp nat_cmp (encoding Cesu8 text) key.items) store

-- If two keys are those of texts, the first text's code units are below the other's.
abbrev pub IsBelowInUtf16 : Vec ℕ → Vec ℕ → Type 0
IsBelowInUtf16 key other = (s t : List ℕ) →
    IsStrictReading Cesu8 key.items s → IsStrictReading Cesu8 other.items t →
    slice_cmp nat_cmp (units s) (units t) ≡ Less

-- The store has its keys in the order of UTF-16: each is below those after it.
abbrev pub IsInUtf16Order : BTreeMap (Vec ℕ) ℕ → Type 0
IsInUtf16Order store = AllPairs IsBelowInUtf16 (keys store)
