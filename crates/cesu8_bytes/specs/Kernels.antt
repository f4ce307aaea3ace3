-- A kernel finds whether some byte of a slice is in a class. It is built from tests of words or of
-- slices of certain lengths. These definitions say what such a test promises.
use Rattle.std.specs.Prelude.{ℕ, Bool, if◌then◌else◌, ◌<◌, List, length, ℤ, pos, negsuc, IsTrue, ◌^◌, ◌↔◌, Any}
use Rattle.std.specs.Int.{to_le_bytes, w64}
use Rattle.std.specs.Borrow.{Bor}
use Rattle.std.specs.Fn.{Shared}

-- Some byte is in the class.
abbrev pub AnyIn : (ℕ → Bool) → List ℕ → Type 0
AnyIn class bytes = Any (λ b. IsTrue (class b)) bytes

-- A lane of a mask, as a signed number: -1, whose bits are all ones, if a test holds, and otherwise
-- 0.
abbrev pub lane : Bool → ℤ
lane t = if t then negsuc 0 else pos 0

-- A mask byte: FF (hexadecimal) if a test holds, and otherwise 00.
abbrev pub mask : Bool → ℕ
mask t = if t then 0xFF else 0

-- The function may be called on every slice of these lengths.
abbrev pub MayTest : (ℕ → Type 0) → {F : Type 0} → Shared F (Bor (List ℕ) × Unit {0}) Bool → F → Type 0
MayTest lengths g test = (bytes : Bor (List ℕ)) → lengths (length bytes.now) → g.pre test (bytes, tt)

-- For every slice of these lengths, the function returns whether some byte is in the class.
abbrev pub Finds : (ℕ → Type 0) → {F : Type 0} → Shared F (Bor (List ℕ) × Unit {0}) Bool → F → (ℕ → Bool) → Type 0
Finds lengths g test class = (bytes : Bor (List ℕ)) (result : Bool) → lengths (length bytes.now)
    → g.post test (bytes, tt) result → IsTrue result ↔ AnyIn class bytes.now

-- The function may be called on every word: 0 to FFFFFFFFFFFFFFFF (hexadecimal).
abbrev pub MayTestWords : {T : Type 0} → Shared T (ℕ × Unit {0}) Bool → T → Type 0
MayTestWords g test = (word : ℕ) → word < 2 ^ 64 → g.pre test (word, tt)

-- For every word, the function returns whether some byte of it is in the class.
abbrev pub FindsInWords : {T : Type 0} → Shared T (ℕ × Unit {0}) Bool → T → (ℕ → Bool) → Type 0
FindsInWords g test class = (word : ℕ) (result : Bool) → word < 2 ^ 64
    → g.post test (word, tt) result → IsTrue result ↔ AnyIn class (to_le_bytes w64 word)
