-- Dictionary order of lists of numbers, and the order of UTF-16 as an order of UTF-8 bytes.
use Rattle.std.specs.Prelude.{◌≡◌, ℕ, ◌+◌, ◌<◌, ◌⊎◌, ◌↔◌, ◌==◌, ◌||◌, if◌then◌else◌, List, [], ◌∷◌, ⊤}

-- A list is below another if it is a proper prefix of it, or if it has the smaller number at the
-- first index at which they differ. (UTR 26, "binary collation")
abbrev pub IsBelow : List ℕ → List ℕ → Type 0
IsBelow [] [] = ⊥
IsBelow [] (y ∷ ys) = ⊤
IsBelow (x ∷ xs) [] = ⊥
IsBelow (x ∷ xs) (y ∷ ys) = (x < y) ⊎ ((x ≡ y) × IsBelow xs ys)

-- Exactly one of the three holds.
abbrev pub ExactlyOne : Type 0 → Type 0 → Type 0 → Type 0
ExactlyOne P Q R = (P × ¬ Q × ¬ R) ⊎ ((¬ P × Q × ¬ R) ⊎ (¬ P × ¬ Q × R))

-- The first two lists compare as the last two do.
abbrev pub ComparesAs : List ℕ → List ℕ → List ℕ → List ℕ → Type 0
ComparesAs xs ys us vs =
    (IsBelow xs ys ↔ IsBelow us vs) × ((xs ≡ ys) ↔ (us ≡ vs)) × (IsBelow ys xs ↔ IsBelow vs us)

-- The rank of a byte of UTF-8. Ranks compare as UTF-16 code units do: EE and EF (hexadecimal),
-- which lead E000 to FFFF, rank above F0 to F4, which lead what UTF-16 writes as surrogate pairs.
abbrev pub utf16_rank : ℕ → ℕ
utf16_rank b = if b == 0xEE || b == 0xEF then b + 0x10 else b
