-- Byte patterns of encoded characters. No public contract uses them.
use Rattle.std.specs.Prelude.{◌≡◌, ℕ, ◌+◌, ◌*◌, ◌<◌, ◌≤◌}

-- A continuation byte: 80 to BF (hexadecimal).
abbrev pub IsContinuation : ℕ → Type 0
IsContinuation b = (0x80 ≤ b) × (b < 0xC0)

-- The last four bytes of an encoded surrogate pair, after ED and A0 to AF (hexadecimal): the last
-- byte of the high surrogate, and the three of the low surrogate.
abbrev pub EndsPair : ℕ → ℕ → ℕ → ℕ → Type 0
EndsPair a b c d = IsContinuation a × (b ≡ 0xED) × ((0xB0 ≤ c) × (c < 0xC0)) × IsContinuation d

-- The bits of a scalar value c above FFFF, less 10000, as its surrogate pair has them. The pair is
-- ED, A0 + w, 80 + x, ED, B0 + y, 80 + z (numbers are hexadecimal).
pub record IsPair (c w x y z : ℕ) : Type 0 where
  pub value : c ≡ 0x10000 + w * 0x10000 + x * 0x400 + y * 0x40 + z
  pub first : w < 0x10
  pub second : x < 0x40
  pub third : y < 0x10
  pub last : z < 0x40
