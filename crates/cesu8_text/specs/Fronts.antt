-- The longest prefix of bytes that is a sequence of whole encoded characters.
use Rattle.std.specs.Prelude.{◌≡◌, ℕ, ◌<◌, ◌≤◌, List, [], ◌∷◌, length, take, drop}
use Rattle.cesu8_text.specs.Encoding.{Flavor}
use Rattle.cesu8_text.specs.Reading.{NoneBegins, IsStrictReading, HasNoStrictReading, mark}

-- The bytes are the encoding of some text.
abbrev pub HasStrictReading : Flavor → List ℕ → Type 0
HasStrictReading f bytes = (text : List ℕ) × IsStrictReading f bytes text

-- The length that `valid_up_to` returns: the longest prefix that is an encoding has n bytes.
pub record IsValidUpTo (f : Flavor) (bytes : List ℕ) (n : ℕ) : Type 0 where
  pub within : n ≤ length bytes
  pub valid : HasStrictReading f (take n bytes)
  -- If there are more bytes, no encoded character begins at offset n.
  pub stops : n < length bytes → NoneBegins f (drop n bytes)
  -- No longer prefix is an encoding.
  pub greatest : (m : ℕ) → n < m → m ≤ length bytes → HasNoStrictReading f (take m bytes)
  -- If there are more bytes, lossy decoding replaces the byte at offset n.
  pub replaced : n < length bytes → mark f bytes n ≡ 0xFFFD ∷ []
