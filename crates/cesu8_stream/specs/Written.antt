-- Bytes that are a text, or that begin with a character, in some way of writing: CESU-8, MUTF-8 or
-- UTF-8. A way of writing is a function from texts to bytes: `encoding Cesu8`, `encoding Mutf8` or
-- `utf8`.
use Rattle.std.specs.Prelude.{◌≡◌, ℕ, ◌+◌, ◌<◌, ◌≤◌, ◌≢◌, List, [], ◌∷◌, ◌++◌, length, take, drop}
use Rattle.simd_cesu8.specs.Text.{IsScalarValue, IsText}
use Rattle.simd_cesu8.specs.Slices.{StandsAtFront}

-- The bytes are this text in this way of writing.
abbrev pub IsWritten : (List ℕ → List ℕ) → List ℕ → List ℕ → Type 0
IsWritten write bytes text = IsText text × (write text ≡ bytes)

-- The bytes begin with this character in this way of writing.
pub record Begins (write : List ℕ → List ℕ) (bytes : List ℕ) (c : ℕ) : Type 0 where
  pub scalar : IsScalarValue c
  pub rest : List ℕ
  pub bytes_are : bytes ≡ write (c ∷ []) ++ rest

-- They begin with no character.
abbrev pub BeginsNone : (List ℕ → List ℕ) → List ℕ → Type 0
BeginsNone write bytes = (c : ℕ) → ¬ (Begins write bytes c)

-- They begin with no character, whatever follows them.
abbrev pub NeverBegins : (List ℕ → List ℕ) → List ℕ → Type 0
NeverBegins write bytes = (more : List ℕ) → BeginsNone write (bytes ++ more)

-- They begin with a character if some bytes follow them.
abbrev pub MayBegin : (List ℕ → List ℕ) → List ℕ → Type 0
MayBegin write bytes = (more : List ℕ) × (c : ℕ) × Begins write (bytes ++ more) c

-- They are a part of a character, from its first byte on, and its other bytes are missing.
pub record IsPartial (write : List ℕ → List ℕ) (bytes : List ℕ) : Type 0 where
  pub nonempty : bytes ≢ []
  pub none_begins : BeginsNone write bytes
  pub may_begin : MayBegin write bytes

-- They begin with a character that takes more bytes than this in another way of writing.
abbrev pub BeginsLonger : (List ℕ → List ℕ) → (List ℕ → List ℕ) → List ℕ → ℕ → Type 0
BeginsLonger from to bytes len = (c : ℕ) × Begins from bytes c × (len < length (to (c ∷ [])))

-- The first bytes are a text, and its bytes in another way of writing are at the front of the
-- buffer, whose rest is unchanged.
abbrev pub Converts : (List ℕ → List ℕ) → (List ℕ → List ℕ) → List ℕ → ℕ → ℕ → List ℕ → List ℕ → Type 0
Converts from to bytes read written old new =
    (text : List ℕ) × IsWritten from (take read bytes) text × StandsAtFront (to text) written old new

-- No character begins in the first bytes and ends in the others.
abbrev pub NoneCrosses : (List ℕ → List ℕ) → List ℕ → List ℕ → Type 0
NoneCrosses write first others =
    (i c : ℕ) → i < length first → Begins write (drop i (first ++ others)) c → i + length (write (c ∷ [])) ≤ length first
