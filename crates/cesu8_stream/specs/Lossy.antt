-- What the calls of this crate promise of bytes that may be damaged.
use Rattle.std.specs.Prelude.{◌≡◌, ℕ, ◌+◌, ◌-◌, ◌<◌, ◌≤◌, ◌≢◌, ◌↔◌, ◌⊎◌, List, [], ◌++◌, Bool, true, false, length, drop}
use Rattle.simd_cesu8.specs.Text.{IsText, utf8}
use Rattle.simd_cesu8.specs.Slices.{StandsAtFront}
use Rattle.cesu8_stream.specs.Written.{BeginsNone, IsPartial, BeginsLonger}
use Rattle.cesu8_stream.specs.declared.progress.Progress.{Progress}
use Rattle.cesu8_stream.specs.declared.progress.State.{State}
use Rattle.cesu8_stream.specs.declared.progress.State.TheVariants.{InputEmpty, Incomplete, OutputFull, Malformed}

-- The bytes that may follow these: any, but none after the last piece.
abbrev pub MayFollow : Bool → List ℕ → Type 0
MayFollow is_last more = is_last ≡ true → more ≡ []

-- The UTF-8 of some text is at the front of the buffer, whose rest is unchanged. Whatever follows
-- the bytes, the reading of all is that text, followed by the reading of what is left.
abbrev pub ReadsOn : (List ℕ → List ℕ) → Bool → List ℕ → ℕ → ℕ → List ℕ → List ℕ → Type 0
ReadsOn reading is_last bytes read written old new =
    (text : List ℕ) × IsText text × StandsAtFront (utf8 text) written old new
    × ((more : List ℕ) → MayFollow is_last more →
    reading (bytes ++ more) ≡ text ++ reading (drop read bytes ++ more))

-- Bytes that are a part of a character stay for the next piece, if there is one.
abbrev pub StaysForNext : (List ℕ → List ℕ) → Bool → List ℕ → Type 0
StaysForNext from is_last bytes = (is_last ≡ false) × IsPartial from bytes

-- The first byte is replaced by U+FFFD: no character begins the bytes, and they are no part of one
-- that the next piece may complete.
pub record IsReplaced (from : List ℕ → List ℕ) (is_last : Bool) (bytes : List ℕ) : Type 0 where
  pub nonempty : bytes ≢ []
  pub none_begins : BeginsNone from bytes
  pub none_stays : ¬ (StaysForNext from is_last bytes)

-- What comes next takes more than `len` bytes: a character, or the three bytes of U+FFFD.
abbrev pub NextIsLonger : (List ℕ → List ℕ) → Bool → List ℕ → ℕ → Type 0
NextIsLonger from is_last bytes len = BeginsLonger from utf8 bytes len ⊎ (IsReplaced from is_last bytes × (len < 3))

-- Whether the byte at which strict decoding stopped is replaced.
abbrev pub is_damage : State → Bool → Bool
is_damage InputEmpty is_last = false
is_damage Incomplete is_last = is_last
is_damage OutputFull is_last = false
is_damage Malformed is_last = true

-- How far a call that replaces ill-formed bytes came, and why it stopped. `from` writes the
-- encoding, and `reading` is its lossy reading. `old` and `new` are the buffer before and after.
pub record DecodesPiece (from reading : List ℕ → List ℕ) (is_last : Bool) (bytes : List ℕ) (result : Progress) (old new : List ℕ) : Type 0 where
  pub text : ReadsOn reading is_last bytes result.read result.written old new
  pub within : result.read ≤ length bytes
  -- The states: each one is returned if and only if it is true of the bytes that are left.
  pub input_empty : (result.state ≡ InputEmpty) ↔ (result.read ≡ length bytes)
  pub incomplete : (result.state ≡ Incomplete) ↔ StaysForNext from is_last (drop result.read bytes)
  pub output_full : (result.state ≡ OutputFull) ↔ NextIsLonger from is_last (drop result.read bytes) (length old - result.written)
  -- Damage is replaced.
  pub malformed : result.state ≢ Malformed
  -- A part of a character has at most five bytes.
  pub few_left : result.state ≡ Incomplete → length bytes ≤ result.read + 5
  -- With space for four bytes, a full buffer means that something was read.
  pub progress : 4 ≤ length old → result.state ≡ OutputFull → 0 < result.read
