-- The longest prefix of whole characters of a set: of all encoded characters, or of those that are
-- unchanged in UTF-8. Functions of src/prefix.rt return its length.
use Rattle.std.specs.Prelude.{◌≡◌, ◌↔◌, ℕ, ◌<◌, ◌≤◌, ◌||◌, Bool, false, List, length, take, Any}
use Rattle.cesu8_text.specs.Encoding.{Flavor, encoding, IsEncodedOtherwise}
use Rattle.cesu8_text.specs.Text.{IsText}
use Rattle.cesu8_text.specs.Reading.{HasNoStrictReading}
use Rattle.cesu8_decode.specs.DecodedOffsets.{is_ill_formed_at, window_of}
use Rattle.cesu8_decode.specs.Following.{CharacterSet, Encoded, Unchanged}
use Rattle.cesu8_decode.specs.Masks.{Marks, is_pair_at, is_null_at}
use Rattle.cesu8_decode.specs.declared.prefix.window.UnchangedPrefix.{UnchangedPrefix}
use Rattle.cesu8_bytes.specs.declared.lanes.class.TheConstants.{LANES}

-- The scalar values whose encoding is not in the set.
abbrev pub IsOutside : CharacterSet → Flavor → ℕ → Type 0
IsOutside Encoded f = λ c. ⊥
IsOutside Unchanged f = IsEncodedOtherwise f

-- The bytes are whole characters of the set: the encoding of a text in it.
pub record AreWhole (s : CharacterSet) (f : Flavor) (bytes : List ℕ) : Type 0 where
  pub text : List ℕ
  pub reads : IsText text × (encoding f text ≡ bytes)
  pub inside : ¬ (Any (IsOutside s f) text)

-- The first n bytes are whole characters of the set, and no longer prefix is.
pub record IsLongestPrefix (s : CharacterSet) (f : Flavor) (bytes : List ℕ) (n : ℕ) : Type 0 where
  pub within : n ≤ length bytes
  pub whole : AreWhole s f (take n bytes)
  pub greatest : (m : ℕ) → n < m → m ≤ length bytes → ¬ (AreWhole s f (take m bytes))

-- A character that needs conversion begins at the offset: a surrogate pair, or C0 80 in MUTF-8.
abbrev pub is_changed_at : Flavor → List ℕ → ℕ → Bool
is_changed_at f bytes i = is_pair_at f bytes i || is_null_at f bytes i

-- The mask marks the characters that need conversion, and no byte is ill-formed.
pub record AreChanges (f : Flavor) (bytes : List ℕ) (mask : ℕ) : Type 0 where
  pub marks : Marks mask (is_changed_at f bytes) 0 (length bytes)
  pub whole : (i : ℕ) → i < length bytes → is_ill_formed_at f (window_of bytes) i ≡ false

-- The length is that of the unchanged prefix. For at most 64 bytes `changed` is the mask of the
-- characters that need conversion, or it is 0 if there are none or a byte is ill-formed.
pub record IsUnchangedPrefix (f : Flavor) (bytes : List ℕ) (prefix : UnchangedPrefix) : Type 0 where
  pub len : IsLongestPrefix Unchanged f bytes prefix.len
  pub changes : length bytes ≤ LANES → ¬ (prefix.changed ≡ 0) → AreChanges f bytes prefix.changed
  pub none : length bytes ≤ LANES → prefix.changed ≡ 0 → prefix.len < length bytes → HasNoStrictReading f bytes

-- This is the unchanged prefix, and it is not all of the bytes.
pub record IsProperPrefix (f : Flavor) (bytes : List ℕ) (prefix : UnchangedPrefix) : Type 0 where
  pub found : IsUnchangedPrefix f bytes prefix
  pub more : prefix.len < length bytes

-- The prefix is all of the bytes exactly if a call returns its input unchanged, which `are_kept`
-- states, and otherwise it is the unchanged prefix.
pub record IsPrefixUnlessKept (f : Flavor) (are_kept : Type 0) (bytes : List ℕ) (found : UnchangedPrefix) : Type 0 where
  pub kept : (found.len ≡ length bytes) ↔ are_kept
  pub prefix : ¬ (found.len ≡ length bytes) → IsProperPrefix f bytes found
