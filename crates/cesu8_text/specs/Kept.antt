-- What a decoding call returns for its input, and which input it returns unchanged.
use Rattle.std.specs.Prelude.{◌≡◌, ℕ, ◌↔◌, List, IsUtf8}
use Rattle.std.specs.Str.{chars}
use Rattle.cesu8_text.specs.Encoding.{Flavor}
use Rattle.cesu8_text.specs.Class.{IsUnchangedUtf8}
use Rattle.cesu8_text.specs.Reading.{IsStrictReading, reading}

-- Strict decoding gives the strict reading of the encoding, and lossy decoding the lossy reading.
pub record ReadsEncoding (f : Flavor) (bytes : List ℕ) (reads reads_lossily : List ℕ → Type 0) : Type 0 where
  pub strictly : (text : List ℕ) → reads text ↔ IsStrictReading f bytes text
  pub lossily : (text : List ℕ) → reads_lossily text ↔ text ≡ reading f bytes

-- What strict and lossy decoding return for the bytes (`reads`, `reads_lossily`), in a mode that
-- returns them unchanged if `keeps` holds.
pub record KnowsTexts (f : Flavor) (bytes : List ℕ) (keeps : Type 0) (reads reads_lossily : List ℕ → Type 0) : Type 0 where
  -- Only UTF-8 is kept, and UTF-8 in which nothing changes is always kept. Kept input decodes to
  -- its own characters.
  pub is_utf8 : keeps → IsUtf8 bytes
  pub unchanged : IsUnchangedUtf8 f bytes → keeps
  pub kept : (text : List ℕ) → keeps → reads text ↔ text ≡ chars bytes
  pub kept_lossily : (text : List ℕ) → keeps → reads_lossily text ↔ text ≡ chars bytes
  -- All other input is decoded.
  pub other : ¬ keeps → ReadsEncoding f bytes reads reads_lossily
