-- The state of a decoder that decodes its input chunk by chunk.
use Rattle.std.specs.Prelude.{◌≡◌, ℕ, List, ◌++◌}
use Rattle.cesu8_text.specs.Text.{IsText, utf8}
use Rattle.cesu8_text.specs.Encoding.{Flavor, encoding}
use Rattle.cesu8_text.specs.Reading.{reading}
use Rattle.cesu8_bytes.specs.declared.strictness.Strictness.{Strictness}
use Rattle.cesu8_bytes.specs.declared.strictness.Strictness.TheVariants.{Strict}

-- A decoder of `bytes` has decoded all but `rest` to `text`, and has written the UTF-8 of `text`
-- after `old`.
pub record IsReadSoFar (f : Flavor) (which : Strictness) (bytes rest old new : List ℕ) : Type 0 where
  pub text : List ℕ
  pub scalars : IsText text
  pub lossy_reading : reading f bytes ≡ text ++ reading f rest
  pub strict_reading : which ≡ Strict → bytes ≡ encoding f text ++ rest
  pub written : new ≡ old ++ utf8 text
