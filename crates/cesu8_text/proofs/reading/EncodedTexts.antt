-- The lossy reading of bytes that contain encoded text.
use Rattle.std.proofs.Common.{◌≡◌, ℕ, ◌+◌, List, [], ◌∷◌, ◌++◌, refl, sym, ap, ◌∙◌, arith, length, append_assoc, append-nil}
use Rattle.cesu8_text.specs.Text.{IsText}
use Rattle.cesu8_text.specs.Encoding.{Flavor, encoding}
use Rattle.cesu8_text.specs.Reading.{BeginsWith, reading}
use Rattle.cesu8_text.specs.Laws.{NoneCrosses, Around, Middle}
use Rattle.cesu8_text.proofs.encoding.Encodings.{encoding_nil, encoding_cons}
use Rattle.cesu8_text.proofs.reading.Stretches.{no_overlap, later}
use Rattle.cesu8_text.proofs.reading.Steps.{reading_nil, reading_character}
use Rattle.cesu8_text.proofs.reading.Splits.{split}

-- An encoded text begins with its first character, whatever follows the text.
begins_text : (f : Flavor) (c : ℕ) (text rest : List ℕ) → IsText (c ∷ text) →
    BeginsWith f (encoding f (c ∷ text) ++ rest) c (encoding f text ++ rest)
begins_text f c text rest is_text = grind (arith, encoding_cons f c text, append_assoc)

-- The lossy reading of an encoded text and more bytes is the text, followed by the reading of the
-- other bytes.
pub reading_text : (f : Flavor) (text rest : List ℕ) → IsText text → reading f (encoding f text ++ rest) ≡ text ++ reading f rest
reading_text f [] rest is_text = rw encoding_nil
reading_text f (c ∷ text) rest is_text =
    rw (reading_character f _ c _ (begins_text f c text rest is_text), reading_text f text rest is_text.1)

-- The lossy reading of an encoding is the encoded text.
pub reading_encoding : (f : Flavor) (text : List ℕ) → IsText text → reading f (encoding f text) ≡ text
reading_encoding f text is_text = simp (append-nil, reading_nil) at (reading_text f text [] is_text)

-- Texts with equal encodings are equal.
pub encoding_injective : (f : Flavor) (text other : List ℕ) → IsText text → IsText other → encoding f text ≡ encoding f other →
    text ≡ other
encoding_injective f text other is_text other_is_text same =
    sym (reading_encoding f text is_text) ∙ ap (reading f) same ∙ reading_encoding f other other_is_text

-- No character begins before a nonempty encoded text and ends in it, since a character begins at
-- its start.
none_crosses_text : (f : Flavor) (a : List ℕ) (c : ℕ) (text rest : List ℕ) → IsText (c ∷ text) →
    NoneCrosses f a (encoding f (c ∷ text) ++ rest)
none_crosses_text f a c text rest is_text i d stands in_front =
    let back = encoding f (c ∷ text) ++ rest in
    let there = later f a back 0 c (encoding f text ++ rest, begins_text f c text rest is_text) in
    grind (arith, no_overlap f (a ++ back) i (length a + 0) d c stands there)

-- The bytes before and after a nonempty encoded text are decoded independently.
pub middle : Middle
middle f a [] b is_text not_empty = absurd (not_empty refl)
middle f a (c ∷ text) b is_text not_empty =
    let apart = (split f a (encoding f (c ∷ text) ++ b)).1 (none_crosses_text f a c text b is_text) in
    rw (append_assoc a (encoding f (c ∷ text)) b, apart, reading_text f (c ∷ text) b is_text)
    (sym (append_assoc (reading f a) (c ∷ text) (reading f b)))

-- Encoded text after some bytes does not change their lossy reading.
before_text : (f : Flavor) (w t : List ℕ) → IsText t → reading f (w ++ encoding f t) ≡ reading f w ++ t
before_text f w [] is_text = simp (encoding_nil, append-nil)
before_text f w (c ∷ text) is_text =
    simp (append-nil, reading_nil) at (middle f w (c ∷ text) [] is_text (λ empty. cc))

-- Encoded text before and after some bytes does not change their lossy reading.
pub around : Around
around = grind (arith, before_text, reading_text)
