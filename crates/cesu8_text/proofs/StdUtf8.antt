-- UTF-8 as std defines it is UTF-8 as this crate defines it.
use Rattle.std.proofs.Common.{◌≡◌, ℕ, true, List, [], ◌∷◌, ◌↔◌, refl, sym, ◌∙◌, arith}
use Rattle.std.specs.Str.{chars, IsUtf8}
use Rattle.std.proofs.Math.Utf8.{encode, encodes, scalar, scalars, scalar_cases, low_scalar}
use Rattle.std.proofs.lemmas.Bool.{and_parts, and_from}
use Rattle.std.proofs.lemmas.Bool.Decides.{nat_tests}
use Rattle.std.proofs.lemmas.Str.{encodes-chars, scalars-chars, chars-encodes}
use Rattle.cesu8_text.specs.Text.{IsScalarValue, IsText, utf8_of, utf8, IsUtf8Of}

-- Both definitions encode a scalar value by the same formulas.
utf8_of_encode : (c : ℕ) → utf8_of c ≡ encode c
unfolding utf8_of encode
utf8_of_encode c = refl

-- Both definitions encode a text as the same bytes.
utf8_encodes : (text : List ℕ) → utf8 text ≡ encodes text
utf8_encodes [] = refl
utf8_encodes (c ∷ text) = rw (utf8_of_encode c, utf8_encodes text) refl

-- This crate's scalar values are scalar values in std.
scalar_from_IsScalarValue : (c : ℕ) → IsScalarValue c → scalar c ≡ true
scalar_from_IsScalarValue c h = grind (arith, nat_tests, low_scalar)

-- Scalar values in std are a text in this crate.
IsText_from_scalars : (text : List ℕ) → scalars text ≡ true → IsText text
IsText_from_scalars [] e = tt
IsText_from_scalars (c ∷ text) e = grind (arith, and_parts, scalar_cases, IsText_from_scalars text)

-- A text in this crate consists of scalar values in std.
scalars_from_IsText : (text : List ℕ) → IsText text → scalars text ≡ true
scalars_from_IsText [] h = refl
scalars_from_IsText (c ∷ text) h =
    grind (arith, and_from (scalar c) (scalars text), scalar_from_IsScalarValue, scalars_from_IsText text)

-- Bytes that std calls UTF-8 are the UTF-8 of the characters that std decodes from them.
pub IsUtf8Of_chars : (bytes : List ℕ) → IsUtf8 bytes → IsUtf8Of (chars bytes) bytes
IsUtf8Of_chars bytes h =
    (IsText_from_scalars (chars bytes) (scalars-chars bytes h), utf8_encodes (chars bytes) ∙ encodes-chars bytes h)

-- `IsUtf8Of_chars` for a list that is equal to the bytes.
pub IsUtf8Of_chars_at : (bytes text : List ℕ) → text ≡ bytes → IsUtf8 bytes → IsUtf8Of (chars text) bytes
IsUtf8Of_chars_at bytes text same is_utf8 = rw same (IsUtf8Of_chars bytes is_utf8)

-- The UTF-8 of a text is UTF-8 in std.
pub IsUtf8_utf8 : (text : List ℕ) → IsText text → IsUtf8 (utf8 text)
IsUtf8_utf8 text h = (text, (scalars_from_IsText text h, sym (utf8_encodes text)))

-- In std, the UTF-8 of a text has the text as its characters.
pub chars_utf8 : (text : List ℕ) → IsText text → chars (utf8 text) ≡ text
chars_utf8 text h = rw (utf8_encodes text) (chars-encodes text (scalars_from_IsText text h))

-- Bytes are UTF-8 in std if and only if they are the UTF-8 of some text.
pub std_utf8 : (bytes : List ℕ) → IsUtf8 bytes ↔ ((text : List ℕ) × IsUtf8Of text bytes)
std_utf8 bytes = (
  λ is_utf8. (chars bytes, IsUtf8Of_chars bytes is_utf8),
  λ of_text. rw of_text.1.1 at (IsUtf8_utf8 of_text.0 of_text.1.0),
)

-- Bytes that are not UTF-8 in std are the UTF-8 of no text.
pub not_utf8_of : (bytes : List ℕ) → (IsUtf8 bytes → ⊥) → (text : List ℕ) → IsUtf8Of text bytes → ⊥
not_utf8_of bytes not_utf8 text is_utf8_of = not_utf8 ((std_utf8 bytes).1 (text, is_utf8_of))
