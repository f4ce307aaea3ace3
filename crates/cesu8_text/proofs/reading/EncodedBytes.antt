-- Which bytes an encoding can have: those below F0 (hexadecimal), and in MUTF-8 not 0.
use Rattle.std.proofs.lemmas.Bool.Decides.{nat_tests}
use Rattle.std.proofs.Common.{◌≡◌, ◌≢◌, ℕ, ◌<◌, List, [], ◌∷◌, arith}
use Rattle.std.specs.List.{All, Any}
use Rattle.std.proofs.lemmas.List.Elements.{All-append}
use Rattle.cesu8_text.specs.Text.{IsScalarValue, IsText, utf8}
use Rattle.cesu8_text.specs.Utf16.{units_of}
use Rattle.cesu8_text.specs.Encoding.{Flavor, Mutf8, form, encoding}
use Rattle.cesu8_text.specs.Laws.{SameText}
use Rattle.cesu8_text.specs.Class.{IsChangedByte}
use Rattle.cesu8_text.proofs.encoding.Encodings.{encoding_nil, encoding_cons}
use Rattle.cesu8_text.proofs.encoding.NeedsEncoding.{unchanged, needs_by_changed_byte, encoding_same}
use Rattle.cesu8_text.proofs.reading.EncodedTexts.{encoding_injective}

-- A byte that an encoding can have.
pub record IsEncodedByte (f : Flavor) (b : ℕ) : Type 0 where
  pub low : b < 0xF0
  pub some : f ≡ Mutf8 → b ≢ 0

-- The encoding of one character has only bytes of `IsEncodedByte`.
bytes_of_one : (f : Flavor) (c : ℕ) → IsScalarValue c → All (IsEncodedByte f) (encoding f (c ∷ []))
unfolding encoding form units_of
bytes_of_one f c scalar = grind (arith, nat_tests)

-- The encoding of a text has only bytes of `IsEncodedByte`.
pub encoded_bytes : (f : Flavor) (text : List ℕ) → IsText text → All (IsEncodedByte f) (encoding f text)
encoded_bytes f [] is_text = grind (arith, encoding_nil)
encoded_bytes f (c ∷ text) is_text =
    rw (encoding_cons f c text) (All-append (IsEncodedByte f) _ _ (bytes_of_one f c is_text.0) (encoded_bytes f text is_text.1))

-- No byte of an encoding is one that the encoding changes.
pub none_changed : (f : Flavor) (text : List ℕ) → IsText text → Any (IsChangedByte f) (encoding f text) → ⊥
none_changed f text is_text found =
    grind (arith, unchanged, encoded_bytes f text is_text found.0 found.1)

-- Bytes that are both valid UTF-8 and an encoding decode to the same text in both ways.
pub same_in_both : SameText
same_in_both f bytes text other is_utf8_of reads =
    let none : Any (IsChangedByte f) (utf8 text) → ⊥ =
    λ found. none_changed f other reads.0 (rw (is_utf8_of.1, ← reads.1) at found) in
    grind (arith, encoding_injective, encoding_same f text, needs_by_changed_byte f text is_utf8_of.0)
