-- Bytes that are whole characters of a set: of `Encoded`, which has all encoded characters, or of
-- `Unchanged`, which has those whose encoding is their UTF-8.
use Rattle.std.proofs.Common.{◌≡◌, ℕ, ◌⊎◌, List, [], ◌∷◌, ◌++◌, true, refl, sym, ◌∙◌, subst, ⊎_elim, arith, drop}
use Rattle.std.specs.List.{Any}
use Rattle.std.proofs.lemmas.Bool.Decides.{nat_tests}
use Rattle.cesu8_text.specs.Class.{is_null}
use Rattle.cesu8_text.specs.Text.{IsScalarValue}
use Rattle.cesu8_text.specs.Encoding.{Flavor, encoding, IsEncodedOtherwise}
use Rattle.cesu8_text.proofs.lists.Elements.{any_nil, any_append, none_cons}
use Rattle.cesu8_text.proofs.encoding.Encodings.{encoding_nil, encoding_append}
use Rattle.cesu8_text.proofs.encoding.Found.{BeginsInLengths, rest_is}
use Rattle.cesu8_text.proofs.encoding.Lengths.{change}
use Rattle.cesu8_text.proofs.reading.Decoding.{IsText_append}
use Rattle.cesu8_decode.specs.Following.{CharacterSet, has_changed}
use Rattle.cesu8_decode.specs.Prefixes.{AreWhole, IsOutside}

-- ---- sets

pub null_otherwise : (f : Flavor) (c : ℕ) → is_null f c ≡ true → IsEncodedOtherwise f c
null_otherwise f c null = grind (arith, nat_tests)

-- A character whose encoding is its UTF-8 is in both sets.
inside_each : (s : CharacterSet) (f : Flavor) (c : ℕ) → ¬ (IsEncodedOtherwise f c) → ¬ (IsOutside s f c)
inside_each s f c usual outside = grind (arith, null_otherwise)

-- If no scalar value is outside, no text has one that is.
pub none_outside : (P : ℕ → Type 0) → ((c : ℕ) → ¬ (P c)) → (text : List ℕ) → ¬ (Any P text)
none_outside P none text any = none any.1 any.4

-- ---- parts

-- The empty list is whole characters.
pub none_whole : (s : CharacterSet) (f : Flavor) → AreWhole s f []
none_whole s f = record { text = []; reads = (tt, encoding_nil f); inside = any_nil _ }

-- The encoding of one character of the set is whole characters.
pub character_whole : (s : CharacterSet) (f : Flavor) (c : ℕ) → IsScalarValue c → ¬ (IsOutside s f c) → AreWhole s f (encoding f (c ∷ []))
character_whole s f c scalar inside = record {
  text = c ∷ [];
  reads = ((scalar, tt), refl);
  inside = none_cons (IsOutside s f) c [] inside (any_nil _);
}

-- If two parts are whole characters, so are both together.
pub parts_whole : (s : CharacterSet) (f : Flavor) (prefix back : List ℕ) → AreWhole s f prefix → AreWhole s f back → AreWhole s f (prefix ++ back)
parts_whole s f prefix back first last = record {
  text = first.text ++ last.text;
  reads = (
    IsText_append first.text last.text first.reads.0 last.reads.0,
    encoding_append f first.text last.text ∙ (λ i. first.reads.1 i ++ last.reads.1 i),
  );
  inside = λ any. ⊎_elim first.inside last.inside (any_append (IsOutside s f) first.text last.text any);
}

-- ---- bytes that begin with a character

begun_whole : (s : CharacterSet) (f : Flavor) (bytes rest : List ℕ) (c : ℕ) → IsScalarValue c → ¬ (IsOutside s f c) → bytes ≡ encoding f (c ∷ []) ++ rest →
    AreWhole s f rest → AreWhole s f bytes
begun_whole s f bytes rest c scalar inside are whole =
    subst (AreWhole s f) (sym are) (parts_whole s f (encoding f (c ∷ [])) rest (character_whole s f c scalar inside) whole)

-- Bytes are whole characters if they begin with a character of the set and the rest is whole
-- characters. A character whose encoding is as long as its UTF-8 (m ≡ n) is in each set.
pub whole_with : (f : Flavor) (bytes : List ℕ) (m n : ℕ) → BeginsInLengths f bytes m n → (s : CharacterSet) → (has_changed s ≡ true) ⊎ (m ≡ n) →
    AreWhole s f (drop m bytes) → AreWhole s f bytes
whole_with f bytes m n found s either rest =
    begun_whole s f bytes (drop m bytes) found.character found.begins.scalar (grind (arith, change f found.character found.begins.scalar, found, inside_each))
    (rw (rest_is f bytes m n found) found.begins.bytes_are) rest
