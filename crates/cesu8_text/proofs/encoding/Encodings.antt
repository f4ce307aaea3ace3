-- The encoding of a text is the concatenation of those of its scalar values.
use Rattle.std.specs.Str.{chars}
use Rattle.std.proofs.lemmas.Str.{chars-nil}
use Rattle.std.proofs.Common.{◌≡◌, ℕ, List, [], ◌∷◌, ◌++◌, refl, ap, ◌∙◌}
use Rattle.std.specs.List.{flat_map}
use Rattle.std.proofs.lemmas.List.Concat.{flat_map-append}
use Rattle.cesu8_text.specs.Utf16.{units_of, units}
use Rattle.cesu8_text.specs.Encoding.{Flavor, form, encoding}

-- The encoding of the empty text is empty.
pub encoding_nil : (f : Flavor) → encoding f [] ≡ []
unfolding encoding
encoding_nil f = refl

-- The encoding of an empty string is empty.
pub encoding_of_empty : (f : Flavor) (bytes : List ℕ) → bytes ≡ [] → encoding f (chars bytes) ≡ []
encoding_of_empty f bytes empty = rw (empty, chars-nil) (encoding_nil f)

-- The encoding of a concatenation is the concatenation of the encodings.
pub encoding_append : (f : Flavor) (s t : List ℕ) → encoding f (s ++ t) ≡ encoding f s ++ encoding f t
unfolding encoding
encoding_append f s t =
    ap (flat_map (form f)) (flat_map-append units_of s t) ∙ flat_map-append (form f) (units s) (units t)

-- The encoding of a text is that of its first scalar value, followed by that of the others.
pub encoding_cons : (f : Flavor) (c : ℕ) (text : List ℕ) →
    encoding f (c ∷ text) ≡ encoding f (c ∷ []) ++ encoding f text
encoding_cons f c text = encoding_append f (c ∷ []) text
