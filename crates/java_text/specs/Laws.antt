-- The laws of the form of a text, its MUTF-8 after a count of two bytes, in terms of the definitions
-- alone. They are the contracts of the functions of src/laws.rt, which callers use in their proofs.
use Rattle.std.specs.Prelude.{◌≡◌, ℕ, ◌+◌, ◌<◌, ◌≤◌, ◌↔◌, List, [], ◌∷◌, ◌++◌, length, slice_index}
use Rattle.std.specs.List.{flat_map}
use Rattle.simd_cesu8.specs.Text.{IsText}
use Rattle.simd_cesu8.specs.Encoding.{Mutf8}
use Rattle.simd_cesu8.specs.Reading.{IsStrictReading}
use Rattle.java_text.specs.Form.{HasForm, java_form, mutf8_len, BeginsWithForm, BeginsOnlyWithForm, NoFormBegins, count_in, counted, rest_in, IsTruncated}

-- Bytes that begin with a form are not truncated. Their first two bytes are the length of the text's
-- MUTF-8, so many bytes after these are this MUTF-8, and the rest follows it.
abbrev pub FormIsCut : Type 0
FormIsCut = (bytes text rest : List ℕ) → BeginsWithForm bytes text rest →
    (¬ (IsTruncated bytes)) × (count_in bytes ≡ mutf8_len text)
    × IsStrictReading Mutf8 (counted bytes) text × (rest ≡ rest_in bytes)

-- Conversely, bytes that are not truncated begin with the form of a text if the counted bytes are
-- its MUTF-8.
abbrev pub PartsAreForm : Type 0
PartsAreForm = (bytes text : List ℕ) → ((i : ℕ) → slice_index bytes i < 0x100) → ¬ (IsTruncated bytes) →
    IsStrictReading Mutf8 (counted bytes) text → BeginsWithForm bytes text (rest_in bytes)

-- Bytes begin with the form of at most one text, and with at most one rest after it.
abbrev pub OneForm : Type 0
OneForm = (bytes text rest : List ℕ) → BeginsWithForm bytes text rest → BeginsOnlyWithForm bytes text rest

-- No form is a proper prefix of another: if one is a prefix of another, they are equal.
abbrev pub NoFormBeginsAnother : Type 0
NoFormBeginsAnother = (text other rest : List ℕ) → IsText text → HasForm text → IsText other → HasForm other →
    java_form text ≡ java_form other ++ rest → (text ≡ other) × (rest ≡ [])

-- Texts that each have a form.
abbrev pub HaveForms : List (List ℕ) → Type 0
HaveForms [] = Unit {0}
HaveForms (text ∷ texts) = IsText text × HasForm text × HaveForms texts

-- The bytes are read as these texts, one after another, and nothing is left.
abbrev pub AreReadInTurn : List ℕ → List (List ℕ) → Type 0
AreReadInTurn bytes [] = bytes ≡ []
AreReadInTurn bytes (text ∷ texts) = (rest : List ℕ) × BeginsWithForm bytes text rest × AreReadInTurn rest texts

-- Consecutive forms are read as their texts, and as no others.
abbrev pub Sequence : Type 0
Sequence = (texts : List (List ℕ)) → HaveForms texts →
    AreReadInTurn (flat_map java_form texts) texts
    × ((others : List (List ℕ)) → AreReadInTurn (flat_map java_form texts) others → others ≡ texts)

-- The bytes are the forms of these texts, one after another, followed by rest.
pub record BeginsWithForms (bytes : List ℕ) (texts : List (List ℕ)) (rest : List ℕ) : Type 0 where
  pub have_forms : HaveForms texts
  pub bytes_are : bytes ≡ flat_map java_form texts ++ rest

-- No form begins the empty input.
abbrev pub EmptyHasNone : Type 0
EmptyHasNone = NoFormBegins []

-- If bytes begin with some forms, and the rest begins with a form, they begin with one form more.
abbrev pub OneMore : Type 0
OneMore = (bytes : List ℕ) (texts : List (List ℕ)) (rest text after : List ℕ) →
    BeginsWithForms bytes texts rest → BeginsWithForm rest text after →
    BeginsWithForms bytes (texts ++ text ∷ []) after

-- Bytes that begin with some forms are read as their texts, and then as the rest is read.
abbrev pub RestIsRead : Type 0
RestIsRead = (bytes : List ℕ) (texts : List (List ℕ)) (rest : List ℕ) → BeginsWithForms bytes texts rest →
    (all : List (List ℕ)) →
    AreReadInTurn bytes all ↔ ((more : List (List ℕ)) × (all ≡ texts ++ more) × AreReadInTurn rest more)

-- If bytes begin with some forms, and no form begins the rest, the bytes are read as the texts of
-- these forms alone, and only if the rest is empty.
abbrev pub NoneFollows : Type 0
NoneFollows = (bytes : List ℕ) (texts : List (List ℕ)) (rest : List ℕ) → BeginsWithForms bytes texts rest →
    NoFormBegins rest → (all : List (List ℕ)) → AreReadInTurn bytes all ↔ ((all ≡ texts) × (rest ≡ []))

-- A form has two bytes more than the MUTF-8 of its text, so 2 to 65,537.
abbrev pub Bounds : Type 0
Bounds = (text : List ℕ) → HasForm text →
    (length (java_form text) ≡ 2 + mutf8_len text) × (2 ≤ length (java_form text)) × (length (java_form text) ≤ 65537)
