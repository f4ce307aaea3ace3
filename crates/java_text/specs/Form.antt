-- The form of a text, as Java's `DataOutput.writeUTF` writes it: a count, and as many bytes of
-- MUTF-8.
use Rattle.std.specs.Prelude.{◌≡◌, ◌⊎◌, ℕ, ◌+◌, ◌*◌, ◌/◌, ◌%◌, ◌<◌, ◌≤◌, List, ◌∷◌, ◌++◌, length, take, drop, slice_index}
use Rattle.simd_cesu8.specs.Text.{IsText}
use Rattle.simd_cesu8.specs.Encoding.{Mutf8, encoding}

-- The length of a text's MUTF-8, in bytes.
abbrev pub mutf8_len : List ℕ → ℕ
mutf8_len text = length (encoding Mutf8 text)

-- A count of two bytes is at most 65,535, so a text with more bytes of MUTF-8 has no form. (Java,
-- DataOutput.writeUTF: "If this number is larger than 65535, then a UTFDataFormatException is
-- thrown")
abbrev pub HasForm : List ℕ → Type 0
HasForm text = mutf8_len text ≤ 65535

-- The form: the length of the MUTF-8 in two bytes, the high byte first, and then the MUTF-8. (Java,
-- DataOutput.writeUTF: "in exactly the manner of the writeShort method")
unfoldable pub java_form : List ℕ → List ℕ
java_form text = (mutf8_len text / 0x100) ∷ (mutf8_len text % 0x100) ∷ encoding Mutf8 text

-- The bytes are the form of the text, followed by rest.
pub record BeginsWithForm (bytes text rest : List ℕ) : Type 0 where
  pub scalars : IsText text
  pub fits : HasForm text
  pub bytes_are : bytes ≡ java_form text ++ rest

-- The bytes begin with no other form, and with no other rest.
abbrev pub BeginsOnlyWithForm : List ℕ → List ℕ → List ℕ → Type 0
BeginsOnlyWithForm bytes text rest =
    (other more : List ℕ) → BeginsWithForm bytes other more → (other ≡ text) × (more ≡ rest)

abbrev pub NoFormBegins : List ℕ → Type 0
NoFormBegins bytes = (text rest : List ℕ) → ¬ (BeginsWithForm bytes text rest)

-- The parts that the count gives, even if no form begins the bytes: the count in the first two
-- bytes, as many bytes after these, and the rest.
abbrev pub count_in : List ℕ → ℕ
count_in bytes = 0x100 * slice_index bytes 0 + slice_index bytes 1

abbrev pub counted : List ℕ → List ℕ
counted bytes = take (count_in bytes) (drop 2 bytes)

abbrev pub rest_in : List ℕ → List ℕ
rest_in bytes = drop (2 + count_in bytes) bytes

-- There are fewer than two bytes, or fewer bytes after them than they count.
abbrev pub IsTruncated : List ℕ → Type 0
IsTruncated bytes = (length bytes < 2) ⊎ (length bytes < 2 + count_in bytes)
