-- What each command makes of its input.
use Rattle.std.specs.Prelude.{◌≡◌, ℕ, Bool, true, false, ⊤, List, [], ◌∷◌, ◌++◌}
use Rattle.std.specs.List.{flat_map}
use Rattle.simd_cesu8.specs.Text.{IsText, utf8, IsUtf8Of}
use Rattle.simd_cesu8.specs.Encoding.{Flavor, encoding}
use Rattle.simd_cesu8.specs.Encoding as encodings
use Rattle.simd_cesu8.specs.Reading.{IsStrictReading, reading}
use Rattle.cesu8_stream.specs.Written.{BeginsNone}
use Rattle.cesu8conv_run.specs.declared.conversion.FlavorWord.{FlavorWord}
use Rattle.cesu8conv_run.specs.declared.conversion.FlavorWord.TheVariants as words
use Rattle.cesu8conv_run.specs.declared.conversion.Conversion.{Conversion}
use Rattle.cesu8conv_run.specs.declared.conversion.Conversion.TheVariants.{Encode, Decode, Lossy, Mixed, MixedLossy}

-- The flavor that the second word of the command line names.
abbrev pub flavor_of : FlavorWord → Flavor
flavor_of words.Cesu8 = encodings.Cesu8
flavor_of words.Mutf8 = encodings.Mutf8

-- A part of mixed input: a text in the encoding, a text in UTF-8, or a single byte that is
-- replaced.
pub data Part : Type 0 where
  Encoded : (text : List ℕ) → Part
  InUtf8 : (text : List ℕ) → Part
  Replaced : (byte : ℕ) → Part

abbrev pub bytes_of_part : Flavor → Part → List ℕ
bytes_of_part f (Encoded text) = encoding f text
bytes_of_part f (InUtf8 text) = utf8 text
bytes_of_part f (Replaced byte) = byte ∷ []

-- The text of a part has the replacement character for a replaced byte.
abbrev pub text_of_part : Part → List ℕ
text_of_part (Encoded text) = text
text_of_part (InUtf8 text) = text
text_of_part (Replaced byte) = 0xFFFD ∷ []

-- The part is a text, or, if `replaces` is true, a byte that is replaced.
abbrev pub IsPart : Bool → Part → Type 0
IsPart replaces (Encoded text) = IsText text
IsPart replaces (InUtf8 text) = IsText text
IsPart true (Replaced byte) = ⊤
IsPart false (Replaced byte) = ⊥

abbrev pub AreParts : Bool → List Part → Type 0
AreParts replaces [] = ⊤
AreParts replaces (part ∷ parts) = IsPart replaces part × AreParts replaces parts

-- The bytes are those of some parts, joined, and the text is that of these parts. `replaces` says
-- whether some of them may be replaced bytes. Any byte may be one: that only damaged bytes are
-- replaced is tested, and not proved.
pub record IsMixed (replaces : Bool) (f : Flavor) (bytes text : List ℕ) : Type 0 where
  pub parts : List Part
  pub are_parts : AreParts replaces parts
  pub bytes_are : flat_map (bytes_of_part f) parts ≡ bytes
  pub text_is : flat_map text_of_part parts ≡ text

-- What may follow the bytes that are known: anything, or nothing at the end of the input.
abbrev pub MayFollow : Bool → List ℕ → Type 0
MayFollow true more = more ≡ []
MayFollow false more = ⊤

-- The text of the bytes that were taken, if the input goes on with the bytes ahead. What follows
-- matters only for `Lossy`, which replaces a byte only if no character begins with it.
abbrev pub IsTextOf : Conversion → Bool → (taken ahead text : List ℕ) → Type 0
IsTextOf (Encode word) is_last taken ahead text = IsUtf8Of text taken
IsTextOf (Decode word) is_last taken ahead text = IsStrictReading (flavor_of word) taken text
IsTextOf (Lossy word) is_last taken ahead text =
    (more : List ℕ) → MayFollow is_last more →
    reading (flavor_of word) (taken ++ (ahead ++ more)) ≡ text ++ reading (flavor_of word) (ahead ++ more)
IsTextOf (Mixed word) is_last taken ahead text = IsMixed false (flavor_of word) taken text
IsTextOf (MixedLossy word) is_last taken ahead text = IsMixed true (flavor_of word) taken text

-- The text as it is written: in the encoding, or in UTF-8.
abbrev pub written_as : Conversion → List ℕ → List ℕ
written_as (Encode word) text = encoding (flavor_of word) text
written_as (Decode word) text = utf8 text
written_as (Lossy word) text = utf8 text
written_as (Mixed word) text = utf8 text
written_as (MixedLossy word) text = utf8 text

-- The bytes that were taken became the bytes that were written, whatever follows the bytes ahead.
pub record Converts (c : Conversion) (is_last : Bool) (taken ahead written : List ℕ) : Type 0 where
  pub text : List ℕ
  pub is_text : IsTextOf c is_last taken ahead text
  pub written_is : written ≡ written_as c text

-- The output of a command for the whole of its input.
abbrev pub IsOutput : Conversion → (input output : List ℕ) → Type 0
IsOutput (Encode word) input output =
    (text : List ℕ) × IsUtf8Of text input × (output ≡ encoding (flavor_of word) text)
IsOutput (Decode word) input output =
    (text : List ℕ) × IsStrictReading (flavor_of word) input text × (output ≡ utf8 text)
IsOutput (Lossy word) input output = output ≡ utf8 (reading (flavor_of word) input)
IsOutput (Mixed word) input output =
    (text : List ℕ) × IsMixed false (flavor_of word) input text × (output ≡ utf8 text)
IsOutput (MixedLossy word) input output =
    (text : List ℕ) × IsMixed true (flavor_of word) input text × (output ≡ utf8 text)

-- The bytes begin with damage: no character that the command can read begins them. For `Mixed` this
-- only says that no character of the encoding does: that none of UTF-8 does either is tested, and
-- not proved. The lossy commands know no damage.
abbrev pub IsDamage : Conversion → List ℕ → Type 0
IsDamage (Encode word) bytes = BeginsNone utf8 bytes
IsDamage (Decode word) bytes = BeginsNone (encoding (flavor_of word)) bytes
IsDamage (Lossy word) bytes = ⊥
IsDamage (Mixed word) bytes = BeginsNone (encoding (flavor_of word)) bytes
IsDamage (MixedLossy word) bytes = ⊥

-- The bytes begin with damage, whatever follows them.
abbrev pub IsDamagedAhead : Conversion → Bool → List ℕ → Type 0
IsDamagedAhead c is_last ahead =
    (more : List ℕ) → MayFollow is_last more → IsDamage c (ahead ++ more)
