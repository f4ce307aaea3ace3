-- The number of UTF-16 code units of a text, from its UTF-8: one for each lead byte, and two if it
-- leads four bytes. `utf16_len` of `cesu8_bytes` counts by this.
use Rattle.std.proofs.Common.{◌≡◌, ℕ, List, [], ◌∷◌, refl, arith, length, length-append, sum_by}
use Rattle.std.specs.Str.{chars, IsUtf8}
use Rattle.std.proofs.lemmas.Bool.Decides.{nat_tests}
use Rattle.std.proofs.lemmas.List.Sums.{sum_by-append}
use Rattle.cesu8_text.specs.Text.{IsScalarValue, IsText, utf8_of, utf8}
use Rattle.cesu8_text.specs.Utf16.{units_of, units}
use Rattle.cesu8_text.specs.Class.{is_one_unit, weight_of}
use Rattle.cesu8_text.proofs.StdUtf8.{IsUtf8Of_chars}

-- The bytes of a character's UTF-8 weigh as much as it has code units.
counts : (c : ℕ) → IsScalarValue c → length (units_of c) ≡ sum_by (weight_of is_one_unit) (utf8_of c)
unfolding units_of utf8_of
counts c scalar = grind (arith, nat_tests)

-- The bytes of a text's UTF-8 weigh as much as it has code units.
length_units : (text : List ℕ) → IsText text → length (units text) ≡ sum_by (weight_of is_one_unit) (utf8 text)
length_units [] is_text = refl
length_units (c ∷ text) is_text =
    grind (
      arith,
      length-append,
      sum_by-append (weight_of is_one_unit) (utf8_of c) (utf8 text),
      counts c is_text.0,
      length_units text is_text.1,
    )

-- The bytes of a string in std weigh as much as it has code units.
pub units_by_bytes : (text bytes : List ℕ) (sum : ℕ) → bytes ≡ text → IsUtf8 text → sum ≡ sum_by (weight_of is_one_unit) bytes →
    sum ≡ length (units (chars text))
units_by_bytes text bytes sum same is_utf8 summed = grind (arith, IsUtf8Of_chars, length_units)
