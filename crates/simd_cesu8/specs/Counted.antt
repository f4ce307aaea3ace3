-- The encoding that a `CountedText` stands for: that of its string. The type, from `counted`, also
-- keeps the length of the encoding, and the contracts of its calls cite this definition.
use Rattle.std.specs.Prelude.{ℕ, List}
use Rattle.std.specs.Str.{chars}
use Rattle.simd_cesu8.specs.Encoding.{encoding}
use Rattle.simd_cesu8.specs.Codec.{flavor_of}
use Rattle.simd_cesu8.specs.declared.counted_text.CountedText.{CountedText}

-- The encoding of the string.
abbrev pub counted_encoding : CountedText → List ℕ
counted_encoding counted = encoding (flavor_of counted.flavor) (chars counted.text.now)
