-- The code's enum `Flavor`, which a `CountedText` has, as the `Flavor` of the definitions.
use Rattle.cesu8_text.specs.Encoding.{Flavor, Cesu8, Mutf8}
use Rattle.simd_cesu8.specs.declared.codec.encoding.Flavor.{Flavor as FlavorOption}
use Rattle.simd_cesu8.specs.declared.codec.encoding.Flavor.TheVariants as options

-- The flavor of the definitions for a value of the code.
abbrev pub flavor_of : FlavorOption → Flavor
flavor_of options.Cesu8 = Cesu8
flavor_of options.Mutf8 = Mutf8
