-- std and this library define UTF-8 differently. The lemmas of `StdUtf8` say that the definitions
-- agree.
use Rattle.cesu8_text.proofs.StdUtf8.{IsUtf8_utf8, chars_utf8}
use Rattle.simd_cesu8.proofs.laws.utf8_of_text.Goals as goal

pub returns : goal.returns
returns c = record { string = IsUtf8_utf8; chars = chars_utf8 }
