-- When a decoder may borrow its input, and when it may not.
use Rattle.std.proofs.Common.{◌≡◌, ℕ, ◌↔◌, false, List, IsTrue}
use Rattle.std.proofs.lemmas.Bool.{false≢true}
use Rattle.std.specs.Str.{chars}
use Rattle.cesu8_text.specs.Encoding.{Flavor, NeedsEncoding}
use Rattle.cesu8_text.specs.Reading.{IsStrictReading}
use Rattle.cesu8_text.proofs.StdUtf8.{IsUtf8Of_chars}
use Rattle.cesu8_text.specs.Class.{IsUnchangedUtf8}
use Rattle.cesu8_text.proofs.encoding.NeedsEncoding.{needs_by_bytes, encoding_is_bytes}

-- UTF-8 in which no byte changes is the encoding of its own characters.
pub unchanged_reading : (f : Flavor) (bytes text : List ℕ) → text ≡ bytes → IsUnchangedUtf8 f bytes →
    IsStrictReading f bytes (chars text)
unchanged_reading f bytes text equal unchanged =
    let needs_none : NeedsEncoding f (chars bytes) → ⊥ = λ needs. unchanged.1 ((needs_by_bytes f bytes unchanged.0).1 needs) in
    rw equal ((IsUtf8Of_chars bytes unchanged.0).0, encoding_is_bytes f bytes unchanged.0 needs_none)

-- If P does not hold, `false` decides it. This proves a clause that says when a result is borrowed,
-- for a result that was built.
pub never_borrowed : {P : Type 0} → ¬ P → IsTrue false ↔ P
never_borrowed never = ((λ borrowed. absurd (false≢true borrowed)), (λ holds. absurd (never holds)))
