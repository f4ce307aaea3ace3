-- Some byte of the word is 00, or F0 to F7 (hexadecimal), if and only if `zero_marks` finds a 00 or
-- `contains_four` finds one of the others.
use Rattle.std.specs.Int.{to_le_bytes, w64}
use Rattle.std.specs.List.{Any}
use Rattle.std.proofs.Common.{◌≡◌, ℕ, List, not, ap, arith}
use Rattle.std.proofs.lemmas.Bool.{ne_eqb}
use Rattle.std.proofs.lemmas.Bool.Decides.{nat_tests}
use Rattle.cesu8_text.specs.Class.{IsFour, IsNullFour}
use Rattle.cesu8_bytes.proofs.words.contains_null_or_four.Goals as goal

-- If some byte has a property, and each byte with this property is 00 or F0 to F7, some byte is 00
-- or F0 to F7.
counts : (P : ℕ → Type 0) → ((byte : ℕ) → P byte → IsNullFour byte) → (bytes : List ℕ) → Any P bytes → Any IsNullFour bytes
counts P is bytes (k, byte, inside, same, has) = (k, byte, inside, same, is byte has)

other_is_four : (byte : ℕ) → ¬ (byte ≡ 0) → IsNullFour byte → IsFour byte
other_is_four byte other found = grind (arith, nat_tests)

without_null : (bytes : List ℕ) → (Any (λ byte. byte ≡ 0) bytes → ⊥) → Any IsNullFour bytes → Any IsFour bytes
without_null bytes none (k, byte, inside, same, found) =
    (k, byte, inside, same, other_is_four byte (λ null. none (k, byte, inside, same, null)) found)

pub returns-then-zero_marks-ne0 : goal.returns-then-zero_marks-ne0
returns-then-zero_marks-ne0 c = (
  (λ t. counts (λ byte. byte ≡ 0) (λ byte null. grind (arith, nat_tests)) (to_le_bytes w64 c.args.word) (c.zero_marks.ensures.0 c.if-zero_marks-ne0.true)),
  (λ some. ap not (ne_eqb _ _ c.if-zero_marks-ne0.true)),
)

pub returns-else-zero_marks-ne0 : goal.returns-else-zero_marks-ne0
returns-else-zero_marks-ne0 c = (
  (λ t. counts IsFour (λ byte four. grind (arith, nat_tests)) (to_le_bytes w64 c.args.word) (c.contains_four.ensures.0 t)),
  (λ some. c.contains_four.ensures.1 (without_null (to_le_bytes w64 c.args.word) (λ null. c.zero_marks.ensures.1 null c.if-zero_marks-ne0.false) some)),
)
