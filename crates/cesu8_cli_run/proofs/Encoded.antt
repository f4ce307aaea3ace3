-- The results of the command `encode`, from what the library promises, and the bytes of a string,
-- from what std promises.
use Rattle.std.proofs.Common.{◌≡◌, ℕ, List, ◌∙◌, sym, subst, ap, Ok}
use Rattle.std.specs.Str.{chars, IsUtf8}
use Rattle.simd_cesu8.specs.Text.{utf8, IsUtf8Of}
use Rattle.simd_cesu8.specs.Encoding.{Flavor, encoding, NeedsEncoding}
use Rattle.simd_cesu8.specs.Laws.{UnchangedString}
use Rattle.simd_cesu8.proofs.StdUtf8.{IsUtf8Of_chars, IsUtf8Of_chars_at, IsUtf8_utf8, chars_utf8}
use Rattle.cesu8_cli_run.specs.Command.{flavor_of}
use Rattle.cesu8_cli_run.specs.Answer.{IsEncodingAnswer, TakesNoMemory}
use Rattle.cesu8_cli_run.specs.declared.command.FlavorWord.{FlavorWord}
use Rattle.cesu8_cli_run.specs.declared.command.Command.TheVariants.{Encode}

-- If the word names the flavor g, the library's encoding in g is the right output.
pub encoded : (flavor : FlavorWord) (g : Flavor) (input text bytes : List ℕ) → flavor_of flavor ≡ g → IsUtf8Of text input →
    bytes ≡ encoding g text → IsEncodingAnswer (flavor_of flavor) input (Ok bytes)
encoded flavor g input text bytes is u e = (text, u, e ∙ ap (λ f. encoding f text) (sym is))

-- A text needs no encoding in the flavor g that the word names if the command promises to allocate
-- nothing for its UTF-8. Then the library borrows it, so the call cannot fail for want of memory.
pub needs_none : UnchangedString → (flavor : FlavorWord) (g : Flavor) (input text : List ℕ) → flavor_of flavor ≡ g →
    IsUtf8Of text input → TakesNoMemory (Encode flavor) input → NeedsEncoding g text → ⊥
needs_none unchanged flavor g input text is u none need =
    let is_utf8 : IsUtf8 input = subst IsUtf8 u.1 (IsUtf8_utf8 text u.0) in
    let same : text ≡ chars input = sym (chars_utf8 text u.0) ∙ ap chars u.1 in
    (unchanged (flavor_of flavor) input is_utf8).1 (is_utf8, none is_utf8)
    (subst (NeedsEncoding (flavor_of flavor)) same (subst (λ f. NeedsEncoding f text) (sym is) need))

-- The bytes of a string are the UTF-8 of its characters.
pub text_bytes : (text bytes : List ℕ) → IsUtf8 text → bytes ≡ text → bytes ≡ utf8 (chars text)
text_bytes text bytes h e = e ∙ sym (IsUtf8Of_chars text h).1

-- What the proof of `input_text` uses to show whether the input is the UTF-8 of a text.
pub ruleset whether_utf8 = (IsUtf8Of_chars_at, IsUtf8_utf8)
