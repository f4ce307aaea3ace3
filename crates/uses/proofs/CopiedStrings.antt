-- The loop of `append_strings` (src/string_file.rt): what it has copied of a file of strings, and
-- what is left of the file. The form of a text (`java_form`) is the length of its MUTF-8, as two
-- bytes, followed by the MUTF-8.
use Rattle.std.proofs.Common.{◌≡◌, ℕ, ◌+◌, ◌*◌, ◌≤◌, List, [], ◌∷◌, ◌++◌, length, ap, ◌∙◌, arith, append-nil, append_assoc, length-append}
use Rattle.std.specs.List.{flat_map}
use Rattle.std.proofs.lemmas.Grind.{flat_map-append}
use Rattle.java_text.specs.declared.fault.ReadFault.{ReadFault}
use Rattle.java_text.specs.declared.fault.ReadFault.TheVariants.{Truncated, Invalid, Memory}
use Rattle.java_text.specs.Fault.{IfRefused}
use Rattle.java_text.specs.Form.{java_form, BeginsWithForm, NoFormBegins}
use Rattle.java_text.specs.Laws.{BeginsWithForms, OneMore, NoneFollows, Bounds}
use Rattle.uses.specs.StringFile.{NoneAreRead}

-- The forms of some texts were read from the source and appended to the target, which was `before`
-- and is `now`. The rest of the source is left. The clause `left` shows that the count does not
-- overflow: each form has at least two bytes.
pub record CopiedSoFar (source rest before now : List ℕ) (count : ℕ) : Type 0 where
  pub texts : List (List ℕ)
  pub begins : BeginsWithForms source texts rest
  pub gained : now ≡ before ++ flat_map java_form texts
  pub counted : count ≡ length texts
  pub left : 2 * count + length rest ≤ length source

-- A step of the loop: one more form was read and appended.
pub one_copied : Bounds → OneMore → {source rest after before now new text : List ℕ} {count : ℕ} →
    CopiedSoFar source rest before now count → BeginsWithForm rest text after →
    new ≡ now ++ java_form text → CopiedSoFar source after before new (count + 1)
one_copied bounds one_more {source} {rest} {after} {before} {now} {new} {text} so_far begins wrote =
    let done = flat_map java_form so_far.texts in
    let forms : flat_map java_form (so_far.texts ++ text ∷ []) ≡ done ++ java_form text =
    simp (flat_map-append, append-nil) in
    record {
      texts = so_far.texts ++ text ∷ [];
      begins = one_more source so_far.texts rest text after so_far.begins begins;
      gained = wrote ∙ rw (forms, so_far.gained) (append_assoc before done (java_form text));
      counted = omega (arith, so_far.counted, length-append so_far.texts (text ∷ []));
      left = omega (
        arith,
        so_far.left,
        (bounds text begins.fits).1,
        ap length begins.bytes_are,
        length-append (java_form text) after,
      );
    }

-- If a nonempty rest begins with no form, the source is not a sequence of forms. So an error that
-- says this of the rest also says it of the source.
pub none_are_read : NoneFollows → {source rest before now : List ℕ} {count : ℕ} (fault : ReadFault) →
    CopiedSoFar source rest before now count → (rest ≡ [] → ⊥) →
    IfRefused fault (NoFormBegins rest) → IfRefused fault (NoneAreRead source)
none_are_read none_follows {source} {rest} fault so_far some_left none = by fault none
  where
    none_read : NoFormBegins rest → NoneAreRead source
    none_read none_begins texts read =
        some_left ((none_follows source so_far.texts rest so_far.begins none_begins texts).0 read).1

    by : (fault : ReadFault) → IfRefused fault (NoFormBegins rest) → IfRefused fault (NoneAreRead source)
    by Truncated none = none_read none
    by (Invalid error) none = none_read none
    by Memory none = tt
