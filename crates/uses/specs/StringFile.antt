-- Files of Java strings, one after another. The form of a text is its Java string: the count of its
-- MUTF-8, in two bytes, and then the MUTF-8.
use Rattle.std.specs.Prelude.{◌≡◌, ◌++◌, ℕ, List, length}
use Rattle.java_text.specs.Laws.{AreReadInTurn}

-- The source consists of the forms of `count` texts, which were appended to the target.
pub record CopiesStrings (count : ℕ) (source before after : List ℕ) : Type 0 where
  pub texts : List (List ℕ)
  pub are_read : AreReadInTurn source texts
  pub counted : count ≡ length texts
  pub gained : after ≡ before ++ source

-- The bytes are not a sequence of forms.
abbrev pub NoneAreRead : List ℕ → Type 0
NoneAreRead source = (texts : List (List ℕ)) → ¬ (AreReadInTurn source texts)
