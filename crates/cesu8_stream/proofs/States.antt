-- The state of what is left, for `state_of` of src/engine.rt. Exactly one of four facts is true of
-- it: it is empty, a character begins it, it is a part of a character, or no character can begin
-- it.
use Rattle.std.proofs.Common.{◌≡◌, ℕ, ◌<◌, ◌≤◌, List, [], ◌∷◌, refl, sym, subst, inl, arith, length, take, drop, append-nil}
use Rattle.std.proofs.lemmas.Grind.{common_steps}
use Rattle.cesu8_stream.specs.Written.{Begins, BeginsNone, NeverBegins, IsPartial}
use Rattle.cesu8_stream.specs.Streams.{IsStateOf}
use Rattle.cesu8_stream.specs.declared.progress.State.TheVariants.{InputEmpty, Incomplete, OutputFull, Malformed}
use Rattle.cesu8_stream.specs.Written.{IsWritten}
use Rattle.std.proofs.lemmas.List.{take-append-drop}
use Rattle.cesu8_stream.proofs.Joined.{Appends}
use Rattle.cesu8_stream.proofs.First.{Sizes, empty_begins_none, text_begins, begins_longer}

-- A character can begin what follows the empty input.
empty_may_begin : (from : List ℕ → List ℕ) (rest : List ℕ) → rest ≡ [] → NeverBegins from rest → ⊥
empty_may_begin from rest empty never =
    never (from (0x41 ∷ [])) 0x41 (record {
      scalar = inl (omega arith);
      rest = [];
      bytes_are = rw empty (sym (append-nil (from (0x41 ∷ []))));
    })

-- If no character can begin the rest, none begins it.
never_none : (from : List ℕ → List ℕ) (rest : List ℕ) → NeverBegins from rest → BeginsNone from rest
never_none from rest never c b = never [] c (subst (λ bs. Begins from bs c) (sym (append-nil rest)) b)

-- If nothing is left, the state is `InputEmpty`.
pub empty_state : (from : List ℕ → List ℕ) (rest : List ℕ) → Sizes from → rest ≡ [] → IsStateOf from rest InputEmpty
empty_state from rest sizes empty = record {
  input_empty = ((λ _. empty), (λ _. refl));
  incomplete = ((λ s. absurd (let e = s in cc)), (λ p. absurd (p.nonempty empty)));
  malformed = ((λ s. absurd (let e = s in cc)), (λ never. absurd (empty_may_begin from rest empty never)));
  output_full = (
    (λ s. absurd (let e = s in cc)),
    (λ b. absurd (empty_begins_none from sizes b.0 (subst (λ bs. Begins from bs b.0) empty b.1))),
  );
  few_left = (λ s. absurd (let e = s in cc));
}

-- If a character begins what is left, the state is `OutputFull`.
pub full_state : (from : List ℕ → List ℕ) (rest : List ℕ) (c : ℕ) → Sizes from → Begins from rest c →
    IsStateOf from rest OutputFull
full_state from rest c sizes b = record {
  input_empty = (
    (λ s. absurd (let e = s in cc)),
    (λ empty. absurd (empty_begins_none from sizes c (subst (λ bs. Begins from bs c) empty b))),
  );
  incomplete = ((λ s. absurd (let e = s in cc)), (λ p. absurd (p.none_begins c b)));
  malformed = ((λ s. absurd (let e = s in cc)), (λ never. absurd (never_none from rest never c b)));
  output_full = ((λ _. (c, b)), (λ _. refl));
  few_left = (λ s. absurd (let e = s in cc));
}

-- If a part of a character is left, the state is `Incomplete`.
pub partial_state : (from : List ℕ → List ℕ) (rest : List ℕ) → IsPartial from rest → length rest ≤ 5 →
    IsStateOf from rest Incomplete
partial_state from rest p few = record {
  input_empty = ((λ s. absurd (let e = s in cc)), (λ empty. absurd (p.nonempty empty)));
  incomplete = ((λ _. p), (λ _. refl));
  malformed = (
    (λ s. absurd (let e = s in cc)),
    (λ never. absurd (never p.may_begin.0 p.may_begin.1 p.may_begin.2)),
  );
  output_full = ((λ s. absurd (let e = s in cc)), (λ b. absurd (p.none_begins b.0 b.1)));
  few_left = (λ _. few);
}

-- If no character can begin what is left, the state is `Malformed`.
pub malformed_state : (from : List ℕ → List ℕ) (rest : List ℕ) → NeverBegins from rest →
    IsStateOf from rest Malformed
malformed_state from rest never = record {
  input_empty = ((λ s. absurd (let e = s in cc)), (λ empty. absurd (empty_may_begin from rest empty never)));
  incomplete = (
    (λ s. absurd (let e = s in cc)),
    (λ p. absurd (never p.may_begin.0 p.may_begin.1 p.may_begin.2)),
  );
  malformed = ((λ _. never), (λ _. refl));
  output_full = ((λ s. absurd (let e = s in cc)), (λ b. absurd (never_none from rest never b.0 b.1)));
  few_left = (λ s. absurd (let e = s in cc));
}

-- A list of no elements is empty.
pub empty_length : (bytes : List ℕ) → length bytes ≡ 0 → bytes ≡ []
empty_length [] none = refl
empty_length (b ∷ bytes) none = absurd (omega arith)

-- If the first bytes are a text, and not empty, a character begins the bytes.
pub valid_begins : (write : List ℕ → List ℕ) (bytes : List ℕ) (n : ℕ) → Appends write → write [] ≡ [] → 0 < n →
    n ≤ length bytes → (text : List ℕ) → IsWritten write (take n bytes) text → (c : ℕ) × Begins write bytes c
valid_begins write bytes n append empty some within text written =
    let front = text_begins write (take n bytes) text append empty (grind (arith, common_steps)) written in (
      front.0,
      subst (λ bs. Begins write bs front.0) (take-append-drop n bytes)
          (begins_longer write (take n bytes) (drop n bytes) front.0 front.1),
    )
