-- What the loops of the engine (src/engine.rt) convert, step by step. After some steps, n (or m)
-- bytes of the input are read, and w bytes of the buffer are written.
use borrow.Rule.Slice.PartMut.{put_mid}
use Rattle.std.proofs.Common.{◌≡◌, ℕ, ◌+◌, ◌-◌, ◌<◌, ◌≤◌, ◌⊎◌, List, [], ◌∷◌, ◌++◌, refl, sym, ap, ◌∙◌, inl, inr, arith, length, take, drop}
use Rattle.std.proofs.lemmas.Grind.{common_steps}
use Rattle.std.proofs.lemmas.Bool.{cases_lt}
use Rattle.cesu8_stream.specs.Written.{Begins, Converts}
use Rattle.cesu8_stream.specs.Streams.{IsStateOf, ConvertsPiece}
use Rattle.cesu8_stream.specs.declared.progress.Progress.{Progress}
use Rattle.cesu8_stream.specs.declared.progress.State.{State}
use Rattle.cesu8_stream.specs.declared.progress.State.TheVariants.{OutputFull}
use Rattle.cesu8_stream.proofs.Joined.{Appends, joined, drop_more}
use Rattle.cesu8_stream.proofs.First.{Sizes}

-- What is known of a conversion from one way of writing to another, in which a character has at
-- most `widest` bytes.
pub record IsConversion (from to : List ℕ → List ℕ) (widest : ℕ) : Type 0 where
  pub append_from : Appends from
  pub append_to : Appends to
  pub from_empty : from [] ≡ []
  pub to_empty : to [] ≡ []
  pub sizes : Sizes from
  pub wide : (c : ℕ) → length (to (c ∷ [])) ≤ widest

-- Replacing the buffer from `start` on by `new` gives the bytes before `start`, and then `new`.
pub to_end : (start : ℕ) (buf new : List ℕ) → put_mid start (length buf - start) buf new ≡ take start buf ++ new
to_end start buf new = grind (arith, common_steps)

-- A text of no bytes is empty.
pub empty_text : (write : List ℕ → List ℕ) (text : List ℕ) → Appends write → Sizes write → write text ≡ [] → text ≡ []
empty_text write [] append sizes none = refl
empty_text write (c ∷ text) append sizes none =
    let both : write (c ∷ []) ++ write text ≡ [] = sym (append (c ∷ []) text) ∙ none in
    let long = ap length both in
    let some = sizes.some c in
    absurd (grind (arith, common_steps))

-- What reads nothing writes nothing.
pub nothing_moved : (from to : List ℕ → List ℕ) (widest : ℕ) (bytes old new : List ℕ) (n w : ℕ) → IsConversion from to widest →
    n ≡ 0 → Converts from to bytes n w old new → (w ≡ 0) × (new ≡ old)
nothing_moved from to widest bytes old new n w facts zero moves =
    let none : from moves.0 ≡ [] = moves.1.1 ∙ ap (λ k. take k bytes) zero in
    let empty = empty_text from moves.0 facts.append_from facts.sizes none in
    let written : to moves.0 ≡ [] = ap to empty ∙ facts.to_empty in
    let w_zero : w ≡ 0 = moves.2.0 ∙ ap length written in
    (w_zero, moves.2.1 ∙ (λ i. written i ++ drop (w_zero i) old))

-- When the loop ends, the contract of the call holds: n bytes were converted, and `state` says why
-- no more.
pub ended : (from to : List ℕ → List ℕ) (widest : ℕ) (bytes old new : List ℕ) (n w : ℕ) (state : State) →
    IsConversion from to widest → n ≤ length bytes → Converts from to bytes n w old new →
    IsStateOf from (drop n bytes) state →
    ((c : ℕ) → Begins from (drop n bytes) c → length old - w < length (to (c ∷ []))) →
    ConvertsPiece from to widest bytes (record { read = n; written = w; state = state }) old new
ended from to widest bytes old new n w state facts within moves why stuck = record {
  text = moves;
  within = within;
  input_empty = (
    (λ s. let e : length (drop n bytes) ≡ 0 = ap length (why.input_empty.0 s) in grind (arith, common_steps)),
    (λ all. why.input_empty.1 (grind (arith, common_steps))),
  );
  incomplete = why.incomplete;
  malformed = why.malformed;
  output_full = (
    (λ s. let b = why.output_full.0 s in (b.0, b.1, stuck b.0 b.1)),
    (λ longer. why.output_full.1 (longer.0, longer.1)),
  );
  few_left = (λ s. let few = why.few_left s in grind (arith, common_steps));
  progress = (λ room s. progress room s);
}
  where
    progress : widest ≤ length old → state ≡ OutputFull → 0 < n
    progress room s = by (cases_lt 0 n)
      where
        by : (0 < n) ⊎ (n ≤ 0) → 0 < n
        by (inl some) = some
        by (inr none) =
            let zero : n ≡ 0 = omega arith in
            let nothing = nothing_moved from to widest bytes old new n w facts zero moves in
            let b = why.output_full.0 s in
            let long = stuck b.0 b.1 in
            let wide = facts.wide b.0 in
            let w_zero = nothing.0 in
            absurd (omega arith)

-- A step, and then a call on the rest of the bytes, are a call on all of them.
pub continued : (from to : List ℕ → List ℕ) (widest : ℕ) (bytes old mid new : List ℕ) (m w : ℕ) (rest : Progress) →
    IsConversion from to widest → m ≤ length bytes → length mid ≡ length old → Converts from to bytes m w old mid →
    ConvertsPiece from to widest (drop m bytes) rest (drop w mid) new →
    ConvertsPiece from to widest bytes (record { read = m + rest.read; written = w + rest.written; state = rest.state }) old (take w mid ++ new)
continued from to widest bytes old mid new m w rest facts within same first second =
    let left : length (drop m bytes) ≡ length bytes - m = grind (arith, common_steps) in
    let room : length (drop w mid) - rest.written ≡ length old - (w + rest.written) = grind (arith, common_steps) in
    let after = drop_more m rest.read bytes in
    let inside = second.within in
    record {
      text = joined from to bytes old mid new m w rest.read rest.written facts.append_from facts.append_to first second.text;
      within = omega arith;
      input_empty = (
        (λ s. let all = second.input_empty.0 s in omega arith),
        (λ all. second.input_empty.1 (omega arith)),
      );
      incomplete = rw after second.incomplete;
      malformed = rw after second.malformed;
      output_full = rw (after, sym room) second.output_full;
      few_left = (λ s. let few = second.few_left s in omega arith);
      progress = (λ wide s. progress wide s);
    }
  where
    progress : widest ≤ length old → rest.state ≡ OutputFull → 0 < m + rest.read
    progress wide s = by (cases_lt 0 m)
      where
        by : (0 < m) ⊎ (m ≤ 0) → 0 < m + rest.read
        by (inl some) = omega arith
        by (inr none) =
            let zero : m ≡ 0 = omega arith in
            let nothing = nothing_moved from to widest bytes old mid m w facts zero first in
            let w_zero = nothing.0 in
            let space : widest ≤ length (drop w mid) = grind (arith, common_steps) in
            let more = second.progress space s in
            omega arith
