-- The contracts of the stream calls in Rattle imply those of the exports, which return a status for
-- the state.
use Rattle.std.proofs.Common.{◌≡◌, ◌↔◌, ℕ, ◌<◌, List, [], ◌∷◌, Bool, refl, ap, inl, inr, arith}
use Rattle.cesu8_stream.specs.Streams as stream
use Rattle.cesu8_stream.specs.Lossy as stream_lossy
use Rattle.cesu8_stream.specs.declared.progress.Progress as stream_progress
use Rattle.cesu8_stream.specs.declared.progress.State.{State}
use Rattle.cesu8_stream.specs.declared.progress.State.TheVariants.{InputEmpty, Incomplete, OutputFull, Malformed}
use Rattle.cesu8_c.specs.declared.answer.TheConstants.{OK, INCOMPLETE, FULL}
use Rattle.cesu8_c.specs.Answers.{IsAmong}
use Rattle.cesu8_c.specs.Pieces.{status_of, progress_for, ConvertsPiece, DecodesPiece}

-- Different states have different statuses: `malformed`, the status for `Malformed`, is one of 1 to
-- 5, and the others are 0, 6 and 7.
same_state : (malformed : ℕ) (state other : State) → 0 < malformed → malformed < 6 →
    status_of malformed state ≡ status_of malformed other → state ≡ other
same_state malformed state other positive small same = grind arith

-- So if a state is returned exactly when a fact holds, its status is.
status_for : (fact : Type 0) (malformed : ℕ) (state returned : State) → 0 < malformed → malformed < 6 →
    (state ≡ returned) ↔ fact → (status_of malformed state ≡ status_of malformed returned) ↔ fact
status_for fact malformed state returned positive small is = (
  (λ same. is.0 (same_state malformed state returned positive small same)),
  (λ holds. ap (status_of malformed) (is.1 holds)),
)

-- If a stream call that converts well-formed input meets its contract, so does its export.
pub converts_piece : (from to : List ℕ → List ℕ) (widest malformed : ℕ) (bytes : List ℕ)
    (progress : stream_progress.Progress) (old new : List ℕ) → 0 < malformed → malformed < 6 →
    stream.ConvertsPiece from to widest bytes progress old new →
    ConvertsPiece from to widest malformed bytes (progress_for malformed progress) old new
converts_piece from to widest malformed bytes progress old new positive small piece = record {
  text = piece.text;
  within = piece.within;
  ok = status_for _ malformed progress.state InputEmpty positive small piece.input_empty;
  incomplete = status_for _ malformed progress.state Incomplete positive small piece.incomplete;
  full = status_for _ malformed progress.state OutputFull positive small piece.output_full;
  never_begins = status_for _ malformed progress.state Malformed positive small piece.malformed;
  statuses = among progress.state;
  few_left = λ s. piece.few_left (same_state malformed progress.state Incomplete positive small s);
  moves = λ wide s. piece.progress wide (same_state malformed progress.state OutputFull positive small s);
}
  where
    among : (state : State) → IsAmong (OK ∷ INCOMPLETE ∷ FULL ∷ malformed ∷ []) (status_of malformed state)
    among InputEmpty = inl refl
    among Incomplete = inr (inl refl)
    among OutputFull = inr (inr (inl refl))
    among Malformed = inr (inr (inr (inl refl)))

-- If a stream call that replaces ill-formed bytes meets its contract, so does its export. The state
-- of such a call is never `Malformed`.
pub decodes_piece : (from reading : List ℕ → List ℕ) (is_last : Bool) (malformed : ℕ) (bytes : List ℕ)
    (progress : stream_progress.Progress) (old new : List ℕ) → 0 < malformed → malformed < 6 →
    stream_lossy.DecodesPiece from reading is_last bytes progress old new →
    DecodesPiece from reading is_last bytes (progress_for malformed progress) old new
decodes_piece from reading is_last malformed bytes progress old new positive small piece = record {
  text = piece.text;
  within = piece.within;
  ok = status_for _ malformed progress.state InputEmpty positive small piece.input_empty;
  incomplete = status_for _ malformed progress.state Incomplete positive small piece.incomplete;
  full = status_for _ malformed progress.state OutputFull positive small piece.output_full;
  statuses = among progress.state piece.malformed;
  few_left = λ s. piece.few_left (same_state malformed progress.state Incomplete positive small s);
  moves = λ wide s. piece.progress wide (same_state malformed progress.state OutputFull positive small s);
}
  where
    among : (state : State) → (state ≡ Malformed → ⊥) → IsAmong (OK ∷ INCOMPLETE ∷ FULL ∷ []) (status_of malformed state)
    among InputEmpty never = inl refl
    among Incomplete never = inr (inl refl)
    among OutputFull never = inr (inr (inl refl))
    among Malformed never = absurd (never refl)
