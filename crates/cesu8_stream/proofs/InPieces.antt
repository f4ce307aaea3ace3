-- The law of calls in a row, which `laws::in_pieces` ensures. `kept` is what earlier calls have
-- left of the input, and `rest` is what the last one leaves.
use Rattle.std.proofs.Common.{◌≡◌, ℕ, List, [], ◌∷◌, ◌++◌, refl, sym, ap, ◌∙◌, take, drop, append-nil, append_assoc}
use Rattle.std.proofs.lemmas.List.{take-append-drop}
use Rattle.simd_cesu8.specs.Text.{IsText, utf8}
use Rattle.simd_cesu8.specs.Encoding.{encoding}
use Rattle.simd_cesu8.specs.Reading.{reading}
use Rattle.simd_cesu8.specs.Laws.{Concat}
use Rattle.cesu8_stream.specs.Laws.{Call, pieces, texts, outputs, ConvertInTurn, ReadInTurn, StrictInPieces, EncodedInPieces, LossyInPieces}
use Rattle.cesu8_stream.proofs.Characters.{encoding_empty}
use Rattle.cesu8_stream.proofs.Joined.{Appends, joined_text}
use Rattle.cesu8_stream.proofs.Utf8.{utf8_appends}

-- What the calls wrote, joined, is what is written of the texts, joined.
outputs_are : (to : List ℕ → List ℕ) → Appends to → to [] ≡ [] → (calls : List Call) → outputs to calls ≡ to (texts calls)
outputs_are to append empty [] = sym empty
outputs_are to append empty (call ∷ calls) =
    ap (λ bs. to call.text ++ bs) (outputs_are to append empty calls) ∙ sym (append call.text (texts calls))

-- The texts that were converted, joined, are a text.
texts_are : (from : List ℕ → List ℕ) (kept : List ℕ) (calls : List Call) (rest : List ℕ) → ConvertInTurn from kept calls rest →
    IsText (texts calls)
texts_are from kept [] rest turn = tt
texts_are from kept (call ∷ calls) rest turn =
    joined_text call.text (texts calls) turn.0.0
    (texts_are from (drop call.read (kept ++ call.piece)) calls rest turn.1)

-- The pieces, joined, are what is written of the texts, and then what is left.
pieces_are : (from : List ℕ → List ℕ) → Appends from → from [] ≡ [] → (kept : List ℕ) (calls : List Call) (rest : List ℕ) →
    ConvertInTurn from kept calls rest → kept ++ pieces calls ≡ from (texts calls) ++ rest
pieces_are from append empty kept [] rest turn = append-nil kept ∙ turn ∙ ap (λ bs. bs ++ rest) (sym empty)
pieces_are from append empty kept (call ∷ calls) rest turn =
    let given = kept ++ call.piece in
    let left = drop call.read given in
    sym (append_assoc kept call.piece (pieces calls))
    ∙ ap (λ bs. bs ++ pieces calls) (sym (take-append-drop call.read given))
    ∙ append_assoc (take call.read given) left (pieces calls)
    ∙ (λ i. sym turn.0.1 i ++ pieces_are from append empty left calls rest turn.1 i)
    ∙ sym (append_assoc (from call.text) (from (texts calls)) rest)
    ∙ ap (λ bs. bs ++ rest) (sym (append call.text (texts calls)))

-- The lossy reading of the pieces, joined, is the texts, and then the reading of what is left.
readings_are : (reading : List ℕ → List ℕ) (kept : List ℕ) (calls : List Call) (rest : List ℕ) →
    ReadInTurn reading kept calls rest → reading (kept ++ pieces calls) ≡ texts calls ++ reading rest
readings_are reading kept [] rest turn = ap reading (append-nil kept ∙ turn)
readings_are reading kept (call ∷ calls) rest turn =
    let left = drop call.read (kept ++ call.piece) in
    ap reading (sym (append_assoc kept call.piece (pieces calls)))
    ∙ turn.0 (pieces calls) turn.1
    ∙ ap (λ bs. call.text ++ bs) (readings_are reading left calls rest turn.2)
    ∙ sym (append_assoc call.text (texts calls) (reading rest))

pub strict_in_pieces : Concat → StrictInPieces
strict_in_pieces concat f calls rest turn = (
  texts_are (encoding f) [] calls rest turn,
  pieces_are (encoding f) (concat f) (encoding_empty f) [] calls rest turn,
  outputs_are utf8 utf8_appends refl calls,
)

pub encoded_in_pieces : Concat → EncodedInPieces
encoded_in_pieces concat f calls rest turn = (
  texts_are utf8 [] calls rest turn,
  pieces_are utf8 utf8_appends refl [] calls rest turn,
  outputs_are (encoding f) (concat f) (encoding_empty f) calls,
)

pub lossy_in_pieces : LossyInPieces
lossy_in_pieces f calls rest turn = (
  readings_are (reading f) [] calls rest turn,
  outputs_are utf8 utf8_appends refl calls,
)
