-- Calls in a row, over pieces of one input. The last three definitions are the clauses of the
-- function `laws::in_pieces`, which proves them and does nothing at run time.
use Rattle.std.specs.Prelude.{◌≡◌, ℕ, List, [], ◌∷◌, ◌++◌, Bool, take, drop}
use Rattle.std.specs.List.{flat_map}
use Rattle.simd_cesu8.specs.Text.{IsText, utf8}
use Rattle.simd_cesu8.specs.Encoding.{Flavor, encoding}
use Rattle.simd_cesu8.specs.Reading.{reading}
use Rattle.cesu8_stream.specs.Written.{IsWritten}
use Rattle.cesu8_stream.specs.Lossy.{MayFollow}

-- A call is given what the one before left, and then `piece`, which may be empty. It reads `read`
-- bytes of these, as the text `text`. `is_last` says that only empty pieces follow.
pub record Call : Type 0 where
  pub piece : List ℕ
  pub is_last : Bool
  pub read : ℕ
  pub text : List ℕ

-- All pieces, and all texts, joined.
abbrev pub pieces : List Call → List ℕ
pieces calls = flat_map (λ call. call.piece) calls

abbrev pub texts : List Call → List ℕ
texts calls = flat_map (λ call. call.text) calls

-- What the calls wrote, one after another, in some way of writing.
abbrev pub outputs : (List ℕ → List ℕ) → List Call → List ℕ
outputs to calls = flat_map (λ call. to call.text) calls

-- Calls in a row that convert what is well-formed: what each one reads is its text, as `from`
-- writes it. Before the first one `kept` is left, and after the last one `rest`.
abbrev pub ConvertInTurn : (List ℕ → List ℕ) → List ℕ → List Call → List ℕ → Type 0
ConvertInTurn from kept [] rest = kept ≡ rest
ConvertInTurn from kept (call ∷ calls) rest =
    IsWritten from (take call.read (kept ++ call.piece)) call.text
    × ConvertInTurn from (drop call.read (kept ++ call.piece)) calls rest

-- Calls in a row that replace damage. Whatever may follow what a call is given, the reading of all
-- is the call's text, followed by the reading of what is left. After the last piece only empty ones
-- come.
abbrev pub ReadInTurn : (List ℕ → List ℕ) → List ℕ → List Call → List ℕ → Type 0
ReadInTurn reading kept [] rest = kept ≡ rest
ReadInTurn reading kept (call ∷ calls) rest =
    ((more : List ℕ) → MayFollow call.is_last more →
    reading (kept ++ call.piece ++ more) ≡ call.text ++ reading (drop call.read (kept ++ call.piece) ++ more))
    × MayFollow call.is_last (pieces calls)
    × ReadInTurn reading (drop call.read (kept ++ call.piece)) calls rest

-- However the input is cut and however much each call reads, the texts joined are the text of the
-- pieces joined, but for what is left. What was written, joined, is its UTF-8.
abbrev pub StrictInPieces : Type 0
StrictInPieces = (f : Flavor) (calls : List Call) (rest : List ℕ) → ConvertInTurn (encoding f) [] calls rest →
    IsText (texts calls) × (pieces calls ≡ encoding f (texts calls) ++ rest)
    × (outputs utf8 calls ≡ utf8 (texts calls))

-- `StrictInPieces` for calls from UTF-8 to an encoding. What was written, joined, is the encoding
-- of the texts joined.
abbrev pub EncodedInPieces : Type 0
EncodedInPieces = (f : Flavor) (calls : List Call) (rest : List ℕ) → ConvertInTurn utf8 [] calls rest →
    IsText (texts calls) × (pieces calls ≡ utf8 (texts calls) ++ rest)
    × (outputs (encoding f) calls ≡ encoding f (texts calls))

-- The lossy reading of the pieces joined is the texts joined, and then the lossy reading of what is
-- left. What was written, joined, is the UTF-8 of the texts joined.
abbrev pub LossyInPieces : Type 0
LossyInPieces = (f : Flavor) (calls : List Call) (rest : List ℕ) → ReadInTurn (reading f) [] calls rest →
    (reading f (pieces calls) ≡ texts calls ++ reading f rest) × (outputs utf8 calls ≡ utf8 (texts calls))
