-- A log loses bytes exactly when it is no encoding, for `repair_log`. A cutting divides the log
-- into characters and replaced bytes, and its cost is the number of replaced bytes. The log loses
-- bytes if every cutting of it replaces some.
use Rattle.std.proofs.Common.{◌≡◌, ℕ, List, [], ◌∷◌, ◌++◌, map, refl, sym, ap, ◌∙◌, subst, arith}
use Rattle.simd_cesu8.specs.Text.{IsText}
use Rattle.simd_cesu8.specs.Encoding.{Flavor, Cesu8, encoding}
use Rattle.simd_cesu8.specs.Reading.{IsStrictReading, HasNoStrictReading}
use Rattle.simd_cesu8.specs.Cutting.{Piece, Character, Replaced, IsCutting, ArePieces, bytes_of, text_of, cost}
use Rattle.simd_cesu8.specs.Laws.{Concat}
use Rattle.uses.specs.Repair.{LosesBytes}

-- The encoding of the empty text is empty.
nothing : (f : Flavor) → encoding f [] ≡ []
unfolding encoding
nothing f = refl

-- The bytes of a cutting that replaces nothing are the encoding of its text.
read_from_free : Concat → (pieces : List Piece) → ArePieces pieces → cost pieces ≡ 0 →
    IsStrictReading Cesu8 (bytes_of Cesu8 pieces) (text_of pieces)
read_from_free concat [] are free = (tt, nothing Cesu8)
read_from_free concat (Character c ∷ pieces) are free =
    let rest = read_from_free concat pieces are.1 free in (
      (are.0, rest.0),
      concat Cesu8 (c ∷ []) (text_of pieces)
          ∙ ap (λ bytes. encoding Cesu8 (c ∷ []) ++ bytes) rest.1,
    )
read_from_free concat (Replaced byte ∷ pieces) are free = absurd (omega arith)

-- So a log that is no encoding loses bytes.
pub loses_bytes : Concat → (log : List ℕ) → HasNoStrictReading Cesu8 log → LosesBytes log
loses_bytes concat log none pieces cuts =
    let some : cost pieces ≡ 0 → ⊥ =
    λ free. none (text_of pieces) (subst (λ bytes. IsStrictReading Cesu8 bytes (text_of pieces)) cuts.1
    (read_from_free concat pieces cuts.0 free)) in
    omega arith

-- The characters of a text are a cutting of its encoding that replaces nothing.
characters_cut : Concat → (text : List ℕ) → IsText text →
    IsCutting Cesu8 (encoding Cesu8 text) (map Character text) × (cost (map Character text) ≡ 0)
characters_cut concat [] is_text = ((tt, sym (nothing Cesu8)), refl)
characters_cut concat (c ∷ text) is_text =
    let rest = characters_cut concat text is_text.1 in (
      (
        (is_text.0, rest.0.0),
        ap (λ bytes. encoding Cesu8 (c ∷ []) ++ bytes) rest.0.1
            ∙ sym (concat Cesu8 (c ∷ []) text),
      ),
      rest.1,
    )

-- So an encoding loses no bytes.
pub loses_none : Concat → (log text : List ℕ) → IsStrictReading Cesu8 log text → LosesBytes log → ⊥
loses_none concat log text reads loses =
    let characters = characters_cut concat text reads.0 in
    let some = loses (map Character text) (subst (λ bytes. IsCutting Cesu8 bytes (map Character text))
    reads.1 characters.0) in
    omega (arith, some, characters.1)
