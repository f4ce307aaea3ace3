-- What is written for a window of bytes is a chunk of their text, or an ill-formed byte in the
-- window is a fault of the bytes. `decoder/WrittenWindows` cites this.
use Rattle.std.proofs.Common.{◌≡◌, ℕ, ◌+◌, ◌<◌, ◌≤◌, true, false, List, ◌∷◌, sym, ◌∙◌, subst, arith, length, take, drop}
use Rattle.std.specs.Prelude.{slice_index}
use Rattle.std.proofs.lemmas.Bool.Decides.{nat_tests}
use Rattle.std.proofs.lemmas.List.{take-append-drop}
use Rattle.cesu8_text.specs.Text.{utf8}
use Rattle.cesu8_text.specs.Encoding.{Flavor}
use Rattle.cesu8_text.specs.Reading.{reading, IsStrictReading}
use Rattle.cesu8_text.specs.Laws.{NoneCrosses}
use Rattle.cesu8_bytes.specs.declared.strictness.Strictness.{Strictness}
use Rattle.cesu8_bytes.specs.declared.strictness.Strictness.TheVariants.{Lossy}
use Rattle.cesu8_decode.specs.DecodedOffsets.{decoded, is_ill_formed_at}
use Rattle.cesu8_text.proofs.reading.LossyTexts.{reading_is_text}
use Rattle.cesu8_text.proofs.reading.Splits.{split}
use Rattle.cesu8_decode.proofs.by_offset.WindowOffsets.{is_boundary_at, Agree, follows_zeros, boundary_agrees, ill_formed_agrees, decoded_agrees}
use Rattle.cesu8_decode.proofs.by_offset.CharacterBoundaries.{boundary_of_zeros, none_crosses_boundary}
use Rattle.cesu8_decode.proofs.by_offset.IllFormed.{IsChunk, HasFault, chunk_of_text, uncovered_fault, not_covered_where, read_before}
use Rattle.cesu8_decode.proofs.by_offset.DecodedText.{IsPadded, decoded_between}

-- ---- chunks

-- The lossy reading of the bytes before a boundary is a chunk, in lossy decoding.
first_chunk : (f : Flavor) (bytes : List ℕ) (n : ℕ) → NoneCrosses f (take n bytes) (drop n bytes) →
    IsChunk f Lossy bytes (drop n bytes) (utf8 (reading f (take n bytes)))
first_chunk f bytes n crosses = grind (arith, nat_tests, reading_is_text, split, take-append-drop {A = ℕ})

-- The lossy reading is also a chunk in strict decoding, if it is the strict reading of these bytes.
strict_first_chunk : (f : Flavor) (which : Strictness) (bytes : List ℕ) (n : ℕ) → IsStrictReading f (take n bytes) (reading f (take n bytes)) →
    IsChunk f which bytes (drop n bytes) (utf8 (reading f (take n bytes)))
strict_first_chunk f which bytes n reads = grind (arith, nat_tests, chunk_of_text, take-append-drop)

-- ---- chunks by windows

-- A window that begins with five zeros, the first n bytes and five more. These decide all
-- characters that begin before n. Missing bytes count as zeros. What the definitions say of the
-- window at offset i is about its byte i + 5, so here about byte i of the bytes. It depends on ten
-- bytes (a boundary) or eleven (an ill-formed byte).
abbrev pub IsPaddedFor : ℕ → List ℕ → List ℕ → Type 0
IsPaddedFor n bytes window =
    (k : ℕ) → k < n + 10 → slice_index window k ≡ slice_index (0 ∷ 0 ∷ 0 ∷ 0 ∷ 0 ∷ bytes) k

-- A window of all bytes is padded for each n.
pub padded_for : (bytes window : List ℕ) (n : ℕ) → IsPadded bytes window → IsPaddedFor n bytes window
padded_for bytes window n padded k small = padded k

module _ (f : Flavor) (bytes window : List ℕ) (n : ℕ) (padded : IsPaddedFor n bytes window) where
  -- The window of all bytes.
  abbrev all : List ℕ
  all = 0 ∷ 0 ∷ 0 ∷ 0 ∷ 0 ∷ bytes

  agrees : (i m : ℕ) → i + m ≤ n + 10 → Agree window all i i m
  agrees i m fits k small = padded (i + k) (omega arith)

  module _ (fits : n ≤ length bytes) where
    -- An ill-formed byte is a fault of the bytes.
    pub fault_at : (i : ℕ) → i < n → is_ill_formed_at f window i ≡ true → HasFault f bytes
    fault_at i inside ill_formed =
        uncovered_fault f bytes i (omega arith)
        (not_covered_where f all bytes (follows_zeros bytes) (boundary_of_zeros f bytes) i (omega arith)
        (sym (ill_formed_agrees f window all i i (agrees i 11 (omega arith))) ∙ ill_formed))

    module _ (boundary : is_boundary_at f window n ≡ true) where
      all_boundary : is_boundary_at f all n ≡ true
      all_boundary = sym (boundary_agrees f window all n n (agrees n 10 (omega arith))) ∙ boundary

      -- No character crosses the end of the window.
      none_crosses_window : NoneCrosses f (take n bytes) (drop n bytes)
      none_crosses_window = none_crosses_boundary f all bytes n (follows_zeros bytes) fits all_boundary

      -- What is written for the window is the UTF-8 of the lossy reading of its bytes.
      decoded_window : decoded f window 0 n ≡ utf8 (reading f (take n bytes))
      decoded_window =
          decoded_agrees f window all 0 0 n (agrees 0 (n + 10) (omega arith))
          ∙ decoded_between f all bytes n (follows_zeros bytes) fits (boundary_of_zeros f bytes) all_boundary

      -- If none of its bytes is ill-formed, this is their strict reading.
      strict_window : ((i : ℕ) → i < n → is_ill_formed_at f window i ≡ false) → IsStrictReading f (take n bytes) (reading f (take n bytes))
      strict_window fine =
          read_before f all bytes (follows_zeros bytes) (boundary_of_zeros f bytes) n fits none_crosses_window
          (λ i inside. sym (ill_formed_agrees f window all i i (agrees i 11 (omega arith))) ∙ fine i inside)

      -- What is written for the window is a chunk in lossy decoding.
      pub lossy_chunk : IsChunk f Lossy bytes (drop n bytes) (decoded f window 0 n)
      lossy_chunk = subst (IsChunk f Lossy bytes (drop n bytes)) (sym decoded_window) (first_chunk f bytes n none_crosses_window)

      -- It is also a chunk in strict decoding, if no byte of the window is ill-formed.
      pub strict_chunk : (which : Strictness) → ((i : ℕ) → i < n → is_ill_formed_at f window i ≡ false) → IsChunk f which bytes (drop n bytes) (decoded f window 0 n)
      strict_chunk which fine =
          subst (IsChunk f which bytes (drop n bytes)) (sym decoded_window) (strict_first_chunk f which bytes n (strict_window fine))
