-- UTF-8 that is divided between two characters, and UTF-8 with zeros after it. `utf8.rt` tests
-- bytes in such parts, and pads the last bytes of a part with zeros.
use Rattle.std.proofs.Common.{◌≡◌, ℕ, ◌+◌, ◌-◌, ◌<◌, ◌≤◌, ◌↔◌, ◌⊎◌, ◌∙◌, ⊎_elim, List, [], ◌∷◌, ◌++◌, arith, get_or, length, length-append, replicate, subst, sym, take, drop}
use Rattle.std.specs.Str.{IsUtf8, IsCharBoundary, chars}
use Rattle.std.proofs.Math.Seq.{take-append_seam}
use Rattle.std.proofs.lemmas.Bool.{cases_lt, cases_eq}
use Rattle.std.proofs.lemmas.Bool.Decides.{nat_tests}
use Rattle.std.proofs.lemmas.List.{get_or-append-add, get_or_past, take-append-drop}
use Rattle.std.proofs.lemmas.Str.{IsUtf8-append, IsUtf8-drop, IsUtf8-take, IsUtf8-from_ascii, IsCharBoundary-start, IsCharBoundary-from_take}
use Rattle.cesu8_text.specs.Patterns.{IsContinuation}
use Rattle.cesu8_text.specs.Text.{IsText, utf8_of, utf8}
use Rattle.cesu8_text.proofs.StdUtf8.{IsUtf8Of_chars, IsUtf8_utf8}
use Rattle.cesu8_bytes.proofs.vectors.Loads.{padded, zeros_at}

-- Zeros after bytes have no influence on whether they are UTF-8.
pub with_zeros : (bytes : List ℕ) (n : ℕ) → IsUtf8 (bytes ++ replicate n 0) ↔ IsUtf8 bytes
with_zeros bytes n =
    let zeros = replicate {A = ℕ} n 0 in
    let zero = padded bytes zeros (zeros_at n) (length bytes) ∙ get_or_past bytes (length bytes) 0 (omega arith) in (
      λ whole. subst IsUtf8 (take-append_seam bytes zeros)
          (IsUtf8-take (bytes ++ zeros) (length bytes) whole (omega (arith, length-append bytes zeros), λ _ high. absurd (omega (arith, high, zero)))),
      λ is_utf8. IsUtf8-append bytes zeros is_utf8 (IsUtf8-from_ascii zeros (λ i. omega (arith, zeros_at n i))),
    )

-- If the end of a part is a character boundary whenever the bytes are UTF-8, they are UTF-8 exactly
-- if the part and the rest are.
pub both_parts : (bytes : List ℕ) (n : ℕ) → (IsUtf8 bytes → IsCharBoundary bytes n) → IsUtf8 bytes ↔ (IsUtf8 (take n bytes) × IsUtf8 (drop n bytes))
both_parts bytes n boundary = (
  λ whole. (IsUtf8-take bytes n whole (boundary whole), IsUtf8-drop bytes n whole (boundary whole)),
  λ parts. subst IsUtf8 (take-append-drop n bytes) (IsUtf8-append (take n bytes) (drop n bytes) parts.0 parts.1),
)

-- After a part that is UTF-8, the rest is UTF-8 exactly if all bytes are.
pub after_utf8 : (bytes : List ℕ) (n : ℕ) → n ≤ length bytes → IsUtf8 (take n bytes) → IsUtf8 (drop n bytes) ↔ IsUtf8 bytes
after_utf8 bytes n within prefix =
    let same = both_parts bytes n (λ whole. IsCharBoundary-from_take bytes n whole within prefix) in
    (λ rest. same.1 (prefix, rest), λ whole. (same.0 whole).1)

-- ---- the end of a part

-- UTF-8 does not begin with a continuation byte.
begins : (text : List ℕ) → IsText text → ¬ (IsContinuation (get_or (utf8 text) 0 0))
begins text is_text continues = grind (arith, nat_tests, IsCharBoundary-start, IsUtf8_utf8, get_or_past)

-- The UTF-8 of a character has at most four bytes.
pub at_most_four : (c : ℕ) → length (utf8_of c) ≤ 4
unfolding utf8_of
at_most_four c = grind (arith, nat_tests)

-- Four continuation bytes in a row begin at offset i. No UTF-8 has them (`no_four`).
abbrev FourContinue : List ℕ → ℕ → Type 0
FourContinue bytes i = (k : ℕ) → i ≤ k → k ≤ i + 3 → IsContinuation (get_or bytes k 0)

no_four : (text : List ℕ) → IsText text → (i : ℕ) → ¬ (FourContinue (utf8 text) i)
no_four [] is_text i four = omega (arith, (four i (omega arith) (omega arith)).0)
no_four (c ∷ text) is_text i four =
    let n = length (utf8_of c) in
    let in_text = λ (k : ℕ) (low : i ≤ n + k) (high : n + k ≤ i + 3).
    subst IsContinuation (get_or-append-add (utf8_of c) (utf8 text) k 0) (four (n + k) low high) in
    ⊎_elim (λ (within : i < n).
    ⊎_elim (λ (first : i ≡ 0). begins (c ∷ text) is_text (four 0 (omega (arith, first)) (omega arith)))
    (λ (later : i ≡ 0 → ⊥). begins text is_text.1 (in_text 0 (omega (arith, within)) (omega (arith, later, at_most_four c))))
    (cases_eq i 0))
    (λ (past : n ≤ i). no_four text is_text.1 (i - n) (λ k low high. in_text k (omega (arith, low, past)) (omega (arith, high, past))))
    (cases_lt i n)

-- In UTF-8, the offset that is reached by going back over at most three continuation bytes is a
-- character boundary. After three of them too, since no four are in a row.
pub start_is_boundary : (bytes : List ℕ) (at back : ℕ) → at < length bytes → 3 ≤ at → back ≤ 3 →
    ((k : ℕ) → k < back → IsContinuation (get_or bytes (at - k) 0)) → (¬ (IsContinuation (get_or bytes (at - back) 0))) ⊎ (back ≡ 3) →
    IsUtf8 bytes → IsCharBoundary bytes (at - back)
start_is_boundary bytes at back inside far few continue ends is_utf8 = (
  omega (arith, inside),
  λ _ high.
      ⊎_elim (λ (low : get_or bytes (at - back) 0 < 0xC0).
      ⊎_elim (λ (other : ¬ (IsContinuation (get_or bytes (at - back) 0))). absurd (other (high, low)))
      (λ (three : back ≡ 3). absurd (no_four (chars bytes) (IsUtf8Of_chars bytes is_utf8).0 (at - 3) (λ k from to.
      subst (λ bs. IsContinuation (get_or bs k 0)) (sym (IsUtf8Of_chars bytes is_utf8).1)
      (⊎_elim (λ (more : at - 3 < k). subst (λ (j : ℕ). IsContinuation (get_or bytes j 0)) (omega (arith, to, far)) (continue (at - k) (omega (arith, more, three))))
      (λ (same : k ≤ at - 3). subst (λ (j : ℕ). IsContinuation (get_or bytes j 0)) (omega (arith, same, from, three)) (high, low))
      (cases_lt (at - 3) k)))))
      ends)
      (λ (lead : 0xC0 ≤ get_or bytes (at - back) 0). lead)
      (cases_lt (get_or bytes (at - back) 0) 0xC0),
)
