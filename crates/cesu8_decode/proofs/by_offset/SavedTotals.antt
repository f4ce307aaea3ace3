-- How many bytes an input saves: the sum over the characters that begin in it. Its lossy reading
-- has at most three bytes for each input byte. A character saves the difference between three times
-- its length and the length of its UTF-8. A byte that is replaced saves nothing, since U+FFFD has
-- three bytes. `lossy_len` (src/lengths.rt) subtracts what the input saves.
use Rattle.std.proofs.Common.{◌≡◌, ℕ, ◌+◌, ◌<◌, ◌≤◌, List, [], ◌∷◌, ◌++◌, refl, sym, ap, ◌∙◌, arith, length, zero-add, add-zero, subst, get_or, drop, suc, length-drop, get_or-drop}
use Rattle.cesu8_text.specs.Text.{IsScalarValue}
use Rattle.cesu8_text.specs.Encoding.{Flavor, encoding}
use Rattle.cesu8_text.specs.Reading.{NoneBegins}
use Rattle.cesu8_decode.specs.DecodedOffsets.{first_width, saved, total_saved, saved_between}
use Rattle.cesu8_decode.proofs.by_offset.WidthTests.{encoded_widths, width_of_none}
use Rattle.cesu8_decode.proofs.by_offset.WindowOffsets.{Follows, follows_later, width_following, saved_split}

module _ (f : Flavor) where
  -- Offsets at which no character begins save nothing.
  free : (prefix rest : List ℕ) → ((j : ℕ) → j < length prefix → first_width f (drop j (prefix ++ rest)) ≡ 0) →
      total_saved f (prefix ++ rest) ≡ total_saved f rest
  unfolding total_saved
  free [] rest none = refl
  free (b ∷ prefix) rest none =
      rw (none 0 (omega arith)) (zero-add (total_saved f (prefix ++ rest)) ∙ free prefix rest (λ j small. none (suc j) (omega arith)))

  -- A character saves what its first offset saves.
  pub first_saves : (c b : ℕ) (prefix rest : List ℕ) → IsScalarValue c → encoding f (c ∷ []) ≡ b ∷ prefix →
      total_saved f (encoding f (c ∷ []) ++ rest) ≡ saved (length (b ∷ prefix)) b + total_saved f rest
  unfolding total_saved
  first_saves c b prefix rest scalar same =
      let widths = encoded_widths f c b prefix rest scalar same in
      rw (same, widths.0) (ap (λ n. saved (length (b ∷ prefix)) b + n) (free prefix rest (λ j small. widths.1 (suc j) (omega arith) (omega arith))))

  -- A byte that is replaced saves nothing.
  pub replaced_saves : (b : ℕ) (rest : List ℕ) → NoneBegins f (b ∷ rest) → total_saved f (b ∷ rest) ≡ total_saved f rest
  unfolding total_saved
  replaced_saves b rest none_begins = rw (width_of_none f (b ∷ rest) none_begins) (zero-add (total_saved f rest))

  -- What all bytes save is what their offsets in a window save.
  pub all_between : (window bytes : List ℕ) (i : ℕ) → Follows window bytes i →
      saved_between f window i (length bytes) ≡ total_saved f bytes
  unfolding saved_between total_saved
  all_between window [] i follows = refl
  all_between window (b ∷ bytes) i follows =
      let width = width_following f window (b ∷ bytes) i follows (omega arith) in
      let first : get_or window i 0 ≡ b = ap (λ p. get_or window p 0) (sym (add-zero i)) ∙ follows 0 in
      let offset : 1 + i ≡ i + 1 = omega arith in
      let rest = all_between window bytes (i + 1) (subst (Follows window bytes) offset (follows_later window (b ∷ bytes) i 1 follows)) in
      (λ k. saved (width k) (first k) + rest k)

  -- What all bytes save is what their own offsets save.
  pub all_offsets : (bytes : List ℕ) → saved_between f bytes 0 (length bytes) ≡ total_saved f bytes
  all_offsets bytes = all_between bytes bytes 0 (λ k. ap (λ p. get_or bytes p 0) (zero-add k))

  -- What all bytes save is what the first n offsets save, and what the rest saves.
  pub saved_by_parts : (bytes : List ℕ) (n : ℕ) → n ≤ length bytes →
      saved_between f bytes 0 n + total_saved f (drop n bytes) ≡ total_saved f bytes
  saved_by_parts bytes n fits =
      let count : length bytes ≡ n + length (drop n bytes) = omega (arith, length-drop n bytes) in
      let rest = all_between bytes (drop n bytes) n (λ k. sym (get_or-drop n bytes k 0)) in
      let split = ap (saved_between f bytes 0) count ∙ saved_split f bytes 0 n (length (drop n bytes)) in
      let offset = ap (λ i. saved_between f bytes i (length (drop n bytes))) (zero-add n) in
      omega (arith, rest, all_offsets bytes, split, offset)
