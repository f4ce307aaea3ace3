-- The function `mark` computes the relation `IsMark`: what lossy decoding writes for an offset. The
-- stretch of a character is the offsets of its bytes.
use Rattle.std.proofs.Common.{◌≡◌, ℕ, Bool, true, false, ◌+◌, ◌<◌, List, Option, Some, None, refl, ap, arith, drop, ltb}
use Rattle.std.specs.List.{range_with_len}
use Rattle.std.proofs.lemmas.List.Folds.{Any-from_list_any, list_any-from_Any}
use Rattle.std.proofs.lemmas.List.FromFn.{length-range_with_len, get_or-range_with_len}
use Rattle.std.proofs.lemmas.Bool.{both_ways}
use Rattle.std.proofs.lemmas.Bool.Decides.{nat_tests}
use Rattle.cesu8_text.specs.Encoding.{Flavor}
use Rattle.cesu8_text.specs.Reading.{BeginsWith, NoneBegins, LiesWithin, width, IsMark, Stands, Within, Damaged, standing, width_of, lies_within, mark_by, mark}
use Rattle.cesu8_text.proofs.encoding.Unique.{same_character}
use Rattle.cesu8_text.proofs.reading.Standing.{standing_begins, standing_none}

-- `standing` finds the character that begins the bytes.
pub standing_is : (f : Flavor) (bytes : List ℕ) (c : ℕ) (rest : List ℕ) → BeginsWith f bytes c rest → standing f bytes ≡ Some c
standing_is f bytes c rest begins = by (standing f bytes) refl
  where
    by : (o : Option ℕ) → standing f bytes ≡ o → o ≡ Some c
    by None found = absurd (standing_none f bytes found c rest begins)
    by (Some d) found =
        ap Some (same_character f bytes d c (drop (width f d) bytes) rest (standing_begins f bytes d found) begins).0

-- `standing` finds nothing if no character begins the bytes.
nothing_stands : (f : Flavor) (bytes : List ℕ) → NoneBegins f bytes → standing f bytes ≡ None
nothing_stands f bytes none_begins = by (standing f bytes) refl
  where
    by : (o : Option ℕ) → standing f bytes ≡ o → o ≡ None
    by None found = refl
    by (Some c) found = absurd (none_begins c (drop (width f c) bytes) (standing_begins f bytes c found))

-- If the character at an earlier offset j reaches past offset i, offset i is in its stretch.
reaches_stands : (f : Flavor) (bytes : List ℕ) (i j : ℕ) (o : Option ℕ) → standing f (drop j bytes) ≡ o → j < i →
    i < j + width_of f o → LiesWithin f bytes i
reaches_stands f bytes i j None found before reaches = absurd (omega arith)
reaches_stands f bytes i j (Some c) found before reaches =
    (j, c, (drop (width f c) (drop j bytes), standing_begins f (drop j bytes) c found), before, reaches)

-- An offset that passes `lies_within` is in an earlier stretch.
within_from_test : (f : Flavor) (bytes : List ℕ) (i : ℕ) → lies_within f bytes i ≡ true → LiesWithin f bytes i
unfolding lies_within
within_from_test f bytes i passes =
    let found =
    Any-from_list_any (λ j. ltb i (j + width_of f (standing f (drop j bytes)))) (range_with_len 0 i) passes in
    reaches_stands f bytes i found.1 (standing f (drop found.1 bytes)) refl
    (grind (arith, length-range_with_len, get_or-range_with_len)) (grind (arith, nat_tests))

-- An offset in an earlier stretch passes `lies_within`.
test_from_within : (f : Flavor) (bytes : List ℕ) (i : ℕ) → LiesWithin f bytes i → lies_within f bytes i ≡ true
unfolding lies_within
test_from_within f bytes i (j, c, stands, before, reaches) =
    let found = standing_is f (drop j bytes) c stands.0 stands.1 in
    list_any-from_Any (λ k. ltb i (k + width_of f (standing f (drop k bytes)))) (range_with_len 0 i)
    (j, j, grind (arith, length-range_with_len), grind (arith, get_or-range_with_len), grind (arith, nat_tests, found))

-- `mark_by` gives the mark, from the character there and whether the offset is in a stretch.
mark_by_is : (f : Flavor) (bytes : List ℕ) (i : ℕ) (o : Option ℕ) (w : Bool) → standing f (drop i bytes) ≡ o →
    lies_within f bytes i ≡ w → IsMark f bytes i (mark_by o w)
mark_by_is f bytes i (Some c) w found tested =
    Stands c (drop (width f c) (drop i bytes), standing_begins f (drop i bytes) c found)
mark_by_is f bytes i None true found tested =
    Within (standing_none f (drop i bytes) found) (within_from_test f bytes i tested)
mark_by_is f bytes i None false found tested =
    Damaged (standing_none f (drop i bytes) found)
    (λ inside. both_ways (lies_within f bytes i) tested (test_from_within f bytes i inside))

-- What `mark` returns for an offset is a mark of it.
pub mark_is : (f : Flavor) (bytes : List ℕ) (i : ℕ) → IsMark f bytes i (mark f bytes i)
unfolding mark
mark_is f bytes i = mark_by_is f bytes i (standing f (drop i bytes)) (lies_within f bytes i) refl refl

-- Whatever is a mark of an offset is what `mark` returns.
pub mark_from : (f : Flavor) (bytes : List ℕ) (i : ℕ) (m : List ℕ) → IsMark f bytes i m → mark f bytes i ≡ m
unfolding mark
mark_from f bytes i m (Stands c stands) = rw (standing_is f (drop i bytes) c stands.0 stands.1) refl
mark_from f bytes i m (Within none_begins within) =
    grind (arith, nothing_stands f (drop i bytes) none_begins, test_from_within f bytes i within)
mark_from f bytes i m (Damaged none_begins not_within) =
    grind (arith, nothing_stands f (drop i bytes) none_begins, within_from_test f bytes i)
