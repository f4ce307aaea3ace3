-- The function `standing` returns the character that begins the bytes, if and only if there is one.
use Rattle.std.proofs.lemmas.Bool.Decides.{nat_tests}
use Rattle.std.proofs.Common.{◌≡◌, ℕ, Bool, true, ◌&&◌, ◌⊎◌, List, [], ◌∷◌, Some, None, arith, drop, eqb}
use Rattle.std.specs.List.{find, starts_with}
use Rattle.std.proofs.Math.Seq.{take-append_seam}
use Rattle.std.proofs.lemmas.List.{take-append-drop}
use Rattle.std.proofs.lemmas.Slice.Eq.{bytes_eq-Decides}
use Rattle.std.proofs.lemmas.Bool.{cases_Bool}
use Rattle.cesu8_text.specs.Utf16.{units_of}
use Rattle.cesu8_text.specs.Encoding.{Flavor, form, encoding}
use Rattle.cesu8_text.specs.Reading.{BeginsWith, NoneBegins, width, candidates, is_scalar_value, standing}

-- The test of one candidate: it is a scalar value whose encoding begins the bytes.
abbrev begins : Flavor → List ℕ → ℕ → Bool
begins f bytes c = is_scalar_value c && starts_with eqb bytes (encoding f (c ∷ []))

-- A candidate that passes begins the bytes.
begins_from_test : (f : Flavor) (bytes : List ℕ) (c : ℕ) → begins f bytes c ≡ true → BeginsWith f bytes c (drop (width f c) bytes)
begins_from_test f bytes c passes = grind (arith, nat_tests, bytes_eq-Decides, take-append-drop)

-- The character that begins the bytes passes.
test_from_begins : (f : Flavor) (bytes : List ℕ) (c : ℕ) (rest : List ℕ) → BeginsWith f bytes c rest → begins f bytes c ≡ true
test_from_begins f bytes c rest h = grind (arith, nat_tests, bytes_eq-Decides, take-append_seam)

-- What `find` returns has passed the test.
found_passes : (p : ℕ → Bool) (xs : List ℕ) (c : ℕ) → find p xs ≡ Some c → p c ≡ true
found_passes p [] c found = absurd (cc)
found_passes p (x ∷ xs) c found = grind (arith, cases_Bool (p x), found_passes p xs c)

-- x is an element of the list.
abbrev Among : List ℕ → ℕ → Type 0
Among [] x = ⊥
Among (y ∷ ys) x = (x ≡ y) ⊎ Among ys x

-- If `find` returns none, no element passes.
none_found : (p : ℕ → Bool) (xs : List ℕ) → find p xs ≡ None → (x : ℕ) → Among xs x → p x ≡ true → ⊥
none_found p [] nothing x among passes = among
none_found p (y ∷ ys) nothing x among passes = grind (arith, cases_Bool (p y), none_found p ys)

-- The character that begins the bytes is among the candidates.
is_candidate : (f : Flavor) (bytes : List ℕ) (c : ℕ) (rest : List ℕ) → BeginsWith f bytes c rest → Among (candidates bytes) c
unfolding encoding form units_of
is_candidate f bytes c rest stands = grind (arith, nat_tests)

-- A character that `standing` returns begins the bytes.
pub standing_begins : (f : Flavor) (bytes : List ℕ) (c : ℕ) → standing f bytes ≡ Some c → BeginsWith f bytes c (drop (width f c) bytes)
unfolding standing
standing_begins f bytes c found =
    begins_from_test f bytes c (found_passes (begins f bytes) (candidates bytes) c found)

-- If `standing` returns none, no character begins the bytes.
pub standing_none : (f : Flavor) (bytes : List ℕ) → standing f bytes ≡ None → NoneBegins f bytes
unfolding standing
standing_none f bytes nothing c rest stands =
    none_found (begins f bytes) (candidates bytes) nothing c
    (is_candidate f bytes c rest stands) (test_from_begins f bytes c rest stands)
