-- One character in CESU-8, MUTF-8 or UTF-8: its length, and that at most one begins the same bytes.
use Rattle.std.proofs.lemmas.Bool.Decides.{nat_tests}
use Rattle.std.proofs.Common.{◌≡◌, inl, inr, ℕ, ◌+◌, ◌<◌, ◌≤◌, ◌⊎◌, List, [], ◌∷◌, ◌++◌, refl, sym, ◌∙◌, arith, length, append-nil}
use Rattle.simd_cesu8.specs.Text.{IsScalarValue, utf8_of, utf8}
use Rattle.simd_cesu8.specs.Utf16.{units_of}
use Rattle.simd_cesu8.specs.Encoding.{Flavor, form, encoding}
use Rattle.simd_cesu8.specs.Laws.{NoOverlap}
use Rattle.cesu8_stream.specs.Written.{Begins}

-- The empty text has no bytes.
pub encoding_empty : (f : Flavor) → encoding f [] ≡ []
unfolding encoding
encoding_empty f = refl

-- A character has one to six bytes in an encoding.
pub encoding_some : (f : Flavor) (c : ℕ) → 0 < length (encoding f (c ∷ []))
unfolding encoding form units_of
encoding_some f c = grind (arith, nat_tests)

pub encoding_few : (f : Flavor) (c : ℕ) → length (encoding f (c ∷ [])) ≤ 6
unfolding encoding form units_of
encoding_few f c = grind (arith, nat_tests)

-- A character has one to four bytes in UTF-8.
pub utf8_some : (c : ℕ) → 0 < length (utf8 (c ∷ []))
unfolding utf8_of
utf8_some c = grind (arith, nat_tests)

pub utf8_few : (c : ℕ) → length (utf8 (c ∷ [])) ≤ 4
unfolding utf8_of
utf8_few c = grind (arith, nat_tests)

-- At most one character begins the same bytes in UTF-8.
same_utf8 : (c d : ℕ) (r q : List ℕ) → IsScalarValue c → IsScalarValue d → utf8_of c ++ r ≡ utf8_of d ++ q → c ≡ d
unfolding utf8_of
same_utf8 c d r q scalar other_scalar same = grind (arith, nat_tests)

pub one_utf8_begins : (bytes : List ℕ) (c d : ℕ) → Begins utf8 bytes c → Begins utf8 bytes d → c ≡ d
one_utf8_begins bytes c d begins other =
    same_utf8 c d begins.rest other.rest begins.scalar other.scalar
    (rw (sym (append-nil (utf8_of c)), sym (append-nil (utf8_of d))) (sym begins.bytes_are ∙ other.bytes_are))

-- At most one character begins the same bytes in an encoding. `NoOverlap` is what the function
-- `laws::no_overlap` of simd_cesu8 ensures: a proof that cites this lemma has it from a call.
pub one_encoded_begins : NoOverlap → (f : Flavor) (bytes : List ℕ) (c d : ℕ) → Begins (encoding f) bytes c →
    Begins (encoding f) bytes d → c ≡ d
one_encoded_begins overlap f bytes c d b e =
    by (overlap f bytes 0 0 c d (b.rest, record { scalar = b.scalar; bytes_are = b.bytes_are })
    (e.rest, record { scalar = e.scalar; bytes_are = e.bytes_are }))
  where
    by : (◌≡◌ {A = ℕ} 0 0 × (c ≡ d)) ⊎ ((0 + length (encoding f (c ∷ [])) ≤ 0) ⊎ (0 + length (encoding f (d ∷ [])) ≤ 0)) → c ≡ d
    by (inl same) = same.1
    by (inr (inl none)) = absurd (let some = encoding_some f c in omega arith)
    by (inr (inr none)) = absurd (let some = encoding_some f d in omega arith)
