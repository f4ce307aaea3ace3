-- What the searches of src/fast_paths.rt find: bytes are ASCII if none is 80 (hexadecimal) or more,
-- and a string needs encoding if it has a four-byte lead or a changed null.
use Rattle.std.proofs.lemmas.Bool.Decides.{nat_tests}
use Rattle.std.proofs.Common.{◌≡◌, ◌∙◌, ℕ, Bool, true, not, IsTrue, ◌↔◌, ◌||◌, ◌<◌, ◌≤◌, List, sym, ap, arith, leb, length, take, get_or}
use Rattle.std.specs.List.{Any, prefix_len}
use Rattle.std.specs.Str.{chars, IsAscii, IsUtf8}
use Rattle.std.proofs.lemmas.Bool.{both_ways, leb-false, false_from_ne_true, not-true, or_right}
use Rattle.std.proofs.lemmas.List.{get_or_default, get_or-take, length-take}
use Rattle.std.proofs.lemmas.List.Sums.{prefix_len-le-length, prefix_len_passes}
use Rattle.std.proofs.lemmas.Str.Ascii.{IsAscii-from_reads}
use Rattle.cesu8_bytes.specs.Kernels.{AnyIn}
use Rattle.cesu8_text.specs.Encoding.{Flavor, Cesu8, Mutf8, NeedsEncoding}
use Rattle.cesu8_text.specs.Class.{is_four, is_null, IsChangedByte}
use Rattle.cesu8_text.proofs.encoding.NeedsEncoding.{needs_by_test}

-- Whether a byte is 80 (hexadecimal) or more.
abbrev pub is_non_ascii : ℕ → Bool
is_non_ascii b = leb 0x80 b

-- Bytes are ASCII if none is 80 (hexadecimal) or more.
pub ascii_of_none : (xs : List ℕ) → (AnyIn is_non_ascii xs → ⊥) → IsAscii xs
ascii_of_none xs none = IsAscii-from_reads xs (length xs) (omega arith) (λ k inside.
    leb-false 0x80 (get_or xs k 0) (false_from_ne_true _ (λ high.
    none (k, get_or xs k 0, inside, get_or_default xs k (get_or xs k 0) 0 inside, high))))

-- Bytes are ASCII if none is in the union of this class and another one.
pub ascii_of_neither : (other : ℕ → Bool) (xs : List ℕ) → (AnyIn (λ b. other b || is_non_ascii b) xs → ⊥) → IsAscii xs
ascii_of_neither other xs none = ascii_of_none xs (λ any.
    none (any.0, any.1, any.2, any.3, or_right (other any.1) (is_non_ascii any.1) any.4))

-- A byte that changes is a changed 00, or at least n, for any n up to F0 (hexadecimal).
changed_is_either : (f : Flavor) (n b : ℕ) → n ≤ 0xF0 → IsChangedByte f b → (is_null f b || leb n b) ≡ true
changed_is_either Cesu8 n b low four = grind (arith, nat_tests)
changed_is_either Mutf8 n b low changed = grind (arith, nat_tests)

-- If some byte changes, some byte is in the union of the two classes by which code searches for it.
pub either_of_changed : (f : Flavor) (null : ℕ → Bool) → null ≡ is_null f → (n : ℕ) → n ≤ 0xF0 → (xs : List ℕ) →
    Any (IsChangedByte f) xs → AnyIn (λ b. null b || leb n b) xs
either_of_changed f null is n low xs any =
    (any.0, any.1, any.2, any.3, ap (λ p. p any.1 || leb n any.1) is ∙ changed_is_either f n any.1 low any.4)

-- A search for four-byte leads and changed nulls finds whether a byte changes.
changed_by_search : (f : Flavor) (null : ℕ → Bool) → null ≡ is_null f → (bytes : List ℕ) →
    ◌≡◌ {A = Type 0} (AnyIn (λ b. null b || is_four b) bytes) (Any (IsChangedByte f) bytes)
changed_by_search Cesu8 null are bytes = ap (λ p. AnyIn (λ b. p b || is_four b) bytes) are
changed_by_search Mutf8 null are bytes = ap (λ p. AnyIn (λ b. p b || is_four b) bytes) are

-- A search of a string's bytes for four-byte leads and changed nulls finds whether the string needs
-- encoding.
pub needs_by_search : (f : Flavor) (null : ℕ → Bool) → null ≡ is_null f → (string bytes : List ℕ) (found : Bool) → IsUtf8 string →
    bytes ≡ string → IsTrue found ↔ AnyIn (λ b. null b || is_four b) bytes → IsTrue found ↔ NeedsEncoding f (chars string)
needs_by_search f null are string bytes found is_utf8 same search =
    needs_by_test f string is_utf8 (IsTrue found) (rw (← same, ← changed_by_search f null are bytes) search)

-- If at least `len` of the first n elements precede the first one of a class, the first `len`
-- elements have none of it.
pub none_in_prefix : (class : ℕ → Bool) (xs : List ℕ) (n len run : ℕ) → run ≡ prefix_len (λ b. not (class b)) (take n xs) → len ≤ run →
    AnyIn class (take len xs) → ⊥
none_in_prefix class xs n len run is enough any =
    let before : any.0 < len = omega (arith, length-take len xs) in
    let here : any.0 < n = omega (arith, prefix_len-le-length (λ b. not (class b)) (take n xs), length-take n xs) in
    let same : get_or (take n xs) any.0 any.1 ≡ any.1 =
    get_or-take n xs any.0 any.1 here ∙ sym (get_or-take len xs any.0 any.1 before) ∙ any.3 in
    both_ways (class any.1)
    (not-true _ (ap (λ b. not (class b)) (sym same)
    ∙ prefix_len_passes (λ b. not (class b)) (take n xs) any.0 any.1 (omega arith))) any.4
