-- Words as their bytes, the first in the lowest bits, for the tests in src/words.rt. A mask acts on
-- each byte by itself, and subtracting 1 from each byte decides whether one is 0.
use Rattle.std.proofs.Common.{◌≡◌, ℕ, Bool, true, not, IsTrue, ◌+◌, ◌-◌, ◌*◌, ◌/◌, ◌%◌, ◌^◌, ◌<◌, ◌↔◌, ◌||◌, List, [], ◌∷◌, refl, sym, ap, ◌∙◌, subst, zero, suc, length, get_or, ⊎_elim, arith, bit_and, eqb, map}
use Rattle.std.specs.List.{Any}
use Rattle.std.specs.Int.{to_le_bytes, w64}
use Rattle.std.specs.Int.Bits.{bit_xor, and_lt, and_zero_r}
use Rattle.cesu8_text.specs.Class.{is_four, IsFour}
use Rattle.cesu8_bytes.specs.Kernels.{AnyIn}
use Rattle.std.proofs.lemmas.Bool.{agree_below_at, cases_eq, eqb-true, eqb-false, eq-eqb, ne_eqb, not-true, or_cases}
use Rattle.std.proofs.lemmas.List.{get_or_default, get_or-map, length-map}
use Rattle.std.proofs.lemmas.Nat.{and_block, xor_block, xor_of_8, le_bytes_8}
use Rattle.cesu8_text.proofs.lists.Elements.{any_nil, any_here, any_there, any_cons}

-- Each number is a byte.
abbrev AreBytes : List ℕ → Type 0
AreBytes [] = Unit {0}
AreBytes (b ∷ bytes) = (b < 0x100) × AreBytes bytes

-- The word of these bytes.
abbrev word_of : List ℕ → ℕ
word_of [] = 0
word_of (b ∷ bytes) = word_of bytes * 2 ^ 8 + b

-- The word of as many bytes, each of them m.
abbrev each : ℕ → List ℕ → ℕ
each m bytes = word_of (map (λ _. m) bytes)

-- The complement of the word: each bit flipped.
abbrev inverted : List ℕ → ℕ
inverted bytes = word_of (map (λ b. 0xFF - b) bytes)

-- k at the place above the bytes: what is borrowed from there.
abbrev above : ℕ → List ℕ → ℕ
above k [] = k
above k (b ∷ bytes) = above k bytes * 2 ^ 8

-- What the test keeps of the difference d: the high bits that d has and the word does not.
abbrev marked : ℕ → List ℕ → ℕ
marked d bytes = bit_and (bit_and d (inverted bytes)) (each 0x80 bytes)

-- One byte of the test: d is the byte r and, above it, q.
marked_cons : (d q r b : ℕ) (bytes : List ℕ) → d ≡ q * 2 ^ 8 + r → r < 2 ^ 8 →
    marked d (b ∷ bytes) ≡ marked q bytes * 2 ^ 8 + bit_and (bit_and r (0xFF - b)) 0x80
marked_cons d q r b bytes e l =
    rw (e, and_block 8 q (inverted bytes) r (0xFF - b) l (omega arith))
    (and_block 8 (bit_and q (inverted bytes)) (each 0x80 bytes) (bit_and r (0xFF - b)) 0x80 (and_lt 8 r (0xFF - b) l (omega arith)) (omega arith))

-- A byte other than 0, less 1, gains no high bit. `agree_below_at` computes that for all 256 bytes.
unmarked_byte : (b : ℕ) → b < 0x100 → (b ≡ 0 → ⊥) → bit_and (bit_and (b - 1) (0xFF - b)) 0x80 ≡ 0
unmarked_byte b l n =
    let all = agree_below_at (λ b. eqb b 0 || eqb (bit_and (bit_and (b - 1) (0xFF - b)) 0x80) 0) (λ _. true) 0x100 b refl l in
    ⊎_elim (λ e. absurd (n (eqb-true _ _ e))) (λ e. eqb-true _ _ e) (or_cases _ _ all)

-- The claim of `zero_marks`, with a borrow k: if d is the word less 1 in each byte, its marks are
-- not 0 if and only if some byte is 0.
abbrev IsMarked : List ℕ → Type 0
IsMarked bytes = (d k : ℕ) → word_of bytes + above k bytes ≡ each 1 bytes + d →
    (marked d bytes ≡ 0 → ⊥) ↔ Any (λ b. b ≡ 0) bytes

-- The claim for a word whose lowest byte is 0, which is marked.
marks_zero : (b : ℕ) (bytes : List ℕ) → b < 0x100 → b ≡ 0 → IsMarked (b ∷ bytes)
marks_zero b bytes l z d k e =
    let step = marked_cons d (d / 0x100) (d % 0x100) b bytes (omega arith) (omega arith) in
    let r : d % 0x100 ≡ 0xFF = omega arith in
    let low : bit_and (bit_and (d % 0x100) (0xFF - b)) 0x80 ≡ 0x80 = rw (r, z) refl in
    ((λ _. any_here (λ b. b ≡ 0) b bytes z), (λ _ none. omega arith))

-- The claim for a word whose lowest byte is not 0, which is not marked.
marks_later : (b : ℕ) (bytes : List ℕ) → b < 0x100 → (b ≡ 0 → ⊥) → IsMarked bytes → IsMarked (b ∷ bytes)
marks_later b bytes l n h d k e =
    let step = marked_cons d (d / 0x100) (d % 0x100) b bytes (omega arith) (omega arith) in
    let r : d % 0x100 ≡ b - 1 = omega arith in
    let low = ap (λ x. bit_and (bit_and x (0xFF - b)) 0x80) r ∙ unmarked_byte b l n in
    let later = h (d / 0x100) k (omega arith) in (
      (λ some. any_there (λ b. b ≡ 0) b bytes (later.0 (λ none. some (omega arith)))),
      (λ p none. ⊎_elim n (λ q. later.1 q (omega arith)) (any_cons (λ b. b ≡ 0) b bytes p)),
    )

-- Some byte is 0 if and only if the difference has a mark.
zero_marks : (bytes : List ℕ) → AreBytes bytes → IsMarked bytes
zero_marks [] h = λ d k e. ((λ n. absurd (n (and_zero_r _))), (λ p. absurd (any_nil (λ b. b ≡ 0) p)))
zero_marks (b ∷ bytes) h =
    ⊎_elim (λ z. marks_zero b bytes h.0 z) (λ n. marks_later b bytes h.0 n (zero_marks bytes h.1)) (cases_eq b 0)

-- A word is the word of its bytes.
word_of_bytes : (w : ℕ) → w < 2 ^ 64 → word_of (to_le_bytes w64 w) ≡ w
word_of_bytes w l = omega arith

-- The bytes of a word are bytes.
are_bytes : (w : ℕ) → AreBytes (to_le_bytes w64 w)
are_bytes w =
    (omega arith, (omega arith, (omega arith, (omega arith, (omega arith, (omega arith, (omega arith, (omega arith, tt))))))))

-- A word and its complement add up to all ones.
inverse : (bytes : List ℕ) → AreBytes bytes → word_of bytes + inverted bytes ≡ each 0xFF bytes
inverse [] h = refl
inverse (b ∷ bytes) h = omega (arith, inverse bytes h.1)

-- Some byte of a word is 0 if and only if its marks are not 0. The function `zero_marks` of
-- src/words.rt computes them by this formula: adding FEFEFEFEFEFEFEFF (hexadecimal) modulo 2^64
-- subtracts 0101010101010101. The subtraction borrows if the sum is below 2^64.
pub zero_test : (w : ℕ) → w < 2 ^ 64 →
    (bit_and (bit_and ((w + 0xFEFEFEFEFEFEFEFF) % 2 ^ 64) (0xFFFFFFFFFFFFFFFF - w)) 0x8080808080808080 ≡ 0 → ⊥)
    ↔ Any (λ b. b ≡ 0) (to_le_bytes w64 w)
zero_test w l =
    let d = (w + 0xFEFEFEFEFEFEFEFF) % 2 ^ 64 in
    let bytes = to_le_bytes w64 w in
    let word = word_of_bytes w l in
    let flipped : inverted bytes ≡ 0xFFFFFFFFFFFFFFFF - w = omega (arith, inverse bytes (are_bytes w)) in
    let decides = zero_marks bytes (are_bytes w) d (1 - (w + 0xFEFEFEFEFEFEFEFF) / 2 ^ 64) (omega arith) in
    let same : marked d bytes ≡ bit_and (bit_and d (0xFFFFFFFFFFFFFFFF - w)) 0x8080808080808080 =
    ap (λ x. bit_and (bit_and d x) 0x8080808080808080) flipped in
    ((λ some. decides.0 (λ none. some (sym same ∙ none))), (λ p none. decides.1 p (same ∙ none)))

-- A test of a number against 0.
pub not_zero : (n : ℕ) → IsTrue (not (eqb n 0)) ↔ (n ≡ 0 → ⊥)
not_zero n = ((λ t. eqb-false _ _ (not-true _ t)), (λ some. ap not (ne_eqb _ _ some)))

-- A byte after the mask and the flip of `contains_four`: 0 if its upper five bits are those of F0.
abbrev masked : ℕ → ℕ
masked b = bit_xor (bit_and b 0xF8) 0xF0

-- A masked byte is a byte.
masked_byte : (b : ℕ) → b < 0x100 → masked b < 0x100
masked_byte b l = xor_of_8 (bit_and b 0xF8) 0xF0 (and_lt 8 b 0xF8 l (omega arith)) (omega arith)

-- Masked bytes are bytes.
masked_bytes : (bytes : List ℕ) → AreBytes bytes → AreBytes (map masked bytes)
masked_bytes [] h = tt
masked_bytes (b ∷ bytes) h = (masked_byte b h.0, masked_bytes bytes h.1)

-- Masking a word masks each of its bytes.
masked_word : (bytes : List ℕ) → AreBytes bytes →
    bit_xor (bit_and (word_of bytes) (each 0xF8 bytes)) (each 0xF0 bytes) ≡ word_of (map masked bytes)
masked_word [] h = refl
masked_word (b ∷ bytes) h =
    ap (λ x. bit_xor x (each 0xF0 (b ∷ bytes))) (and_block 8 (word_of bytes) (each 0xF8 bytes) b 0xF8 h.0 (omega arith))
    ∙ xor_block 8 (bit_and (word_of bytes) (each 0xF8 bytes)) (each 0xF0 bytes) (bit_and b 0xF8) 0xF0
    (and_lt 8 b 0xF8 h.0 (omega arith)) (omega arith)
    ∙ ap (λ x. x * 2 ^ 8 + masked b) (masked_word bytes h.1)

-- The byte at an index is below 100 (hexadecimal), also past the end.
byte_at : (bytes : List ℕ) → AreBytes bytes → (i : ℕ) → get_or bytes i 0 < 0x100
byte_at [] h i = omega arith
byte_at (b ∷ bytes) h zero = h.0
byte_at (b ∷ bytes) h (suc i) = byte_at bytes h.1 i

-- The bytes of a masked word are the masked bytes.
bytes_masked : (w : ℕ) → w < 2 ^ 64 →
    to_le_bytes w64 (bit_xor (bit_and w 0xF8F8F8F8F8F8F8F8) 0xF0F0F0F0F0F0F0F0) ≡ map masked (to_le_bytes w64 w)
bytes_masked w l =
    let bytes = to_le_bytes w64 w in
    let word = ap (λ x. bit_xor (bit_and x 0xF8F8F8F8F8F8F8F8) 0xF0F0F0F0F0F0F0F0) (sym (word_of_bytes w l))
    ∙ masked_word bytes (are_bytes w) in
    le_bytes_8 (map masked bytes) _ refl (byte_at (map masked bytes) (masked_bytes bytes (are_bytes w))) (word ∙ omega arith)

-- A masked byte is 0 if and only if the byte is F0 to F7 (hexadecimal).
four_masked : (b : ℕ) → b < 0x100 → (masked b ≡ 0) ↔ IsFour b
four_masked b l =
    let same = agree_below_at (λ b. eqb (masked b) 0) is_four 0x100 b refl l in
    ((λ e. sym same ∙ eq-eqb _ _ e), (λ t. eqb-true _ _ (same ∙ t)))

-- Some masked byte is 0 if and only if some byte is F0 to F7.
fours_masked : (bytes : List ℕ) → AreBytes bytes → Any (λ b. b ≡ 0) (map masked bytes) ↔ Any IsFour bytes
fours_masked bytes h =
    let here = λ (i : ℕ). four_masked (get_or bytes i 0) (byte_at bytes h i) in
    let long = length-map bytes masked in (
      (λ p. let inside : p.0 < length bytes = omega (arith, p.2) in (
        p.0,
        _,
        inside,
        get_or_default bytes p.0 (get_or bytes p.0 0) 0 inside,
        (here p.0).0 (sym (get_or-map masked bytes p.0 0 p.1 inside) ∙ p.3 ∙ p.4),
      )),
      (λ p. let same = sym (get_or_default bytes p.0 p.1 0 p.2) ∙ p.3 in
          (p.0, 0, omega (arith, p.2), get_or-map masked bytes p.0 0 0 p.2 ∙ (here p.0).1 (ap is_four same ∙ p.4), refl)),
    )

-- Some byte of a word is F0 to F7 if and only if some byte of the masked word is 0.
pub four_test : (w : ℕ) → w < 2 ^ 64 →
    Any (λ b. b ≡ 0) (to_le_bytes w64 (bit_xor (bit_and w 0xF8F8F8F8F8F8F8F8) 0xF0F0F0F0F0F0F0F0))
    ↔ Any IsFour (to_le_bytes w64 w)
four_test w l =
    subst (λ bytes. Any (λ b. b ≡ 0) bytes ↔ Any IsFour (to_le_bytes w64 w)) (sym (bytes_masked w l))
    (fours_masked (to_le_bytes w64 w) (are_bytes w))

-- The result of a test of a word holds for the bytes that the word was loaded from.
pub tested : (class : ℕ → Bool) (word : ℕ) (bytes : List ℕ) (result : Bool) →
    IsTrue result ↔ AnyIn class (to_le_bytes w64 word) → to_le_bytes w64 word ≡ bytes →
    IsTrue result ↔ AnyIn class bytes
tested class word bytes result h e = subst (λ bs. IsTrue result ↔ AnyIn class bs) e h
