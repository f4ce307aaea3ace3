-- What the masks of a window say about its offsets, and where a window ends. The masks cover `n`
-- offsets; the bytes after these, 5 at most, end the last character. `window_of` is another kind of
-- window, the bytes after five zeros. What `is_ill_formed_at` says of it at offset i is about its
-- byte i + 5, which is byte i of the bytes.
use Rattle.std.proofs.Common.{◌≡◌, ℕ, ◌+◌, ◌-◌, ◌<◌, ◌≤◌, ⊎_elim, true, false, List, length, get_or, ap, ◌∙◌, arith}
use Rattle.std.specs.Int.{bit_at, trailing_zeros, w64}
use Rattle.std.proofs.lemmas.Bool.{cases_lt, ne_eqb}
use Rattle.std.proofs.lemmas.Bool.Decides.{nat_tests}
use Rattle.std.proofs.lemmas.Nat.Bits.{bit_at-zero, bit_at-trailing_zeros}
use Rattle.cesu8_text.specs.Encoding.{Flavor}
use Rattle.cesu8_bytes.specs.Pairs.{null_at}
use Rattle.cesu8_decode.specs.DecodedOffsets.{first_width_by, width_at, window_of, is_ill_formed_at, is_boundary_at}
use Rattle.cesu8_decode.specs.Masks.{IsWindow, is_null_at, is_pair_at}
use Rattle.cesu8_decode.specs.declared.lanes.windows.Window.{Window}
use Rattle.cesu8_decode.proofs.by_offset.CharacterBoundaries.{boundary_ends, ends_before, width_bounds, boundary_at_zero}
use Rattle.cesu8_decode.proofs.by_offset.WindowOffsets.{follows_zeros, width_there}
use Rattle.cesu8_decode.proofs.decoder.MaskBits.{marked, unmarked_in, marks_fit}

-- ---- what the masks say

-- C0 80 has two bytes.
null_two : (f : Flavor) (a b d e g h : ℕ) → null_at f a b ≡ true → first_width_by f a b d e g h ≡ 2
unfolding first_width_by
null_two f a b d e g h null = grind (arith, nat_tests)

module _ {f : Flavor} {bytes : List ℕ} {at : ℕ} {window : Window} (is : IsWindow f bytes at window) where
  abbrev w : ℕ → ℕ
  w = width_at f bytes

  -- If no character begins at an offset, none begins there that needs conversion.
  pub none_changes : (i : ℕ) → w i ≡ 0 → (is_pair_at f bytes i ≡ false) × (is_null_at f bytes i ≡ false)
  none_changes i none = grind (arith, nat_tests, ne_eqb, null_two)

  -- What a set bit of each mask says.
  pub pair_set : (i : ℕ) → bit_at window.pairs i ≡ 1 → (i < is.n) × (is_pair_at f bytes (at + i) ≡ true)
  pair_set = marked window.pairs (is_pair_at f bytes) at is.n is.pairs

  pub null_set : (i : ℕ) → bit_at window.nulls i ≡ 1 → (i < is.n) × (is_null_at f bytes (at + i) ≡ true)
  null_set = marked window.nulls (is_null_at f bytes) at is.n is.nulls

  pub ill_set : (i : ℕ) → bit_at window.ill_formed i ≡ 1 → (i < is.n) × (is_ill_formed_at f (window_of bytes) (at + i) ≡ true)
  ill_set = marked window.ill_formed (is_ill_formed_at f (window_of bytes)) at is.n is.ill_formed

  -- What an unset bit of each mask says, up to the end of the window.
  pub pair_unset : (i : ℕ) → at ≤ i → i < at + window.len → bit_at window.pairs (i - at) ≡ 0 → is_pair_at f bytes i ≡ false
  pair_unset = unmarked_in window.pairs (is_pair_at f bytes) at is.n is.pairs (at + window.len) (λ i low inside. (none_changes i (is.rest i low inside).0).0)

  pub null_unset : (i : ℕ) → at ≤ i → i < at + window.len → bit_at window.nulls (i - at) ≡ 0 → is_null_at f bytes i ≡ false
  null_unset = unmarked_in window.nulls (is_null_at f bytes) at is.n is.nulls (at + window.len) (λ i low inside. (none_changes i (is.rest i low inside).0).1)

  pub ill_unset : (i : ℕ) → at ≤ i → i < at + window.len → bit_at window.ill_formed (i - at) ≡ 0 → is_ill_formed_at f (window_of bytes) i ≡ false
  ill_unset = unmarked_in window.ill_formed (is_ill_formed_at f (window_of bytes)) at is.n is.ill_formed (at + window.len) (λ i low inside. (is.rest i low inside).1)

  -- A character that begins at one of the offsets ends within the window, and no other character
  -- begins inside it.
  module _ (next m : ℕ) (some : 0 < m) (wide : m ≡ w (at + next)) (begins : next < is.n) where
    pub ends_within : next + m ≤ window.len
    ends_within =
        ⊎_elim (λ (over : window.len < next + m).
        let s = next + 5 - window.len in
        let there : at + window.len + s ≡ at + next + 5 = omega (arith, wide, width_bounds f bytes (at + next)) in
        absurd (omega (
          arith,
          over,
          wide,
          width_there f bytes (at + next),
          ap (width_at f (window_of bytes)) there,
          boundary_ends f (window_of bytes) (at + window.len) is.boundary s (omega (arith, is.len)),
        )))
        (λ (fits : next + m ≤ window.len). fits)
        (cases_lt window.len (next + m))

    pub none_inside : at + window.len ≤ length bytes → (i : ℕ) → next < i → i < next + m → w (at + i) ≡ 0
    none_inside long i low inside =
        ⊎_elim (λ (begun : 0 < w (at + i)).
        absurd (omega (
          arith,
          wide,
          width_there f bytes (at + next),
          ends_before f (window_of bytes) bytes (at + next) (at + i) (follows_zeros bytes) (omega arith) (omega (arith, long, ends_within))
              (omega (arith, begun, width_there f bytes (at + i))),
        )))
        (λ (none : w (at + i) ≤ 0). omega (arith, none))
        (cases_lt 0 (w (at + i)))

-- If the mask of ill-formed bytes is 0, no byte of the window is ill-formed.
pub none_in_window : (f : Flavor) (bytes : List ℕ) (at : ℕ) (window : Window) → IsWindow f bytes at window → window.ill_formed ≡ 0 →
    (i : ℕ) → at ≤ i → i < at + window.len → is_ill_formed_at f (window_of bytes) i ≡ false
none_in_window f bytes at window is none i low inside = ill_unset is i low inside (ap (λ m. bit_at m (i - at)) none ∙ bit_at-zero (i - at))

-- If the mask of ill-formed bytes is not 0, some byte of the window is ill-formed.
pub found_in_window : (f : Flavor) (bytes : List ℕ) (at : ℕ) (window : Window) → IsWindow f bytes at window → ¬ (window.ill_formed ≡ 0) →
    (i : ℕ) × (at ≤ i) × (i < at + window.len) × (is_ill_formed_at f (window_of bytes) i ≡ true)
found_in_window f bytes at window is some =
    let first = trailing_zeros w64 window.ill_formed in
    let fits = marks_fit (is_ill_formed_at f (window_of bytes)) at is.n is.few is.ill_formed in
    let bad = ill_set is first (bit_at-trailing_zeros w64 window.ill_formed (omega (arith, some)) fits).1 in
    (at + first, omega arith, omega (arith, bad.0, is.len.0), bad.1)

-- ---- where it ends

-- At a boundary a byte is ill-formed if no character begins there.
ill_formed_there : (f : Flavor) (window : List ℕ) (i : ℕ) → is_boundary_at f window i ≡ true → width_at f window (i + 5) ≡ 0 → is_ill_formed_at f window i ≡ true
ill_formed_there f window i boundary none = grind (arith, nat_tests)

-- A window ends after its n offsets if a zero follows them: a character has no zero after its first
-- byte.
pub ends_at_zero : (f : Flavor) (bytes : List ℕ) (at : ℕ) (window : Window) (is : IsWindow f bytes at window) → get_or bytes (at + is.n) 0 ≡ 0 →
    window.len ≡ is.n
ends_at_zero f bytes at window is null = grind (arith, nat_tests, ill_formed_there, boundary_at_zero, width_there)
