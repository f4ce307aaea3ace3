-- Character boundaries: offsets that no encoded character crosses, by the widths at the five
-- offsets before (`is_boundary_at`). Five are enough, since a character has at most six bytes. Each
-- window of the decoder begins at such an offset. A `window` here has five more bytes at its start,
-- so `is_boundary_at` at i is about offset i + 5 of it, and tests the widths at i to i + 4.
use Rattle.std.proofs.Common.{◌≡◌, ℕ, ◌+◌, ◌-◌, ◌<◌, ◌≤◌, ◌⊎◌, ⊎_elim, true, List, ◌∷◌, refl, ap, ◌∙◌, subst, arith, length, take, drop, get_or, zero-add, length-drop, eqb}
use Rattle.std.proofs.lemmas.Bool.{agree_below_at, eqb-true, cases_lt}
use Rattle.std.proofs.lemmas.List.{take-append-drop, length-take-le}
use Rattle.std.proofs.lemmas.Bool.Decides.{nat_tests}
use Rattle.cesu8_text.specs.Encoding.{Flavor}
use Rattle.cesu8_text.specs.Reading.{StandsAt, width}
use Rattle.cesu8_text.specs.Laws.{NoneCrosses}
use Rattle.cesu8_decode.specs.DecodedOffsets.{first_width, first_width_by, width_at, three_at, pair_at}
use Rattle.cesu8_decode.proofs.by_offset.WidthTests.{wide, width_of_first, width_fits, width_tells}
use Rattle.cesu8_text.proofs.reading.Stretches.{no_overlap}
use Rattle.cesu8_decode.proofs.by_offset.WindowOffsets.{is_boundary_at, Follows, width_in, width_there}

-- ---- the widths that there are

-- A width is at most 3, or it is 6.
pub width_bounds : (f : Flavor) (window : List ℕ) (i : ℕ) → (width_at f window i ≤ 3) ⊎ (width_at f window i ≡ 6)
width_bounds f window i = (width_tells f _ _ _ _ _ _).0

-- At a zero no character of two bytes or more begins.
pub zero_width : (f : Flavor) (window : List ℕ) (i : ℕ) → get_or window i 0 ≡ 0 → width_at f window i ≤ 1
unfolding first_width_by
zero_width f window i null = grind (arith, nat_tests)

-- At the five zeros before some bytes no character of two bytes or more begins.
zeros_width : (f : Flavor) (bytes : List ℕ) (i : ℕ) → i < 5 → width_at f (0 ∷ 0 ∷ 0 ∷ 0 ∷ 0 ∷ bytes) i ≤ 1
zeros_width f bytes i early =
    let window = 0 ∷ 0 ∷ 0 ∷ 0 ∷ 0 ∷ bytes in
    zero_width f window i (eqb-true _ _ (agree_below_at (λ i. eqb (get_or window i 0) 0) (λ _. true) 5 i refl early))

-- ---- boundaries

-- A character that begins at one of the five offsets before a boundary ends at or before it.
pub boundary_ends : (f : Flavor) (window : List ℕ) (i : ℕ) → is_boundary_at f window i ≡ true → (s : ℕ) → s < 5 →
    width_at f window (i + s) + s ≤ 5
boundary_ends f window i boundary s small = grind (arith, nat_tests)

-- If each character that begins at one of the five offsets before an offset ends at or before it,
-- the offset is a boundary.
pub boundary_where : (f : Flavor) (window : List ℕ) (i : ℕ) → ((s : ℕ) → s < 5 → width_at f window (i + s) + s ≤ 5) →
    is_boundary_at f window i ≡ true
boundary_where f window i ends = grind (arith, nat_tests)

-- The offset after five zeros is a boundary.
pub boundary_of_zeros : (f : Flavor) (bytes : List ℕ) → is_boundary_at f (0 ∷ 0 ∷ 0 ∷ 0 ∷ 0 ∷ bytes) 0 ≡ true
boundary_of_zeros f bytes =
    boundary_where f (0 ∷ 0 ∷ 0 ∷ 0 ∷ 0 ∷ bytes) 0 (λ s small. omega (arith, zeros_width f bytes (0 + s) (omega arith)))

-- ---- boundaries in bytes

-- The width at an offset is the width of the character that begins there.
pub width_of_standing : (f : Flavor) (window bytes : List ℕ) (i c : ℕ) → Follows window bytes 5 → i < length bytes → StandsAt f bytes i c →
    width_at f window (i + 5) ≡ width f c
width_of_standing f window bytes i c follows inside stands =
    width_in f window bytes 5 i follows inside ∙ width_of_first f (drop i bytes) c stands.0 stands.1

-- No character crosses a boundary.
pub none_crosses_boundary : (f : Flavor) (window bytes : List ℕ) (n : ℕ) → Follows window bytes 5 → n ≤ length bytes →
    is_boundary_at f window n ≡ true → NoneCrosses f (take n bytes) (drop n bytes)
none_crosses_boundary f window bytes n follows fits boundary i c stands inside =
    let long = length-take-le n bytes fits in
    let there : StandsAt f bytes i c = subst (λ bs. StandsAt f bs i c) (take-append-drop n bytes) stands in
    let wide = width_of_standing f window bytes i c follows (omega arith) there in
    ⊎_elim (λ (near : n < i + 6).
    let offset : n + (i + 5 - n) ≡ i + 5 = omega arith in
    omega (arith, boundary_ends f window n boundary (i + 5 - n) (omega arith), ap (width_at f window) offset))
    (λ (far : i + 6 ≤ n). omega (arith, width_bounds f window (i + 5)))
    (cases_lt n (i + 6))

-- A character begins at or after the end of every earlier character.
pub ends_before : (f : Flavor) (window bytes : List ℕ) (p i : ℕ) → Follows window bytes 5 → p < i → i < length bytes →
    0 < width_at f window (i + 5) → p + width_at f window (p + 5) ≤ i
ends_before f window bytes p i follows before inside some =
    let there = width_in f window bytes 5 p follows (omega arith) in
    ⊎_elim (λ (begun : 0 < first_width f (drop p bytes)).
    let earlier = wide f (drop p bytes) begun in
    let later = wide f (drop i bytes) (omega (arith, width_in f window bytes 5 i follows inside)) in
    let apart = no_overlap f bytes p i earlier.character later.character (_, earlier.begins) (_, later.begins) in
    omega (arith, apart, earlier.wide))
    (λ (none : first_width f (drop p bytes) ≤ 0). omega arith)
    (cases_lt 0 (first_width f (drop p bytes)))

-- The end of the bytes is a boundary, if their start is one.
pub boundary_at_end : (f : Flavor) (window bytes : List ℕ) → Follows window bytes 5 → is_boundary_at f window 0 ≡ true →
    is_boundary_at f window (length bytes) ≡ true
boundary_at_end f window bytes follows first =
    boundary_where f window (length bytes) (λ s small. ⊎_elim
    (λ (early : length bytes + s < 5).
    omega (arith, boundary_ends f window 0 first (length bytes + s) early, ap (width_at f window) (zero-add (length bytes + s))))
    (λ (later : 5 ≤ length bytes + s).
    let p = length bytes + s - 5 in
    let offset : p + 5 ≡ length bytes + s = omega arith in
    let there = width_in f window bytes 5 p follows (omega arith) in
    omega (arith, width_fits f (drop p bytes), length-drop p bytes, ap (width_at f window) offset))
    (cases_lt (length bytes + s) 5))

-- ---- zeros

-- If b, the second of the six bytes, is less than 80 (hexadecimal), no character of two bytes or
-- more begins them.
low_second : (f : Flavor) (a b d e g h : ℕ) → b < 0x80 → first_width_by f a b d e g h ≤ 1
unfolding first_width_by
low_second f a b d e g h low = grind (arith, nat_tests)

-- The third byte of a character of three bytes is at least 80.
three_later : (a b d : ℕ) → three_at a b d ≡ true → 0x80 ≤ d
three_later a b d three = grind (arith, nat_tests)

-- The last four bytes of a surrogate pair are at least 80.
pair_later : (a b d e g h : ℕ) → pair_at a b d e g h ≡ true → (0x80 ≤ d) × (0x80 ≤ e) × (0x80 ≤ g) × (0x80 ≤ h)
pair_later a b d e g h pair = grind (arith, nat_tests)

-- Each byte of a character after the first one is at least 80 (hexadecimal).
bytes_later : (f : Flavor) (a b d e g h : ℕ) → let w = first_width_by f a b d e g h in
    (2 ≤ w → 0x80 ≤ b) × (3 ≤ w → 0x80 ≤ d) × (4 ≤ w → 0x80 ≤ e) × (4 ≤ w → 0x80 ≤ g) × (4 ≤ w → 0x80 ≤ h)
bytes_later f a b d e g h = grind (arith, nat_tests, width_tells, pair_later, low_second, three_later)

-- If the s-th byte after the first byte of a character is zero, the character has at most s bytes.
zero_ends : (f : Flavor) (a b d e g h s : ℕ) → 0 < s → (s ≡ 1 → b ≡ 0) → (s ≡ 2 → d ≡ 0) → (s ≡ 3 → e ≡ 0) → (s ≡ 4 → g ≡ 0) → (s ≡ 5 → h ≡ 0) →
    first_width_by f a b d e g h ≤ s
zero_ends f a b d e g h s some h1 h2 h3 h4 h5 = grind (arith, nat_tests, bytes_later, width_tells)

-- A character that begins before a zero ends at or before it.
pub ends_by_zero : (f : Flavor) (bytes : List ℕ) (i m : ℕ) → i < m → get_or bytes m 0 ≡ 0 → i + width_at f bytes i ≤ m
ends_by_zero f bytes i m before null =
    let zero : (k : ℕ) → m - i ≡ k → get_or bytes (i + k) 0 ≡ 0 = λ k is. let there : i + k ≡ m = omega arith in ap (λ p. get_or bytes p 0) there ∙ null in
    omega (arith, zero_ends f (get_or bytes i 0) _ _ _ _ _ (m - i) (omega arith) (zero 1) (zero 2) (zero 3) (zero 4) (zero 5))

-- No character crosses the offset of a zero.
pub boundary_at_zero : (f : Flavor) (bytes : List ℕ) (i : ℕ) → get_or bytes i 0 ≡ 0 → is_boundary_at f (0 ∷ 0 ∷ 0 ∷ 0 ∷ 0 ∷ bytes) i ≡ true
boundary_at_zero f bytes i null =
    let window = 0 ∷ 0 ∷ 0 ∷ 0 ∷ 0 ∷ bytes in
    boundary_where f window i (λ s small.
    ⊎_elim (λ (early : i + s < 5). omega (arith, zeros_width f bytes (i + s) early))
    (λ (late : 5 ≤ i + s).
    let there : i + s ≡ i + s - 5 + 5 = omega arith in
    omega (arith, ends_by_zero f bytes (i + s - 5) i (omega arith) null, width_there f bytes (i + s - 5), ap (width_at f window) there))
    (cases_lt (i + s) 5))
