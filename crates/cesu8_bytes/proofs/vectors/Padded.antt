-- The shuffle of `padded_half` shifts a vector's last bytes to its start and fills it with zeros.
use Rattle.std.proofs.Common.{◌≡◌, ℕ, ◌+◌, ◌-◌, ◌<◌, ◌≤◌, true, ◌||◌, List, ◌++◌, length, drop, get_or, replicate, eqb, refl, sym, ap, ◌∙◌, subst, arith, w8, length-append, ◌⊎◌, inl, inr}
use Rattle.std.proofs.lemmas.Bool.{agree_below_at, cases_lt, eqb-true}
use Rattle.std.proofs.lemmas.List.{ext_get_or, get_or_append_left, get_or-append_right, get_or-drop, length-drop}
use Rattle.std.proofs.lemmas.Simd.{swz_l, SwzOk, SwzOk-from_Each1, length-swz_l, get_or-swz_l, get_or-swz_l_below, length-chunk, get_or-chunk, get_or-replicate, length-replicate, Each1-from_get_or}
use lib.Dec.{T, ltb}
use lib.Lanes.{chunk}
use mir.Val.{zeroes}
use Rattle.cesu8_bytes.specs.declared.lanes.padded.TheConstants.{INDICES}

-- The sixteen indices of the shuffle that shifts by `shift` lanes.
abbrev pub indices_from : ℕ → List ℕ
indices_from shift = chunk 0 16 (chunk shift (32 - shift) INDICES)

-- Index m of `indices_from` is index `shift + m` of `INDICES`.
index_at : (shift m : ℕ) → shift ≤ 16 → m < 16 → get_or (indices_from shift) m 0 ≡ get_or INDICES (shift + m) 0
index_at shift m low l =
    let here : 0 + m ≡ m = omega arith in
    get_or-chunk 0 16 (chunk shift (32 - shift) INDICES) m 0 l ∙ ap (λ k. get_or (chunk shift (32 - shift) INDICES) k 0) here
    ∙ get_or-chunk shift (32 - shift) INDICES m 0 (omega arith)

-- `indices_from` has sixteen indices.
long_indices : (shift : ℕ) → shift ≤ 16 → length (indices_from shift) ≡ 16
long_indices shift low = length-chunk 0 16 (chunk shift (32 - shift) INDICES) (omega (arith, length-chunk shift (32 - shift) INDICES (omega arith)))

-- Each index selects one of sixteen lanes, or gives zero.
pub indices_ok : (shift : ℕ) → shift ≤ 16 → SwzOk w8 16 16 0 (indices_from shift)
indices_ok shift low =
    SwzOk-from_Each1 w8 16 1 16 0 (indices_from shift) refl (omega (arith, long_indices shift low))
    (Each1-from_get_or (λ j. T (zeroes 16 w8 j || ltb j 16)) (indices_from shift) 0 (λ m l.
    let small : m < 16 = omega (arith, long_indices shift low) in
    subst (λ j. T (zeroes 16 w8 j || ltb j 16)) (sym (index_at shift m low small))
    (subst T (sym (agree_below_at (λ k. zeroes 16 w8 (get_or INDICES k 0) || ltb (get_or INDICES k 0) 16) (λ _. true) 32 (shift + m) refl (omega arith))) _)))

-- Each of the first sixteen indices selects its own lane.
index_of_half : (j : ℕ) → j < 16 → get_or INDICES j 0 ≡ j
index_of_half j l = eqb-true _ _ (agree_below_at (λ k. eqb (get_or INDICES k 0) k) (λ _. true) 16 j refl l)

-- The other sixteen indices give zero.
index_of_zero : (k : ℕ) → k < 16 → zeroes 16 w8 (get_or INDICES (16 + k) 0) ≡ true
index_of_zero k l = agree_below_at (λ k. zeroes 16 w8 (get_or INDICES (16 + k) 0)) (λ _. true) 16 k refl l

-- A lane of the result is the byte `shift` lanes further on, or zero past the end.
lane_is : (last : List ℕ) (shift m : ℕ) → length last ≡ 16 → shift ≤ 16 → m < 16 → (shift + m < 16) ⊎ (16 ≤ shift + m) →
    get_or (swz_l w8 16 last 0 (indices_from shift)) m 0 ≡ get_or (drop shift last ++ replicate shift 0) m 0
lane_is last shift m long low l (inl below) =
    let js = indices_from shift in
    let index : get_or js m 0 ≡ shift + m = index_at shift m low l ∙ index_of_half (shift + m) below in
    let rest = get_or_append_left (drop shift last) (replicate shift 0) 0 m (omega (arith, length-drop shift last)) in
    let within : m < length js = omega (arith, long_indices shift low) in
    grind (arith, index, rest, get_or-drop shift last m 0, get_or-swz_l_below w8 16 last 0 js m within (omega arith))
lane_is last shift m long low l (inr above) =
    let js = indices_from shift in
    let place : 16 + (shift + m - 16) ≡ shift + m = omega arith in
    let zero_here : zeroes 16 w8 (get_or js m 0) ≡ true = rw (index_at shift m low l, ← place) (index_of_zero (shift + m - 16) (omega arith)) in
    let rest = length-drop shift last in
    rw (get_or-swz_l w8 16 last 0 js m (omega (arith, long_indices shift low)), zero_here)
    (sym (get_or-append_right (drop shift last) (replicate shift 0) (length (drop shift last)) m 0 refl (omega arith)
    ∙ get_or-replicate {A = ℕ} shift (m - length (drop shift last)) 0 0 (omega arith)))

-- The shuffle shifts the bytes from `shift` on to the start, and fills with zeros.
pub moved : (last : List ℕ) (shift : ℕ) → length last ≡ 16 → shift ≤ 16 → swz_l w8 16 last 0 (indices_from shift) ≡ drop shift last ++ replicate shift 0
moved last shift long low =
    let many : length (swz_l w8 16 last 0 (indices_from shift)) ≡ 16 = length-swz_l w8 16 last 0 (indices_from shift) ∙ long_indices shift low in
    let whole : length (drop shift last ++ replicate shift 0) ≡ 16 =
    length-append (drop shift last) (replicate shift 0) ∙ omega (arith, length-drop shift last, length-replicate {A = ℕ} shift 0) in
    ext_get_or 0 _ _ (many ∙ sym whole) (λ m l.
    let small : m < 16 = omega arith in
    lane_is last shift m long low small (cases_lt (shift + m) 16))
