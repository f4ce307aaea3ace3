-- What is known about the offsets of a window depends on its bytes there and a few more. The width
-- at an offset depends on six bytes, the length of the longest character. `is_boundary_at`,
-- `is_ill_formed_at` and `decoded_at` at offset i are about byte i + 5 of the window, because a
-- character that begins up to five bytes before a byte can include it. They combine the widths at
-- five or six offsets from i on, so they depend on ten or eleven bytes.
use Rattle.std.proofs.Common.{◌≡◌, ℕ, zero, suc, ◌+◌, ◌<◌, ◌≤◌, List, ◌++◌, refl, sym, ap, ◌∙◌, arith, get_or, append_assoc, add-zero, zero-add, suc-add, length, drop, length-drop, get_or-drop, ◌∷◌}
use Rattle.cesu8_text.specs.Encoding.{Flavor}
use Rattle.cesu8_decode.specs.DecodedOffsets.{first_width, first_width_by, width_at, decoded_byte, decoded_at, decoded, is_ill_formed_at, ill_formed_by, saved, saved_between}
pub use Rattle.cesu8_decode.specs.DecodedOffsets.{boundary_by, is_boundary_at}
use Rattle.cesu8_decode.proofs.by_offset.WidthTests.{width_by_six}

-- Two windows have the same n bytes, one from i on and the other from j on.
abbrev pub Agree : (a b : List ℕ) (i j n : ℕ) → Type 0
Agree a b i j n = (k : ℕ) → k < n → get_or a (i + k) 0 ≡ get_or b (j + k) 0

-- The windows also agree from later offsets on.
pub agree_later : (a b : List ℕ) (i j n s m : ℕ) → s + m ≤ n → Agree a b i j n → Agree a b (i + s) (j + s) m
agree_later a b i j n s m fits agree k small = grind (arith, agree (s + k))

first_agrees : (a b : List ℕ) (i j n : ℕ) → 0 < n → Agree a b i j n → get_or a i 0 ≡ get_or b j 0
first_agrees a b i j n some agree = ap (λ p. get_or a p 0) (sym (add-zero i)) ∙ agree 0 some ∙ ap (λ p. get_or b p 0) (add-zero j)

-- The width at an offset depends on six bytes.
pub width_agrees : (f : Flavor) (a b : List ℕ) (i j : ℕ) → Agree a b i j 6 → width_at f a i ≡ width_at f b j
width_agrees f a b i j agree =
    (λ k. first_width_by f (first_agrees a b i j 6 (omega arith) agree k) (agree 1 (omega arith) k) (agree 2 (omega arith) k)
    (agree 3 (omega arith) k) (agree 4 (omega arith) k) (agree 5 (omega arith) k))

width_later : (f : Flavor) (a b : List ℕ) (i j n s : ℕ) → s + 6 ≤ n → Agree a b i j n → width_at f a (i + s) ≡ width_at f b (j + s)
width_later f a b i j n s fits agree = width_agrees f a b (i + s) (j + s) (agree_later a b i j n s 6 fits agree)

width_first : (f : Flavor) (a b : List ℕ) (i j n : ℕ) → 6 ≤ n → Agree a b i j n → width_at f a i ≡ width_at f b j
width_first f a b i j n fits agree = width_agrees f a b i j (λ k small. agree k (omega arith))

-- Whether an offset is a boundary depends on ten bytes.
pub boundary_agrees : (f : Flavor) (a b : List ℕ) (i j : ℕ) → Agree a b i j 10 → is_boundary_at f a i ≡ is_boundary_at f b j
boundary_agrees f a b i j agree =
    (λ k. boundary_by (width_later f a b i j 10 4 (omega arith) agree k) (width_later f a b i j 10 3 (omega arith) agree k)
    (width_later f a b i j 10 2 (omega arith) agree k) (width_later f a b i j 10 1 (omega arith) agree k)
    (width_first f a b i j 10 (omega arith) agree k))

-- Whether a byte is ill-formed depends on eleven bytes.
pub ill_formed_agrees : (f : Flavor) (a b : List ℕ) (i j : ℕ) → Agree a b i j 11 → is_ill_formed_at f a i ≡ is_ill_formed_at f b j
ill_formed_agrees f a b i j agree =
    (λ k. ill_formed_by (width_later f a b i j 11 5 (omega arith) agree k) (width_later f a b i j 11 4 (omega arith) agree k)
    (width_later f a b i j 11 3 (omega arith) agree k) (width_later f a b i j 11 2 (omega arith) agree k)
    (width_later f a b i j 11 1 (omega arith) agree k) (width_first f a b i j 11 (omega arith) agree k))

-- What is written for a byte depends on eleven bytes.
byte_decoded_alike : (f : Flavor) (a b : List ℕ) (i j : ℕ) → Agree a b i j 11 → decoded_at f a i ≡ decoded_at f b j
byte_decoded_alike f a b i j agree =
    (λ k. decoded_byte (width_later f a b i j 11 5 (omega arith) agree k) (width_later f a b i j 11 4 (omega arith) agree k)
    (width_later f a b i j 11 3 (omega arith) agree k) (width_later f a b i j 11 2 (omega arith) agree k)
    (width_later f a b i j 11 1 (omega arith) agree k) (width_first f a b i j 11 (omega arith) agree k)
    (agree 3 (omega arith) k) (agree 4 (omega arith) k) (agree 5 (omega arith) k))

-- What is written for n bytes depends on ten bytes more.
pub decoded_agrees : (f : Flavor) (a b : List ℕ) (i j n : ℕ) → Agree a b i j (n + 10) → decoded f a i n ≡ decoded f b j n
unfolding decoded
decoded_agrees f a b i j zero agree = refl
decoded_agrees f a b i j (suc n) agree = grind (arith, byte_decoded_alike, agree_later, decoded_agrees f a b (i + 1) (j + 1) n (agree_later a b i j (suc n + 10) 1 (n + 10) (omega arith) agree))

-- What is written for m + n bytes is what is written for the first m, and then for the other n.
pub decoded_split : (f : Flavor) (window : List ℕ) (i m n : ℕ) →
    decoded f window i (m + n) ≡ decoded f window i m ++ decoded f window (i + m) n
unfolding decoded
decoded_split f window i zero n = rw (add-zero i, zero-add n) refl
decoded_split f window i (suc m) n =
    let offset : i + 1 + m ≡ i + suc m = omega arith in
    rw (suc-add m n, decoded_split f window (i + 1) m n, offset) (sym (append_assoc (decoded_at f window i) _ _))

-- What m + n offsets save is what the first m save, and what the other n save.
pub saved_split : (f : Flavor) (window : List ℕ) (i m n : ℕ) →
    saved_between f window i (m + n) ≡ saved_between f window i m + saved_between f window (i + m) n
unfolding saved_between
saved_split f window i zero n = rw (add-zero i, zero-add n) (sym (zero-add (saved_between f window i n)))
saved_split f window i (suc m) n =
    let offset : i + 1 + m ≡ i + suc m = omega arith in
    rw (suc-add m n, saved_split f window (i + 1) m n, offset) (omega arith)

-- What n offsets save depends on five bytes more.
pub saved_agrees : (f : Flavor) (a b : List ℕ) (i j n : ℕ) → Agree a b i j (n + 5) → saved_between f a i n ≡ saved_between f b j n
unfolding saved_between
saved_agrees f a b i j zero agree = refl
saved_agrees f a b i j (suc n) agree =
    let here = width_agrees f a b i j (λ k small. agree k (omega arith)) in
    let first = first_agrees a b i j (suc n + 5) (omega arith) agree in
    let rest = saved_agrees f a b (i + 1) (j + 1) n (agree_later a b i j (suc n + 5) 1 (n + 5) (omega arith) agree) in
    (λ k. saved (here k) (first k) + rest k)

-- From offset i on, the window has the bytes, and then zeros.
abbrev pub Follows : (window bytes : List ℕ) (i : ℕ) → Type 0
Follows window bytes i = (k : ℕ) → get_or window (i + k) 0 ≡ get_or bytes k 0

-- From a later offset on, the window has the bytes without the first n.
pub follows_later : (window bytes : List ℕ) (i n : ℕ) → Follows window bytes i → Follows window (drop n bytes) (n + i)
follows_later window bytes i n follows k = grind (arith, get_or-drop)

-- The width at the first offset of the bytes in the window is the width of the bytes.
pub width_following : (f : Flavor) (window bytes : List ℕ) (i : ℕ) → Follows window bytes i → 0 < length bytes →
    width_at f window i ≡ first_width f bytes
width_following f window bytes i follows some = grind (arith, width_agrees, zero-add, width_by_six)

-- The width at offset n of the bytes in the window is the width of the bytes without the first n.
pub width_in : (f : Flavor) (window bytes : List ℕ) (i n : ℕ) → Follows window bytes i → n < length bytes →
    width_at f window (n + i) ≡ first_width f (drop n bytes)
width_in f window bytes i n follows inside =
    width_following f window (drop n bytes) (n + i) (follows_later window bytes i n follows) (omega (arith, length-drop n bytes))

-- The window of some bytes has them after five zeros.
pub follows_zeros : (bytes : List ℕ) → Follows (0 ∷ 0 ∷ 0 ∷ 0 ∷ 0 ∷ bytes) bytes 5
follows_zeros bytes k = grind arith

-- The width at offset i of the bytes is the width at offset i + 5 of their window.
pub width_there : (f : Flavor) (bytes : List ℕ) (i : ℕ) → width_at f (0 ∷ 0 ∷ 0 ∷ 0 ∷ 0 ∷ bytes) (i + 5) ≡ width_at f bytes i
width_there f bytes i = grind (arith, width_agrees, follows_zeros)
