-- The width of the character at the start of some bytes, 0 if there is none. It is found by five
-- tests of the first six bytes: one for each form of an encoded character. a, b, d, e, g and h are
-- these bytes.
use Rattle.std.proofs.Common.{◌≡◌, ℕ, ◌<◌, ◌≤◌, List, [], ◌∷◌, ◌++◌, Option, Some, None, ◌⊎◌, inl, refl, sym, ap, ◌∙◌, ⊎_elim, arith, drop, length, length-append, Bool, cond, true, false, eqb, leb, ltb, get_or}
use Rattle.std.proofs.lemmas.Bool.{cases_lt, and_parts, and_from, eqb-true, leb-true, ltb-true, le-leb, lt-ltb}
use Rattle.cesu8_text.specs.Text.{IsScalarValue}
use Rattle.cesu8_text.specs.Encoding.{Flavor, Cesu8, Mutf8, encoding}
use Rattle.cesu8_text.specs.Reading.{BeginsWith, NoneBegins, width, width_of, standing}
use Rattle.cesu8_decode.specs.DecodedOffsets.{first_width, continues, one_at, two_at, three_at, pair_at, first_width_by, width_at, IsPrefixOf}
use Rattle.cesu8_text.proofs.encoding.Forms.{encoding_one, short_form_null, short_form_other}
use Rattle.cesu8_text.proofs.reading.Inside.{none_inside}
use Rattle.cesu8_text.proofs.reading.Marks.{standing_is}
use Rattle.cesu8_text.proofs.reading.Standing.{standing_begins}
use Rattle.std.proofs.lemmas.Bool.Decides.{nat_tests}
use Rattle.std.proofs.lemmas.List.{get_or_past}
use Rattle.cesu8_text.specs.Patterns.{IsContinuation}
use Rattle.cesu8_bytes.specs.Pairs.{null_at, HasPair, second_third_fifth_sixth}
use Rattle.cesu8_text.proofs.encoding.Patterns.{pattern}
use Rattle.cesu8_text.proofs.encoding.Found.{BeginsInLengths, found_one, found_null, found_two, found_three, found_pair}

-- ASCII is encoded as its byte, or as C0 80.
pub ascii_forms : (f : Flavor) (c : ℕ) → c < 0x80 → (encoding f (c ∷ []) ≡ c ∷ []) ⊎ ((c ≡ 0) × (encoding f (c ∷ []) ≡ 0xC0 ∷ 0x80 ∷ []))
ascii_forms Cesu8 c ascii = inl (encoding_one Cesu8 c ascii)
ascii_forms Mutf8 c ascii = grind (arith, encoding_one, short_form_null, short_form_other)

-- The encoding of a character, and whatever follows it, begins with this character.
begins_encoded : (f : Flavor) (c : ℕ) (prefix rest : List ℕ) → IsScalarValue c → encoding f (c ∷ []) ≡ prefix →
    BeginsWith f (prefix ++ rest) c rest
begins_encoded f c prefix rest scalar same = record { scalar = scalar; bytes_are = ap (λ bs. bs ++ rest) (sym same) }

-- The width of bytes is the width of the character that begins them.
pub width_of_first : (f : Flavor) (bytes : List ℕ) (c : ℕ) (rest : List ℕ) → BeginsWith f bytes c rest → first_width f bytes ≡ width f c
width_of_first f bytes c rest begins = ap (width_of f) (standing_is f bytes c rest begins)

-- A character begins the bytes, and has their width.
pub record IsWide (f : Flavor) (bytes : List ℕ) : Type 0 where
  pub character : ℕ
  pub begins : BeginsWith f bytes character (drop (first_width f bytes) bytes)
  pub wide : first_width f bytes ≡ width f character

-- If the width of what `standing` finds is not 0, it found a character, which begins the bytes.
wide_by : (f : Flavor) (bytes : List ℕ) (o : Option ℕ) → standing f bytes ≡ o → 0 < width_of f o → IsWide f bytes
wide_by f bytes None found some = absurd (omega arith)
wide_by f bytes (Some c) found some = record { character = c; begins = rw found (standing_begins f bytes c found); wide = ap (width_of f) found }

-- If the width is not 0, a character begins the bytes.
pub wide : (f : Flavor) (bytes : List ℕ) → 0 < first_width f bytes → IsWide f bytes
wide f bytes some = wide_by f bytes (standing f bytes) refl some

-- The width is at most the length of the bytes.
pub width_fits : (f : Flavor) (bytes : List ℕ) → first_width f bytes ≤ length bytes
width_fits f bytes =
    ⊎_elim (λ some. let found = wide f bytes some in
    omega (arith, found.wide, ap length found.begins.bytes_are, length-append (encoding f (found.character ∷ []))))
    (λ (none : first_width f bytes ≤ 0). omega arith) (cases_lt 0 (first_width f bytes))

-- If no character begins the bytes, the width is 0.
pub width_of_none : (f : Flavor) (bytes : List ℕ) → NoneBegins f bytes → first_width f bytes ≡ 0
width_of_none f bytes none_begins =
    ⊎_elim (λ some. let found = wide f bytes some in absurd (none_begins found.character _ found.begins))
    (λ (none : first_width f bytes ≤ 0). omega arith) (cases_lt 0 (first_width f bytes))

-- No character begins inside a character.
width_inside : (f : Flavor) (bytes : List ℕ) (c j : ℕ) (rest : List ℕ) → BeginsWith f bytes c rest → 0 < j → j < width f c →
    first_width f (drop j bytes) ≡ 0
width_inside f bytes c j rest begins later inside =
    width_of_none f (drop j bytes) (λ d more other. none_inside f bytes c d j rest begins (more, other) later inside)

-- The width at the first offset of an encoded character is its length, and at its other offsets it
-- is 0.
pub encoded_widths : (f : Flavor) (c b : ℕ) (prefix rest : List ℕ) → IsScalarValue c → encoding f (c ∷ []) ≡ b ∷ prefix →
    (first_width f (b ∷ prefix ++ rest) ≡ length (b ∷ prefix)) × ((j : ℕ) → 0 < j → j ≤ length prefix → first_width f (drop j (b ∷ prefix ++ rest)) ≡ 0)
encoded_widths f c b prefix rest scalar same =
    let begins = begins_encoded f c (b ∷ prefix) rest scalar same in (
      width_of_first f (b ∷ prefix ++ rest) c rest begins ∙ ap length same,
      λ j later inside. width_inside f (b ∷ prefix ++ rest) c j rest begins later (omega (arith, ap length same)),
    )

-- If the byte at an offset is not 0, the bytes are longer than the offset: `get_or` is 0 after the
-- end.
pub long_by : (bytes : List ℕ) (i : ℕ) → 0 < get_or bytes i 0 → i < length bytes
long_by bytes i some = ⊎_elim (λ h. h) (λ past. absurd (omega (arith, get_or_past bytes i 0 past))) (cases_lt i (length bytes))

-- A byte that passes the test `continues` is a continuation byte.
pub continuation : (b : ℕ) → continues b ≡ true → IsContinuation b
continuation b t = let h = and_parts (leb 0x80 b) (ltb b 0xC0) t in (leb-true 0x80 b h.0, ltb-true b 0xC0 h.1)

-- A continuation byte passes the test `continues`.
pub is_continuation : (b : ℕ) → 0x80 ≤ b → b < 0xC0 → continues b ≡ true
is_continuation b low high = and_from (leb 0x80 b) (ltb b 0xC0) (le-leb 0x80 b low) (lt-ltb b 0xC0 high)

-- If the bytes begin with a character of m bytes, the width is m. The number n is the length of its
-- UTF-8, which does not matter here.
by_found : (f : Flavor) (bytes : List ℕ) (m n : ℕ) → BeginsInLengths f bytes m n → first_width f bytes ≡ m
by_found f bytes m n found = width_of_first f bytes found.character found.rest found.begins ∙ found.encoded

-- ---- each test identifies a character

one_found : (f : Flavor) (bytes : List ℕ) → 0 < length bytes → one_at f (get_or bytes 0 0) ≡ true → first_width f bytes ≡ 1
one_found f bytes some t = by_found f bytes 1 1 (found_one f bytes some (grind (arith, nat_tests)) (grind (arith, nat_tests)))

pub null_found : (f : Flavor) (bytes : List ℕ) → null_at f (get_or bytes 0 0) (get_or bytes 1 0) ≡ true → first_width f bytes ≡ 2
null_found f bytes t =
    let parts : (f ≡ Mutf8) × (get_or bytes 0 0 ≡ 0xC0) × (get_or bytes 1 0 ≡ 0x80) = grind (arith, nat_tests) in
    by_found f bytes 2 1 (found_null f bytes parts.0 (omega (arith, parts, long_by bytes 1 (omega (arith, parts)))) parts.1 parts.2)

two_found : (f : Flavor) (bytes : List ℕ) → two_at (get_or bytes 0 0) (get_or bytes 1 0) ≡ true → first_width f bytes ≡ 2
two_found f bytes t =
    let parts : (0xC2 ≤ get_or bytes 0 0) × (get_or bytes 0 0 < 0xE0) × IsContinuation (get_or bytes 1 0) = grind (arith, nat_tests) in
    let long = long_by bytes 1 (omega (arith, parts)) in
    by_found f bytes 2 2 (found_two f bytes (omega arith) parts.0 parts.1 parts.2)

three_found : (f : Flavor) (bytes : List ℕ) → three_at (get_or bytes 0 0) (get_or bytes 1 0) (get_or bytes 2 0) ≡ true → first_width f bytes ≡ 3
three_found f bytes t =
    let a = get_or bytes 0 0 in
    let b = get_or bytes 1 0 in
    let parts : (0xE0 ≤ a) × (a < 0xF0) × IsContinuation b × IsContinuation (get_or bytes 2 0) × (a ≡ 0xE0 → 0xA0 ≤ b) × (a ≡ 0xED → b < 0xA0) = grind (arith, nat_tests) in
    let long = long_by bytes 2 (omega (arith, parts.3)) in
    by_found f bytes 3 3 (found_three f bytes (omega arith) parts.0 parts.1 parts.2 parts.3 parts.4 parts.5)

-- Bytes that pass the test of a surrogate pair begin with one.
pub pair_of_test : (bytes : List ℕ) →
    pair_at (get_or bytes 0 0) (get_or bytes 1 0) (get_or bytes 2 0) (get_or bytes 3 0) (get_or bytes 4 0) (get_or bytes 5 0) ≡ true → HasPair bytes
pair_of_test bytes t = grind (arith, and_parts, continuation, eqb-true, leb-true, ltb-true)

pair_found : (f : Flavor) (bytes : List ℕ) →
    pair_at (get_or bytes 0 0) (get_or bytes 1 0) (get_or bytes 2 0) (get_or bytes 3 0) (get_or bytes 4 0) (get_or bytes 5 0) ≡ true →
    first_width f bytes ≡ 6
pair_found f bytes t =
    let pair = pair_of_test bytes t in
    let long = long_by bytes 5 (omega (arith, pair.ends.3.0)) in
    by_found f bytes 6 4 (found_pair f bytes (omega arith) pair.lead pair.high.0 pair.high.1 pair.ends)

-- ---- no test passes

-- If all tests fail, no character begins the bytes.
abbrev AllFail : Flavor → (a b d e g h : ℕ) → Type 0
AllFail f a b d e g h =
    (one_at f a ≡ false) × (null_at f a b ≡ false) × (two_at a b ≡ false) × (three_at a b d ≡ false) × (pair_at a b d e g h ≡ false)

-- If all tests fail, the bytes have no pattern of an encoded character, so the width is 0.
none_found : (f : Flavor) (bytes : List ℕ) →
    AllFail f (get_or bytes 0 0) (get_or bytes 1 0) (get_or bytes 2 0) (get_or bytes 3 0) (get_or bytes 4 0) (get_or bytes 5 0) →
    first_width f bytes ≡ 0
none_found f bytes fail = width_of_none f bytes (λ c rest begins. let found = pattern f bytes c rest begins in grind (arith, nat_tests, found))

-- ---- prefixes

-- A number that agrees with each test that passes, and is 0 if none does, equals the chain of
-- tests.
by_tests : (one null two three pair : Bool) (n : ℕ) → (one ≡ true → n ≡ 1) → (null ≡ true → n ≡ 2) → (two ≡ true → n ≡ 2) → (three ≡ true → n ≡ 3) → (pair ≡ true → n ≡ 6) →
    ((one ≡ false) × (null ≡ false) × (two ≡ false) × (three ≡ false) × (pair ≡ false) → n ≡ 0) →
    n ≡ cond one 1 (cond null 2 (cond two 2 (cond three 3 (cond pair 6 0))))
by_tests one null two three pair n h1 h2 h3 h4 h5 none = grind arith

-- The width is the result of the chain of tests, so it depends only on the first six bytes.
pub width_by_six : (f : Flavor) (bytes : List ℕ) → 0 < length bytes → first_width f bytes ≡ width_at f bytes 0
unfolding first_width_by
width_by_six f bytes some =
    by_tests _ _ _ _ _ (first_width f bytes) (one_found f bytes some) (null_found f bytes) (two_found f bytes) (three_found f bytes) (pair_found f bytes) (none_found f bytes)

-- What the chain of tests says: the width is at most 3, or 6; it is 1 exactly if the first test
-- passes, and 6 only if the last one does.
by_chain : (one null two three pair : Bool) → let w : ℕ = cond one 1 (cond null 2 (cond two 2 (cond three 3 (cond pair 6 0)))) in
    ((w ≤ 3) ⊎ (w ≡ 6)) × (eqb w 1 ≡ one) × (leb 1 w ≡ cond (leb w 1) one true) × (w ≡ 6 → pair ≡ true)
    × (w ≡ 3 → three ≡ true) × (w ≡ 2 → (null ≡ true) ⊎ (two ≡ true))
by_chain one null two three pair = grind (arith, nat_tests)

-- What the width of the character that begins six bytes says of the five tests (`by_chain`).
pub width_tells : (f : Flavor) (a b d e g h : ℕ) → let w = first_width_by f a b d e g h in
    ((w ≤ 3) ⊎ (w ≡ 6)) × (eqb w 1 ≡ one_at f a) × (leb 1 w ≡ cond (leb w 1) (one_at f a) true) × (w ≡ 6 → pair_at a b d e g h ≡ true)
    × (w ≡ 3 → three_at a b d ≡ true) × (w ≡ 2 → (null_at f a b ≡ true) ⊎ (two_at a b ≡ true))
unfolding first_width_by
width_tells f a b d e g h = by_chain (one_at f a) (null_at f a b) (two_at a b) (three_at a b d) (pair_at a b d e g h)

-- The prefix and the bytes agree in the first eight bytes. Missing ones count as zeros, so a
-- surrogate pair in the prefix is one in the bytes.
module _ (bytes prefix : List ℕ) (same : IsPrefixOf bytes prefix) where
  pub pair_by_prefix : HasPair prefix → (6 ≤ length bytes) × HasPair bytes
  pair_by_prefix pair = grind (arith, long_by)

  -- The pair in the prefix and the pair in the bytes have the same digits.
  pub same_digits : second_third_fifth_sixth prefix ≡ second_third_fifth_sixth bytes
  same_digits i =
      same 1 (omega arith) i ∷ same 2 (omega arith) i ∷ same 4 (omega arith) i ∷ same 5 (omega arith) i ∷ []
