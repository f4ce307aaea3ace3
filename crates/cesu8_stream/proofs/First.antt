-- The first character of some bytes: whether there is one, and that the shortest valid prefix that
-- is not empty is this character alone. These lemmas are for src/engine.rt and src/cut.rt.
use Rattle.std.proofs.Common.{◌≡◌, ℕ, min, ◌+◌, ◌-◌, ◌<◌, ◌≤◌, ◌⊎◌, List, [], ◌∷◌, ◌++◌, sym, ap, ◌∙◌, subst, inl, inr, arith, length, take, drop, append_assoc, length-append}
use Rattle.std.proofs.lemmas.Grind.{common_steps}
use Rattle.std.proofs.Math.Seq.{take-append-add}
use Rattle.std.proofs.lemmas.Bool.{cases_lt}
use Rattle.cesu8_stream.specs.Written.{IsWritten, Begins, BeginsNone, NeverBegins}
use Rattle.cesu8_stream.proofs.Joined.{Appends}

-- A character has at least one byte, and at most six.
pub record Sizes (write : List ℕ → List ℕ) : Type 0 where
  pub some : (c : ℕ) → 0 < length (write (c ∷ []))
  pub few : (c : ℕ) → length (write (c ∷ [])) ≤ 6

-- The bytes of a character that begins bytes are their first ones.
pub first_bytes : (write : List ℕ → List ℕ) (bytes : List ℕ) (c : ℕ) (b : Begins write bytes c) →
    take (length (write (c ∷ []))) bytes ≡ write (c ∷ [])
first_bytes write bytes c b =
    ap (take (length (write (c ∷ [])))) b.bytes_are ∙ grind (arith, common_steps)

-- A character that begins bytes is no longer than they are.
pub first_length : (write : List ℕ → List ℕ) (bytes : List ℕ) (c : ℕ) → Begins write bytes c →
    length (write (c ∷ [])) ≤ length bytes
first_length write bytes c b =
    let e : length bytes ≡ length (write (c ∷ [])) + length b.rest =
    ap length b.bytes_are ∙ length-append (write (c ∷ [])) b.rest in
    omega (arith, e)

-- A character that begins bytes also begins the first n of them, if it has at most n bytes.
pub begins_prefix : (write : List ℕ → List ℕ) (bytes : List ℕ) (n c : ℕ) → Begins write bytes c →
    length (write (c ∷ [])) ≤ n → Begins write (take n bytes) c
begins_prefix write bytes n c b enough =
    let len = length (write (c ∷ [])) in
    let more : n ≡ len + (n - len) = omega arith in
    record {
      scalar = b.scalar;
      rest = take (n - len) b.rest;
      bytes_are = ap (take n) b.bytes_are ∙ ap (λ k. take k (write (c ∷ []) ++ b.rest)) more
          ∙ take-append-add (write (c ∷ [])) b.rest (n - len);
    }

-- A character that begins bytes also begins them if more bytes follow.
pub begins_longer : (write : List ℕ → List ℕ) (bytes more : List ℕ) (c : ℕ) → Begins write bytes c →
    Begins write (bytes ++ more) c
begins_longer write bytes more c b = record {
  scalar = b.scalar;
  rest = b.rest ++ more;
  bytes_are = ap (λ bs. bs ++ more) b.bytes_are ∙ append_assoc (write (c ∷ [])) b.rest more;
}

-- The empty input begins with no character.
pub empty_begins_none : (write : List ℕ → List ℕ) → Sizes write → BeginsNone write []
empty_begins_none write sizes c b =
    let most : length (write (c ∷ [])) ≤ 0 = first_length write [] c b in
    let some = sizes.some c in
    absurd (omega arith)

-- If no character begins six bytes or more, none does whatever follows.
pub never_begins : (write : List ℕ → List ℕ) (bytes : List ℕ) → Sizes write → BeginsNone write bytes → 6 ≤ length bytes →
    NeverBegins write bytes
never_begins write bytes sizes none many more c b =
    let len = length (write (c ∷ [])) in
    let few : len ≤ length bytes = let h = sizes.few c in omega arith in
    let front : take (length bytes) (bytes ++ more) ≡ bytes = grind (arith, common_steps) in
    none c (subst (λ bs. Begins write bs c) front (begins_prefix write (bytes ++ more) (length bytes) c b few))

-- A text with a byte begins with a character.
pub text_begins : (write : List ℕ → List ℕ) (bytes text : List ℕ) → Appends write → write [] ≡ [] → 0 < length bytes →
    IsWritten write bytes text → (c : ℕ) × Begins write bytes c
text_begins write bytes [] append empty some written =
    absurd (let e : bytes ≡ [] = sym written.1 ∙ empty in let n = ap length e in omega (arith, n))
text_begins write bytes (c ∷ text) append empty some written = (
  c,
  record {
    scalar = written.0.0;
    rest = write text;
    bytes_are = sym written.1 ∙ append (c ∷ []) text;
  },
)

-- The shortest nonempty prefix that is a text is the first character alone. So if that text,
-- written in the other way, does not fit in the room, neither does the first character.
pub shortest_is_first : (from to : List ℕ → List ℕ) (bytes : List ℕ) (n c room : ℕ) → Appends from → Sizes from →
    from [] ≡ [] → 0 < n →
    ((bs : List ℕ) (d e : ℕ) → Begins from bs d → Begins from bs e → d ≡ e) →
    ((m : ℕ) → 0 < m → m < n → BeginsNone from (take m bytes)) →
    (text : List ℕ) → IsWritten from (take n bytes) text → (n ≤ length bytes) → Begins from bytes c →
    ((t : List ℕ) → IsWritten from (take n bytes) t → room < length (to t)) → room < length (to (c ∷ []))
shortest_is_first from to bytes n c room append sizes empty some one least text written within b long =
    by (cases_lt len n)
  where
    len : ℕ
    len = length (from (c ∷ []))

    by_first : n ≤ len → (d : ℕ) → Begins from (take n bytes) d → room < length (to (c ∷ []))
    by_first longer d front =
        let whole : Begins from bytes d =
        subst (λ bs. Begins from bs d) (grind (arith, common_steps)) (begins_longer from (take n bytes) (drop n bytes) d front) in
        let same : len ≡ length (from (d ∷ [])) = ap (λ x. length (from (x ∷ []))) (one bytes c d b whole) in
        let most : length (from (d ∷ [])) ≤ length (take n bytes) = first_length from (take n bytes) d front in
        let few : length (take n bytes) ≤ n = grind (arith, common_steps) in
        let exact : n ≡ len = omega arith in
        long (c ∷ []) ((b.scalar, tt), sym (ap (λ k. take k bytes) exact ∙ first_bytes from bytes c b))

    by : (len < n) ⊎ (n ≤ len) → room < length (to (c ∷ []))
    by (inl shorter) = absurd (least len (sizes.some c) shorter c (begins_prefix from bytes len c b (omega arith)))
    by (inr longer) =
        let front = text_begins from (take n bytes) text append empty (grind (arith, common_steps)) written in
        by_first longer front.0 front.1

-- If no character begins a prefix of fewer than len bytes, nor that of len bytes, none begins a
-- prefix of up to len bytes. `whole` is the length of the valid prefix of the first len bytes: 0.
pub none_up_to : (write : List ℕ → List ℕ) (bytes : List ℕ) (len whole : ℕ) →
    ((m : ℕ) → 0 < m → m < len → BeginsNone write (take m bytes)) → whole ≤ 0 → len ≤ length bytes →
    (whole < length (take len bytes) → BeginsNone write (drop whole (take len bytes))) → (n : ℕ) → 0 < n → n < len + 1 →
    BeginsNone write (take n bytes)
none_up_to write bytes len whole shorter none within stops n some few = by (cases_lt n len)
  where
    by : (n < len) ⊎ (len ≤ n) → BeginsNone write (take n bytes)
    by (inl less) = shorter n some less
    by (inr more) =
        let exact : len ≡ n = omega arith in
        let zero : whole ≡ 0 = omega arith in
        let long : whole < length (take len bytes) = grind (arith, common_steps) in
        subst (λ k. BeginsNone write (take k bytes)) exact
        (subst (λ k. BeginsNone write (drop k (take len bytes))) zero (stops long))

-- If no character begins a prefix of up to six bytes, none begins the bytes.
pub none_of_six : (write : List ℕ → List ℕ) (bytes : List ℕ) (end : ℕ) → Sizes write → end ≡ min (length bytes) 6 + 1 →
    ((m : ℕ) → 0 < m → m < end → BeginsNone write (take m bytes)) → BeginsNone write bytes
none_of_six write bytes end sizes is none c b =
    let len = length (write (c ∷ [])) in
    let few = sizes.few c in
    let within : len ≤ length bytes = first_length write bytes c b in
    none len (sizes.some c) (omega arith) c (begins_prefix write bytes len c b (omega arith))

-- If no character begins the first six bytes, none begins the bytes.
pub none_of_first : (write : List ℕ → List ℕ) (bytes : List ℕ) (most : ℕ) → Sizes write → most ≡ min (length bytes) 6 →
    (0 < length (take most bytes) → BeginsNone write (take most bytes)) → BeginsNone write bytes
none_of_first write bytes most sizes is none c b =
    let len = length (write (c ∷ [])) in
    let some = sizes.some c in
    let few = sizes.few c in
    let within : len ≤ length bytes = first_length write bytes c b in
    let enough : len ≤ most = omega arith in
    none (grind (arith, common_steps)) c (begins_prefix write bytes most c b enough)

-- The first character is no longer than a nonempty prefix that is a text.
pub first_within : (write : List ℕ → List ℕ) (bytes text : List ℕ) (n c : ℕ) → Appends write → write [] ≡ [] →
    ((bs : List ℕ) (d e : ℕ) → Begins write bs d → Begins write bs e → d ≡ e) → 0 < n → n ≤ length bytes →
    IsWritten write (take n bytes) text → Begins write bytes c → length (write (c ∷ [])) ≤ n
first_within write bytes text n c append empty one some within written b =
    let front = text_begins write (take n bytes) text append empty (grind (arith, common_steps)) written in
    let whole : Begins write bytes front.0 =
    subst (λ bs. Begins write bs front.0) (grind (arith, common_steps))
    (begins_longer write (take n bytes) (drop n bytes) front.0 front.1) in
    let same : length (write (c ∷ [])) ≡ length (write (front.0 ∷ [])) =
    ap (λ x. length (write (x ∷ []))) (one bytes c front.0 b whole) in
    let most : length (write (front.0 ∷ [])) ≤ length (take n bytes) = first_length write (take n bytes) front.0 front.1 in
    let few : length (take n bytes) ≤ n = grind (arith, common_steps) in
    omega arith
