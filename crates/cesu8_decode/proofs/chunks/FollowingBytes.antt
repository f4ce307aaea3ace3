-- Bytes that can follow each other, by the classes of adjacent bytes (`pair_class` in
-- specs/Following), are the bytes of whole encoded characters. `LongestPrefixes` proves the
-- converse.
use Rattle.std.proofs.Common.{◌≡◌, ℕ, ◌<◌, ◌≤◌, ◌⊎◌, inl, inr, Bool, true, false, ◌&&◌, not, cond, eqb, leb, ltb, ⊎_elim, arith, zero, suc, ◌↔◌, List, [], ◌∷◌, refl, sym, ◌∙◌, length, take, true≢false, suc-add}
use Rattle.std.proofs.lemmas.Bool.{cases_lt, le-leb, le-ltb, and_parts, eqb-true, cases_eq, cases_Bool}
use Rattle.std.proofs.lemmas.Bool.Decides.{nat_tests}
use Rattle.cesu8_text.specs.Class.{is_null}
use Rattle.cesu8_text.specs.Encoding.{Flavor, Cesu8, Mutf8, short_form}
use Rattle.cesu8_bytes.specs.Pairs.{null_at}
use Rattle.cesu8_decode.specs.DecodedOffsets.{continues}
use Rattle.cesu8_decode.specs.Following.{CharacterSet, has_changed, first_low, pair_class, is_high_surrogate, follows, follows_at, after_fillers, FirstFollow, crosses, crosses_at}
use Rattle.cesu8_text.specs.Patterns.{IsContinuation}
use Rattle.cesu8_text.proofs.encoding.Found.{BeginsInLengths, found_one, found_null, found_two, found_three, found_pair}
use Rattle.cesu8_decode.specs.Prefixes.{AreWhole}
use Rattle.cesu8_decode.proofs.by_offset.WidthTests.{continuation}
use Rattle.cesu8_decode.proofs.chunks.WholeBytes.{none_whole, whole_with}

-- Byte b may begin a character after byte a, which is no lead byte. Any byte from C0 on may: if it
-- begins none, like FF, the class of the byte after it has an error bit.
pub record MayBegin (f : Flavor) (a b : ℕ) : Type 0 where
  pub no_lead : a < 0xC0
  pub no_continuation : continues b ≡ false
  pub no_null : is_null f b ≡ false

-- Byte b is the second byte of a character that byte a leads, or of a high surrogate if the set has
-- surrogate pairs.
pub record IsSecond (s : CharacterSet) (f : Flavor) (a b : ℕ) : Type 0 where
  pub leads : 0xC0 ≤ a
  pub fits : a < 0xF0
  pub continuing : continues b ≡ true
  pub null : a ≡ 0xC0 → (has_changed s && null_at f 0xC0 b) ≡ true
  pub no_c1 : ¬ (a ≡ 0xC1)
  pub no_overlong : (eqb a 0xE0 && ltb b 0xA0) ≡ false
  pub no_low : (eqb a 0xED && leb (first_low s) b) ≡ false

-- The class as the result of the tests of `pair_class` in order. `above` says that the first byte
-- is F0 or more, `led` that it is C0 or more, and `on` that the second is a continuation byte.
abbrev class_by : (nul above on led ascii no_lead c0 long c1 overlong low : Bool) → ℕ
class_by nul above on led ascii no_lead c0 long c1 overlong low =
    cond nul 0xFF (cond above 0x40 (cond (not on) (cond led 0x01 0) (cond ascii 0x02 (cond no_lead 0x80
    (cond c0 (cond long 0 0x10) (cond c1 0x08 (cond overlong 0x04 (cond low 0x20 0))))))))

-- What the classes 20 and 00 (hexadecimal) say of the results of these tests. `tests` says it of
-- the tests of two bytes.
by_tests : (nul above on led ascii no_lead c0 long c1 overlong low : Bool) →
    let n = class_by nul above on led ascii no_lead c0 long c1 overlong low in
    (n ≡ 0x20 → (on ≡ true) × (low ≡ true))
    × (n ≡ 0 → led ≡ true → no_lead ≡ false → (above ≡ false) × (on ≡ true) × (c0 ≡ true → long ≡ true)
    × (c0 ≡ false → (c1 ≡ false) × (overlong ≡ false) × (low ≡ false)))
by_tests nul above on led ascii no_lead c0 long c1 overlong low = grind arith

tests : (s : CharacterSet) (f : Flavor) (a b : ℕ) → (pair_class s f a b ≡ 0x20 → (continues b ≡ true) × ((eqb a 0xED && leb (first_low s) b) ≡ true))
    × (pair_class s f a b ≡ 0 → leb 0xC0 a ≡ true → ltb a 0xC0 ≡ false → (leb 0xF0 a ≡ false) × (continues b ≡ true) × (eqb a 0xC0 ≡ true → (has_changed s && null_at f 0xC0 b) ≡ true)
    × (eqb a 0xC0 ≡ false → (eqb a 0xC1 ≡ false) × ((eqb a 0xE0 && ltb b 0xA0) ≡ false) × ((eqb a 0xED && leb (first_low s) b) ≡ false)))
unfolding pair_class
tests s f a b = grind (arith, nat_tests, by_tests)

-- A byte of class 0 after a lead byte is a second byte, and after any other byte it may begin a
-- character.
second : (s : CharacterSet) (f : Flavor) (a b : ℕ) → 0xC0 ≤ a → pair_class s f a b ≡ 0 → IsSecond s f a b
second s f a b leads is = let found = (tests s f a b).1 is (le-leb 0xC0 a leads) (le-ltb a 0xC0 leads) in grind (arith, nat_tests)

pub if_nothing : (s : CharacterSet) (f : Flavor) (a b : ℕ) → pair_class s f a b ≡ 0 → MayBegin f a b ⊎ IsSecond s f a b
unfolding pair_class
if_nothing s f a b is =
    ⊎_elim (λ (no_lead : a < 0xC0). inl (grind (arith, nat_tests))) (λ (leads : 0xC0 ≤ a). inr (second s f a b leads is)) (cases_lt a 0xC0)

-- A byte of class 80 (hexadecimal) is a continuation byte.
pub if_third : (s : CharacterSet) (f : Flavor) (a b : ℕ) → pair_class s f a b ≡ 0x80 → continues b ≡ true
unfolding pair_class
if_third s f a b is = grind (arith, nat_tests)

-- A byte of class 20 (hexadecimal) is the second byte of a low surrogate, or of any surrogate if
-- the set has no surrogate pairs.
pub if_low : (s : CharacterSet) (f : Flavor) (a b : ℕ) → pair_class s f a b ≡ 0x20 → (a ≡ 0xED) × (first_low s ≤ b) × (continues b ≡ true)
if_low s f a b is = let found = (tests s f a b).0 is in grind (arith, nat_tests)

-- A high surrogate begins with ED and a byte from A0 to AF.
high_bytes : (s : CharacterSet) (a b : ℕ) → is_high_surrogate s a b ≡ true → (has_changed s ≡ true) × (a ≡ 0xED) × (0xA0 ≤ b) × (b < 0xB0)
high_bytes s a b high = grind (arith, nat_tests)

-- If the set has surrogate pairs, the second byte of a low surrogate is B0 or more.
pub low_if_meant : (s : CharacterSet) → has_changed s ≡ true → first_low s ≡ 0xB0
low_if_meant s meant = grind arith

-- If byte j can follow the bytes before it, and byte g, two before it, leads three bytes, byte j is
-- a continuation byte.
third_byte : (s : CharacterSet) (f : Flavor) (d e g h j : ℕ) → d < 0xE0 → 0xE0 ≤ g → follows s f d e g h j ≡ true → IsContinuation j
third_byte s f d e g h j before lead fits = continuation j (if_third s f h j (grind (arith, nat_tests)))

-- The second byte of a character of three bytes fits the first.
fits_three : (s : CharacterSet) (f : Flavor) (a b : ℕ) → IsSecond s f a b → is_high_surrogate s a b ≡ false → (a ≡ 0xE0 → 0xA0 ≤ b) × (a ≡ 0xED → b < 0xA0)
fits_three s f a b second other = grind (arith, nat_tests)

-- A byte that is no null is its own short form.
pub short_of : (f : Flavor) (b : ℕ) → is_null f b ≡ false → short_form f b ≡ b ∷ []
short_of f b no_null = grind arith

-- Bytes that begin with C0 80 begin with U+0000, in MUTF-8.
null_of : (f : Flavor) (a b : ℕ) (bytes : List ℕ) → a ≡ 0xC0 → null_at f 0xC0 b ≡ true → BeginsInLengths f (a ∷ b ∷ bytes) 2 1
null_of Cesu8 a b bytes lead null = absurd (true≢false (sym null))
null_of Mutf8 a b bytes lead null = found_null Mutf8 (a ∷ b ∷ bytes) refl (omega arith) lead (eqb-true b 0x80 null)

-- ---- boundaries

-- No character crosses the offset after the four bytes.
pub record Ends (s : CharacterSet) (a b d e : ℕ) : Type 0 where
  pub last : e < 0xC0
  pub second_last : d < 0xE0
  pub no_high : is_high_surrogate s b d ≡ false
  pub no_higher : is_high_surrogate s a b ≡ false

-- The test `crosses` decides this.
ends_if : (s : CharacterSet) (a b d e : ℕ) → (crosses s a b d e ≡ false) ↔ Ends s a b d e
ends_if s a b d e = (λ none. grind (arith, nat_tests), λ ends. grind (arith, nat_tests))

-- Each byte can follow the bytes before it, of which the first four are given, and no character
-- crosses the end.
abbrev pub FollowToEnd : CharacterSet → Flavor → (a b d e : ℕ) → List ℕ → Type 0
FollowToEnd s f a b d e [] = Ends s a b d e
FollowToEnd s f a b d e (g ∷ bytes) = (follows s f a b d e g ≡ true) × FollowToEnd s f b d e g bytes

-- One byte more at the front moves the offsets of `follows_at` and of `crosses_at` by one.
follows_later : (s : CharacterSet) (f : Flavor) (a i : ℕ) (window : List ℕ) → follows_at s f (a ∷ window) (suc i) ≡ follows_at s f window i
follows_later s f a i window = rw (suc-add i 1, suc-add i 2, suc-add i 3, suc-add i 4) refl

crosses_later : (s : CharacterSet) (a i : ℕ) (window : List ℕ) → crosses_at s (a ∷ window) (suc i) ≡ crosses_at s window i
crosses_later s a i window = rw (suc-add i 1, suc-add i 2, suc-add i 3) refl

-- The n bytes of a window after its first four can follow each other, by their index, and no
-- character crosses their end.
abbrev pub FollowBefore : CharacterSet → Flavor → List ℕ → ℕ → Type 0
FollowBefore s f window n = ((k : ℕ) → k < n → follows_at s f window k ≡ true) × (crosses_at s window n ≡ false)

-- If the first n bytes can follow each other by their index, they can follow each other one after
-- another.
in_turn : (s : CharacterSet) (f : Flavor) (a b d e n : ℕ) (bytes : List ℕ) → n ≤ length bytes →
    FollowBefore s f (a ∷ b ∷ d ∷ e ∷ bytes) n → FollowToEnd s f a b d e (take n bytes)
in_turn s f a b d e zero bytes fits first = (ends_if s a b d e).0 first.1
in_turn s f a b d e (suc n) [] fits first = absurd (omega arith)
in_turn s f a b d e (suc n) (g ∷ bytes) fits first = (
  first.0 0 (omega arith),
  in_turn s f b d e g n bytes (omega arith) (
    λ i before. sym (follows_later s f a i (b ∷ d ∷ e ∷ g ∷ bytes)) ∙ first.0 (suc i) (omega arith),
    sym (crosses_later s a n (b ∷ d ∷ e ∷ g ∷ bytes)) ∙ first.1,
  ),
)

-- If the first n bytes can follow each other one after another, they can by their index.
pub by_index : (s : CharacterSet) (f : Flavor) (a b d e n : ℕ) (bytes : List ℕ) → n ≤ length bytes →
    FollowToEnd s f a b d e (take n bytes) → FollowBefore s f (a ∷ b ∷ d ∷ e ∷ bytes) n
by_index s f a b d e zero bytes fits all = (λ k before. absurd (omega arith), (ends_if s a b d e).1 all)
by_index s f a b d e (suc n) [] fits all = absurd (omega arith)
by_index s f a b d e (suc n) (g ∷ bytes) fits all =
    let later = by_index s f b d e g n bytes (omega arith) all.1 in
    (first_or_later later.0, crosses_later s a n (b ∷ d ∷ e ∷ g ∷ bytes) ∙ later.1)
  where
    first_or_later : ((k : ℕ) → k < n → follows_at s f (b ∷ d ∷ e ∷ g ∷ bytes) k ≡ true) → (k : ℕ) → k < suc n →
        follows_at s f (a ∷ b ∷ d ∷ e ∷ g ∷ bytes) k ≡ true
    first_or_later later zero before = all.0
    first_or_later later (suc k) before = follows_later s f a k (b ∷ d ∷ e ∷ g ∷ bytes) ∙ later k (omega arith)

-- ---- one character after another

-- At most n bytes are whole characters of the set, if they begin at a boundary and can follow each
-- other.
abbrev AreWholeFrom : CharacterSet → Flavor → ℕ → Type 0
AreWholeFrom s f n = (a b d e : ℕ) (bytes : List ℕ) → length bytes ≤ n → Ends s a b d e → FollowToEnd s f a b d e bytes → AreWhole s f bytes

module _ (s : CharacterSet) (f : Flavor) (n : ℕ) (later : AreWholeFrom s f n) where
  -- The three bytes of a high surrogate and the bytes after them are whole characters.
  in_pair : (e g h j : ℕ) (bytes : List ℕ) → length bytes ≤ n → is_high_surrogate s g h ≡ true → 0x80 ≤ j → j < 0xC0 →
      FollowToEnd s f e g h j bytes → AreWhole s f (g ∷ h ∷ j ∷ bytes)
  in_pair e g h j [] few high j_low j_high all = absurd (true≢false (sym high ∙ all.no_high))
  in_pair e g h j (k ∷ []) few high j_low j_high all = absurd (true≢false (sym high ∙ all.1.no_higher))
  in_pair e g h j (k ∷ l ∷ []) few high j_low j_high all =
      let found = if_low s f k l (grind (arith, nat_tests)) in absurd (omega (arith, all.1.1.second_last, found.0))
  in_pair e g h j (k ∷ l ∷ m ∷ bytes) few high j_low j_high all =
      let parts = high_bytes s g h high in
      let found = if_low s f k l (grind (arith, nat_tests)) in
      let low : 0xB0 ≤ l = omega (arith, found.1, low_if_meant s parts.0) in
      let fifth = continuation l found.2 in
      let sixth = continuation m (if_third s f l m (grind (arith, nat_tests))) in
      whole_with f (g ∷ h ∷ j ∷ k ∷ l ∷ m ∷ bytes) 6 4
      (found_pair f (g ∷ h ∷ j ∷ k ∷ l ∷ m ∷ bytes) (omega arith) parts.1 parts.2 parts.3 ((j_low, j_high), found.0, (low, fifth.1), sixth))
      s (inl parts.0) (later j k l m bytes (omega arith) (grind (arith, nat_tests)) all.1.1.1)

  -- The first two bytes of a character of three bytes, or of a surrogate pair, and the bytes after
  -- them are whole characters.
  in_three : (d e g h : ℕ) (bytes : List ℕ) → length bytes ≤ n → d < 0xE0 → e < 0xC0 → 0xE0 ≤ g → g < 0xF0 → IsSecond s f g h →
      FollowToEnd s f d e g h bytes → AreWhole s f (g ∷ h ∷ bytes)
  in_three d e g h [] few before last lead small two all = absurd (omega (arith, all.second_last))
  in_three d e g h (j ∷ bytes) few before last lead small two all =
      let next = continuation h two.continuing in
      let third = third_byte s f d e g h j before (omega arith) all.0 in
      ⊎_elim (λ (high : is_high_surrogate s g h ≡ true). in_pair e g h j bytes (omega arith) high third.0 third.1 all.1)
      (λ (other : is_high_surrogate s g h ≡ false).
      whole_with f (g ∷ h ∷ j ∷ bytes) 3 3
      (found_three f (g ∷ h ∷ j ∷ bytes) (omega arith) lead small next third (fits_three s f g h two other).0 (fits_three s f g h two other).1)
      s (inr refl)
      (later e g h j bytes (omega arith) (grind (arith, nat_tests)) all.1))
      (cases_Bool (is_high_surrogate s g h))

  -- The two bytes of a character and the bytes after them are whole characters.
  in_two : (d e g h : ℕ) (bytes : List ℕ) → length bytes ≤ n → d < 0xE0 → e < 0xC0 → g < 0xE0 → IsSecond s f g h →
      FollowToEnd s f d e g h bytes → AreWhole s f (g ∷ h ∷ bytes)
  in_two d e g h bytes few before last low two all =
      let next = continuation h two.continuing in
      let rest = later d e g h bytes few (grind (arith, nat_tests)) all in
      ⊎_elim (λ (null : g ≡ 0xC0).
      let parts = and_parts (has_changed s) _ (two.null null) in
      whole_with f (g ∷ h ∷ bytes) 2 1 (null_of f g h bytes null parts.1) s (inl parts.0) rest)
      (λ other.
      whole_with f (g ∷ h ∷ bytes) 2 2
      (found_two f (g ∷ h ∷ bytes) (omega arith) (omega (arith, other, two.no_c1, two.leads)) low next) s (inr refl) rest)
      (cases_eq g 0xC0)

  -- A lead byte and the bytes after it are whole characters.
  in_character : (b d e g : ℕ) (bytes : List ℕ) → length bytes ≤ n → is_high_surrogate s b d ≡ false → d < 0xE0 → e < 0xC0 → 0xC0 ≤ g →
      FollowToEnd s f b d e g bytes → AreWhole s f (g ∷ bytes)
  in_character b d e g [] few no_high before last lead all = absurd (omega (arith, all.last))
  in_character b d e g (h ∷ bytes) few no_high before last lead all = grind (arith, nat_tests, in_two, in_three, if_nothing)

-- Bytes from one boundary to another that can follow each other are whole characters.
are_whole : (s : CharacterSet) (f : Flavor) (n : ℕ) → AreWholeFrom s f n
are_whole s f n a b d e [] few ends all = none_whole s f
are_whole s f zero a b d e (g ∷ bytes) few ends all = absurd (omega arith)
are_whole s f (suc n) a b d e (g ∷ bytes) few ends all =
    ⊎_elim (λ (found : MayBegin f e g).
    ⊎_elim (λ (low : g < 0x80).
    whole_with f (g ∷ bytes) 1 1 (found_one f (g ∷ bytes) (omega arith) low (short_of f g found.no_null)) s (inr refl)
    (are_whole s f n b d e g bytes (omega arith) (grind (arith, nat_tests)) all.1))
    (λ (high : 0x80 ≤ g).
    in_character s f n (are_whole s f n) b d e g bytes (omega arith) ends.no_high ends.second_last ends.last (grind (arith, nat_tests)) all.1)
    (cases_lt g 0x80))
    (λ (found : IsSecond s f e g). absurd (omega (arith, found.leads, ends.last)))
    (if_nothing s f e g (grind (arith, nat_tests)))

-- The offset after four zeros is a boundary.
pub start : (s : CharacterSet) → Ends s 0 0 0 0
start s = grind (arith, nat_tests)

-- If each byte can follow the bytes before it, the bytes up to an offset that no character crosses
-- are whole characters.
pub followed_whole : (s : CharacterSet) (f : Flavor) (bytes : List ℕ) (m n : ℕ) → FirstFollow s f bytes m → n ≤ m →
    crosses_at s (after_fillers bytes) n ≡ false → AreWhole s f (take n bytes)
followed_whole s f bytes m n first fits none =
    are_whole s f (length (take n bytes)) 0 0 0 0 (take n bytes) (omega arith) (start s)
    (in_turn s f 0 0 0 0 n bytes (omega (arith, first.within)) (λ i before. first.follow i (omega arith), none))
