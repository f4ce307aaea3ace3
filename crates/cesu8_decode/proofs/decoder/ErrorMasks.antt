-- A block of 32 bytes is valid if each byte can follow the four bytes before it (`follows` in
-- specs/Following). This module proves that the error mask that the code computes by table look-ups
-- marks the bytes that cannot, and that the prefix that the blocks accept is that of the whole
-- input. `lanes/following.rt` computes the mask and `prefix.rt` the prefix; the proofs of their
-- functions cite these lemmas. A lane is "marked" if it is at least 80 (hexadecimal). What the
-- definitions say of offset i of a window is about its byte i + 4, which four bytes precede.
use Rattle.std.proofs.Common.{◌≡◌, ℕ, ◌+◌, ◌<◌, ◌≤◌, ◌||◌, ⊎_elim, Bool, true, false, cond, List, [], ◌∷◌, map, length, get_or, replicate, eqb, leb, ltb, bit_or, refl, sym, ap, ◌∙◌, subst, arith, drop, ◌-◌, ◌++◌, not, add-zero, take}
use Rattle.std.specs.List.{range_with_len, prefix_len}
use Rattle.std.proofs.lemmas.Bool.{agree_below_at, leb-false, ltb-true, not-false, not-true, or_parts, cases_lt}
use Rattle.std.proofs.lemmas.Bool.Decides.{nat_tests}
use Rattle.std.proofs.lemmas.List.{get_or_append_left, length-take-le, take-append-drop}
use Rattle.std.proofs.lemmas.List.FromFn.{get_or-map-range_with_len, length-map-range_with_len}
use Rattle.std.proofs.lemmas.List.Sums.{prefix_len-le-length, prefix_len_passes, prefix_len_stops}
use Rattle.std.proofs.lemmas.Simd.{pick_l-range_with_len, map-map, length-chunk}
use lib.Lanes.{zip2, sel_l, mask_l, top, chunk}
use Rattle.cesu8_text.specs.Class.{is_null}
use Rattle.cesu8_text.specs.Encoding.{Flavor}
use Rattle.cesu8_bytes.specs.Kernels.{mask}
use Rattle.cesu8_decode.specs.Following.{CharacterSet, Encoded, Unchanged, IsBlockAt, pair_class, required_class, follows, follows_at, after_fillers, AllFollow, FirstFollow, FollowUpTo}
use Rattle.cesu8_decode.specs.declared.lanes.character_set.Block.{Block}
use Rattle.cesu8_bytes.proofs.lists.Lanes.{ones}
use Rattle.cesu8_bytes.proofs.vectors.Loads.{loaded}
use Rattle.cesu8_decode.proofs.decoder.LanesByIndex.{no_lane, on_range}
use Rattle.std.proofs.lemmas.Nat.{le_or_l, le_or_r, or_lt}

-- ---- the error mask

-- The highest bit of a | b is set if a or b has it.
high_or : (a b : ℕ) → leb 0x80 (bit_or a b) ≡ (leb 0x80 a || leb 0x80 b)
high_or a b = grind (arith, nat_tests, or_lt 7 a b, le_or_l a b, le_or_r a b)

-- Selecting by the highest bits of a mask inverts it.
unlike : (t : Bool) → cond (top 7 (ones t)) 0 0xFF ≡ mask (not t)
unlike t = grind arith

-- A mask byte is marked exactly if the test holds.
of_mask : (t : Bool) → leb 0x80 (mask t) ≡ t
of_mask t = grind arith

-- The byte itself if it is a character of one byte, which is less than 80 (hexadecimal), and
-- otherwise a number of at least 80.
abbrev pub marked_if_not_one : Flavor → ℕ → ℕ
marked_if_not_one f b = bit_or b (cond (is_null f b) 0xFF 0)

-- A byte that is not marked is ASCII and no null.
low_lane : (f : Flavor) (b : ℕ) → leb 0x80 (marked_if_not_one f b) ≡ false → (b < 0x80) × (is_null f b ≡ false)
low_lane f b low = grind (arith, nat_tests, or_parts, high_or, leb-false, of_mask)

-- ASCII that is no null can follow four bytes of ASCII.
ascii_fits : (s : CharacterSet) (f : Flavor) (a b d e g : ℕ) → a < 0x80 → b < 0x80 → d < 0x80 → e < 0x80 → g < 0x80 → is_null f g ≡ false →
    follows s f a b d e g ≡ true
unfolding pair_class
ascii_fits s f a b d e g a_low b_low d_low e_low g_low no_null = grind (arith, nat_tests)

-- The lanes of a mask are marked exactly if the test passes.
pub marks_are : (t : ℕ → Bool) (lanes ns : List ℕ) → lanes ≡ map (λ i. mask (t i)) ns → map (leb 0x80) lanes ≡ map t ns
marks_are t lanes ns is =
    ap (map (leb 0x80)) is ∙ map-map (leb 0x80) (λ i. mask (t i)) ns ∙ ap (λ test. map test ns) (λ i k. of_mask (t k) i)

-- If a function does not depend on its first argument, `zip2` does not depend on the first list. If
-- it does not depend on its second argument, `zip2` does not depend on the second list.
first_alike : {A : Type 0} (g : ℕ → ℕ → A) → ((a c b : ℕ) → g a b ≡ g c b) → (xs us ys : List ℕ) → length xs ≡ length us → zip2 g xs ys ≡ zip2 g us ys
first_alike g alike [] [] ys long = refl
first_alike g alike [] (u ∷ us) ys long = absurd (omega (arith, long))
first_alike g alike (x ∷ xs) [] ys long = absurd (omega (arith, long))
first_alike g alike (x ∷ xs) (u ∷ us) [] long = refl
first_alike g alike (x ∷ xs) (u ∷ us) (y ∷ ys) long = (λ i. alike x u y i ∷ first_alike g alike xs us ys (omega (arith, long)) i)

second_alike : {A : Type 0} (g : ℕ → ℕ → A) → ((a b d : ℕ) → g a b ≡ g a d) → (xs ys vs : List ℕ) → length ys ≡ length vs → zip2 g xs ys ≡ zip2 g xs vs
second_alike g alike [] ys vs long = refl
second_alike g alike (x ∷ xs) [] [] long = refl
second_alike g alike (x ∷ xs) [] (v ∷ vs) long = absurd (omega (arith, long))
second_alike g alike (x ∷ xs) (y ∷ ys) [] long = absurd (omega (arith, long))
second_alike g alike (x ∷ xs) (y ∷ ys) (v ∷ vs) long = (λ i. alike x y v i ∷ second_alike g alike xs ys vs (omega (arith, long)) i)

-- The class that a block's bytes are required to have does not depend on earlier bytes that the set
-- does not need.
required_by_needed : (s : CharacterSet) (window : List ℕ) (at : ℕ) (block : Block) → IsBlockAt s window at block → length block.four_before ≡ 32 → length block.three_before ≡ 32 →
    zip2 (required_class s) block.four_before block.three_before ≡ zip2 (required_class s) (chunk at 32 window) (chunk (at + 1) 32 window)
required_by_needed Encoded window at block is long_four long_three = rw (is.four_before refl, is.three_before refl) refl
required_by_needed Unchanged window at block is long_four long_three =
    first_alike (required_class Unchanged) (λ a c b. refl) block.four_before (chunk at 32 window) block.three_before (long_four ∙ sym (length-chunk at 32 window (omega (arith, is.room))))
    ∙ second_alike (required_class Unchanged) (λ a b d. refl) (chunk at 32 window) block.three_before (chunk (at + 1) 32 window)
    (long_three ∙ sym (length-chunk (at + 1) 32 window (omega (arith, is.room))))

-- The vectors of a block give the error mask: the bytes that cannot follow the bytes before them.
-- `here` has the class of each pair of bytes, and `want` the class that it is required to have.
pub error_mask_is : (s : CharacterSet) (f : Flavor) (window : List ℕ) (at : ℕ) (block : Block) → IsBlockAt s window at block →
    length block.four_before ≡ 32 → length block.three_before ≡ 32 → (here want : List ℕ) → here ≡ zip2 (pair_class s f) block.one_before block.bytes →
    want ≡ zip2 (λ want d. want d) (zip2 (required_class s) block.four_before block.three_before) block.two_before →
    sel_l (map (top 7) (zip2 (λ a b. ones (eqb a b)) here want)) (replicate 32 0) (replicate 32 0xFF)
    ≡ map (λ i. mask (not (follows_at s f window i))) (range_with_len at 32)
error_mask_is s f window at block is long_four long_three here want here_is by_bytes =
    rw (
      here_is,
      by_bytes,
      required_by_needed s window at block is long_four long_three,
      sym (pick_l-range_with_len 0 window at 32 (omega (arith, is.room))),
      loaded window at 1 32 (omega (arith, is.room)),
      is.two_before ∙ loaded window at 2 32 (omega (arith, is.room)),
      is.one_before ∙ loaded window at 3 32 (omega (arith, is.room)),
      is.bytes ∙ loaded window at 4 32 (omega (arith, is.room)),
    ) (on_range (λ i. cond (top 7 (ones (follows_at s f window i))) 0 0xFF) (λ i. mask (not (follows_at s f window i))) at 32
    (λ i low inside. unlike (follows_at s f window i)))

-- Bytes joined with the mask of nulls are marked unless they are characters of one byte.
pub marked_are : (f : Flavor) (bytes nulls : List ℕ) → nulls ≡ map (λ b. mask (is_null f b)) bytes →
    zip2 bit_or bytes nulls ≡ map (marked_if_not_one f) bytes
marked_are f bytes nulls is = rw is (each bytes)
  where
    each : (bytes : List ℕ) → zip2 bit_or bytes (map (λ b. mask (is_null f b)) bytes) ≡ map (marked_if_not_one f) bytes
    each [] = refl
    each (b ∷ bytes) = ap (λ l. marked_if_not_one f b ∷ l) (each bytes)

-- Which bytes are marked, by their offsets.
pub marked_at : (f : Flavor) (window : List ℕ) (at : ℕ) → at + 36 ≤ length window → (lanes : List ℕ) →
    lanes ≡ map (marked_if_not_one f) (chunk (at + 4) 32 window) → lanes ≡ map (λ i. marked_if_not_one f (get_or window (i + 4) 0)) (range_with_len at 32)
marked_at f window at room lanes lanes_are =
    lanes_are ∙ ap (map (marked_if_not_one f)) (loaded window at 4 32 (omega (arith, room)))
    ∙ map-map (marked_if_not_one f) (λ i. get_or window (i + 4) 0) (range_with_len at 32)

-- If no lane of the error mask is marked, each byte can follow the bytes before it.
module _ (s : CharacterSet) (f : Flavor) (window : List ℕ) (at n : ℕ) where
  pub no_error : (lanes : List ℕ) → lanes ≡ map (λ i. mask (not (follows_at s f window i))) (range_with_len at n) →
      mask_l (map (leb 0x80) lanes) ≡ 0 → AllFollow s f window at n
  no_error lanes lanes_are none i low inside =
      not-false _ (no_lane (λ i. not (follows_at s f window i)) at n (sym (ap mask_l (marks_are _ lanes (range_with_len at n) lanes_are)) ∙ none) i low inside)

  -- If no lane is marked as other than a character of one byte, all bytes are ASCII and no null.
  pub low_bytes : (lanes : List ℕ) → lanes ≡ map (λ i. marked_if_not_one f (get_or window (i + 4) 0)) (range_with_len at n) →
      mask_l (map (leb 0x80) lanes) ≡ 0 → (i : ℕ) → at + 4 ≤ i → i < at + n + 4 → (get_or window i 0 < 0x80) × (is_null f (get_or window i 0) ≡ false)
  low_bytes lanes lanes_are none i low inside =
      let g : ℕ → ℕ = λ i. marked_if_not_one f (get_or window (i + 4) 0) in
      let offset : i - 4 + 4 ≡ i = omega arith in
      let bits = sym (map-map (leb 0x80) g (range_with_len at n)) ∙ ap (map (leb 0x80)) (sym lanes_are) in
      subst (λ k. (get_or window k 0 < 0x80) × (is_null f (get_or window k 0) ≡ false)) offset
      (low_lane f _ (no_lane (λ i. leb 0x80 (g i)) at n (ap mask_l bits ∙ none) (i - 4) (omega arith) (omega arith)))

  -- If the four bytes before are ASCII too, each byte can follow the bytes before it.
  pub all_plain : (lanes : List ℕ) → lanes ≡ map (λ i. marked_if_not_one f (get_or window (i + 4) 0)) (range_with_len at n) →
      ((i : ℕ) → at ≤ i → i < at + 4 → get_or window i 0 < 0x80) → mask_l (map (leb 0x80) lanes) ≡ 0 → AllFollow s f window at n
  all_plain lanes lanes_are first none i low inside =
      let others = low_bytes lanes lanes_are none in grind (arith, ascii_fits)

-- If no lane of two vectors joined is marked, none of either vector is.
pub none_of_two : (xs ys : List ℕ) → length xs ≡ length ys → mask_l (map (leb 0x80) (zip2 bit_or xs ys)) ≡ 0 →
    (mask_l (map (leb 0x80) xs) ≡ 0) × (mask_l (map (leb 0x80) ys) ≡ 0)
none_of_two [] [] e none = (refl, refl)
none_of_two [] (y ∷ ys) e none = absurd (omega arith)
none_of_two (x ∷ xs) [] e none = absurd (omega arith)
none_of_two (x ∷ xs) (y ∷ ys) e none = grind (arith, high_or x y, none_of_two xs ys (omega arith))

-- If all bytes of two successive blocks can follow the bytes before them, all 64 can.
pub in_both : (s : CharacterSet) (f : Flavor) (window : List ℕ) (at : ℕ) → AllFollow s f window at 32 → AllFollow s f window (at + 32) 32 →
    AllFollow s f window at 64
in_both s f window at first second i low inside =
    ⊎_elim (λ (before : i < at + 32). first i low before) (λ (later : at + 32 ≤ i). second i later (omega arith)) (cases_lt i (at + 32))

-- If no lane of two successive blocks is marked and the four bytes before them are ASCII, all 64
-- bytes can follow the bytes before them.
pub two_plain : (s : CharacterSet) (f : Flavor) (window : List ℕ) (at : ℕ) (xs ys : List ℕ) →
    xs ≡ map (λ i. marked_if_not_one f (get_or window (i + 4) 0)) (range_with_len at 32) →
    ys ≡ map (λ i. marked_if_not_one f (get_or window (i + 4) 0)) (range_with_len (at + 32) 32) →
    ((i : ℕ) → at ≤ i → i < at + 4 → get_or window i 0 < 0x80) → mask_l (map (leb 0x80) xs) ≡ 0 → mask_l (map (leb 0x80) ys) ≡ 0 →
    AllFollow s f window at 64
two_plain s f window at xs ys xs_are ys_are first none_first none_second =
    in_both s f window at (all_plain s f window at 32 xs xs_are first none_first)
    (all_plain s f window (at + 32) 32 ys ys_are (λ i low inside. (low_bytes s f window at 32 xs xs_are none_first i (omega arith) (omega arith)).0) none_second)

-- ---- the first byte that cannot follow

-- The bytes before the first marked lane can follow the bytes before them.
module _ (s : CharacterSet) (f : Flavor) (window : List ℕ) (at n len : ℕ) (lanes : List ℕ)
    (are : lanes ≡ map (λ i. mask (not (follows_at s f window i))) (range_with_len at n)) (is : len ≡ prefix_len (λ b. not (leb 0x80 b)) lanes) where
  long : length lanes ≡ n
  long = ap length are ∙ length-map-range_with_len (λ i. mask (not (follows_at s f window i))) at n

  lane : (k : ℕ) → k < n → get_or lanes k 0 ≡ mask (not (follows_at s f window (at + k)))
  lane k inside =
      ap (λ lanes. get_or lanes k 0) are ∙ get_or-map-range_with_len (λ i. mask (not (follows_at s f window i))) at n k (at + k) 0 inside refl

  pub within : len ≤ n
  within = omega (arith, is, long, prefix_len-le-length (λ b. not (leb 0x80 b)) lanes)

  pub passed : AllFollow s f window at len
  passed i low before =
      let k = i - at in
      let place : at + k ≡ i = omega arith in
      let lane_low = not-true _ (prefix_len_passes (λ b. not (leb 0x80 b)) lanes k 0 (omega (arith, is))) in
      subst (λ i. follows_at s f window i ≡ true) place
      (not-false _ (sym (ap (leb 0x80) (lane k (omega (arith, within))) ∙ of_mask _) ∙ lane_low))

  -- The byte of the first marked lane cannot follow the bytes before it.
  pub stopped : len < n → follows_at s f window (at + len) ≡ false
  stopped more =
      let high = not-false _ (ap (λ k. not (leb 0x80 (get_or lanes k 0))) is ∙ prefix_len_stops (λ b. not (leb 0x80 b)) lanes 0 (omega (arith, is, long, more))) in
      not-true _ (sym (ap (leb 0x80) (lane len more) ∙ of_mask _) ∙ high)

-- ---- the place of a block

-- Whether a byte can follow depends only on it and the four bytes before it.
pub follows_agrees : (s : CharacterSet) (f : Flavor) (a b : List ℕ) (i j : ℕ) → ((k : ℕ) → k < 5 → get_or a (i + k) 0 ≡ get_or b (j + k) 0) →
    follows_at s f a i ≡ follows_at s f b j
follows_agrees s f a b i j agree = grind (arith, nat_tests, add-zero)

-- Four zeros (`after_fillers`) precede the input, so that its first bytes have four bytes before
-- them too. Byte i of the input is byte i + 4 after these zeros.
pub after_the_fillers : (bytes : List ℕ) (i : ℕ) → get_or (after_fillers bytes) (i + 4) 0 ≡ get_or bytes i 0
after_the_fillers bytes i = grind (arith, nat_tests)

-- Whether a byte can follow is the same in the bytes and after the four zeros.
pub follows_after : (s : CharacterSet) (f : Flavor) (bytes : List ℕ) (i : ℕ) → follows_at s f (after_fillers bytes) (i + 4) ≡ follows_at s f bytes i
follows_after s f bytes i = grind (arith, nat_tests, follows_agrees, after_the_fillers)

-- ---- a prefix

-- Bytes of a block that can follow the bytes before them can also follow them after the four zeros.
pub follow_after : (s : CharacterSet) (f : Flavor) (bytes : List ℕ) (at n : ℕ) → AllFollow s f bytes at n →
    (i : ℕ) → at + 4 ≤ i → i < at + n + 4 → follows_at s f (after_fillers bytes) i ≡ true
follow_after s f bytes at n each i low inside =
    let place : i - 4 + 4 ≡ i = omega arith in
    subst (λ k. follows_at s f (after_fillers bytes) k ≡ true) place
    (follows_after s f bytes (i - 4) ∙ each (i - 4) (omega arith) (omega arith))

-- If the bytes before `start` can follow each other, and those of a block can, the bytes up to the
-- end of the block can. The block begins at `at + 4`. That is `start`, except that the last block
-- begins before it: it overlaps the block before.
pub follow_up_to : (s : CharacterSet) (f : Flavor) (bytes : List ℕ) (start at n : ℕ) → FirstFollow s f bytes start → at + 4 ≤ start →
    at + n + 4 ≤ length bytes → AllFollow s f bytes at n → FirstFollow s f bytes (at + n + 4)
follow_up_to s f bytes start at n before near room each = record {
  within = room;
  follow = λ i inside.
      ⊎_elim (λ (first : i < start). before.follow i first) (λ (later : start ≤ i). follow_after s f bytes at n each i (omega arith) inside) (cases_lt i start);
}

-- If the next byte cannot follow, the prefix of bytes that can ends there.
pub stop_after : (s : CharacterSet) (f : Flavor) (bytes : List ℕ) (start at n : ℕ) → FirstFollow s f bytes start → at + 4 ≤ start →
    at + n + 4 ≤ length bytes → AllFollow s f bytes at n → (at + n + 4 < length bytes → follows_at s f bytes (at + n) ≡ false) → FollowUpTo s f bytes (at + n + 4)
stop_after s f bytes start at n before near room each stops = record {
  first = follow_up_to s f bytes start at n before near room each;
  stops = λ more. follows_after s f bytes (at + n) ∙ stops more;
}

-- Whether a byte of a prefix can follow does not depend on the bytes after the prefix.
follows_in_prefix : (s : CharacterSet) (f : Flavor) (bytes : List ℕ) (m k : ℕ) → m ≤ length bytes → k < m →
    follows_at s f (after_fillers bytes) k ≡ follows_at s f (after_fillers (take m bytes)) k
follows_in_prefix s f bytes m k fits inside =
    let long = length-take-le m bytes fits in
    ap (λ bytes. follows_at s f (after_fillers bytes) k) (sym (take-append-drop m bytes))
    ∙ follows_agrees s f (after_fillers (take m bytes ++ drop m bytes)) (after_fillers (take m bytes)) k k
    (λ j few. get_or_append_left (after_fillers (take m bytes)) (drop m bytes) 0 (k + j) (omega arith))

-- If the first n bytes of a prefix can follow each other, they can in all bytes.
pub first_of_prefix : (s : CharacterSet) (f : Flavor) (bytes : List ℕ) (m n : ℕ) → m ≤ length bytes → FirstFollow s f (take m bytes) n → FirstFollow s f bytes n
first_of_prefix s f bytes m n fits first =
    let long = length-take-le m bytes fits in
    record {
      within = omega (arith, first.within, long);
      follow = λ k before. follows_in_prefix s f bytes m k fits (omega (arith, before, first.within)) ∙ first.follow k before;
    }

-- The first byte of a prefix that cannot follow is also the first one of all bytes.
pub stop_in_prefix : (s : CharacterSet) (f : Flavor) (bytes : List ℕ) (m n : ℕ) → m ≤ length bytes → n < m → FollowUpTo s f (take m bytes) n → FollowUpTo s f bytes n
stop_in_prefix s f bytes m n fits before up_to = record {
  first = first_of_prefix s f bytes m n fits up_to.first;
  stops = λ more. follows_in_prefix s f bytes m n fits before ∙ up_to.stops (omega (arith, before, length-take-le m bytes fits));
}

-- Characters of one byte can follow each other.
pub ones_follow : (s : CharacterSet) (f : Flavor) (bytes : List ℕ) (n : ℕ) → n ≤ length bytes →
    ((i : ℕ) → i < n → (get_or bytes i 0 < 0x80) × (is_null f (get_or bytes i 0) ≡ false)) → FirstFollow s f bytes n
ones_follow s f bytes n fits ones = record {
  within = fits;
  follow = λ k before.
      let w = get_or (after_fillers bytes) in
      let last = ones k before in
      let is_last : get_or (after_fillers bytes) (k + 4) 0 ≡ get_or bytes k 0 = after_the_fillers bytes k in
      ascii_fits s f (w k 0) (w (k + 1) 0) (w (k + 2) 0) (w (k + 3) 0) (w (k + 4) 0) (low k (omega (arith, before))) (low (k + 1) (omega (arith, before))) (low (k + 2) (omega (arith, before)))
      (low (k + 3) (omega (arith, before))) (omega (arith, is_last, last.0)) (ap (is_null f) is_last ∙ last.1);
}
  where
    low : (k : ℕ) → k < n + 4 → get_or (after_fillers bytes) k 0 < 0x80
    low k before =
        let behind = after_the_fillers bytes (k - 4) in
        ⊎_elim (λ (near : k < 4). ltb-true _ 0x80 (agree_below_at (λ k. ltb (get_or (after_fillers bytes) k 0) 0x80) (λ _. true) 4 k refl near))
        (λ (far : 4 ≤ k). let there : k - 4 + 4 ≡ k = omega arith in grind arith) (cases_lt k 4)
