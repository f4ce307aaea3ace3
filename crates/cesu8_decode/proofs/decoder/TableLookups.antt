-- `pair_classes` of src/lanes/following.rt classifies each pair of bytes by three look-ups in
-- tables of 16 entries (`look_up`). These lemmas say that the lanes get the bits that the three
-- entries have in common (`table_bits_are`), and when these equal a given function of two bytes
-- (`bits_by_halves`).
use Rattle.std.proofs.lemmas.Bool.Decides.{nat_tests}
use Rattle.std.proofs.lemmas.Grind.{same_number_lists}
use Rattle.std.proofs.Common.{◌≡◌, ℕ, ◌+◌, ◌*◌, ◌/◌, ◌%◌, ◌^◌, ◌<◌, Bool, true, false, ◌&&◌, List, ◌++◌, map, length, get_or, replicate, eqb, leb, ltb, bit_and, refl, sym, ap, ◌∙◌, arith, w8}
use Rattle.std.specs.List.{range_with_len}
use Rattle.std.proofs.lemmas.Bool.{agree_below, agree_below_at, eqb-true}
use Rattle.std.proofs.lemmas.List.{length-map, get_or-map, get_or_append_left}
use Rattle.std.proofs.lemmas.Nat.{and_mask}
use Rattle.std.proofs.lemmas.Simd.{SwzOk, swz_l, SwzOk-from_below, length-swz_l, get_or-swz_l_below, length-zip2, get_or-zip2, get_or-replicate, Each1-from_get_or}
use lib.Lanes.{zip2, pick_l}
use Rattle.cesu8_decode.specs.Following.{table_bits}
use Rattle.cesu8_decode.proofs.decoder.LanesByIndex.{lanes_are}

-- ---- tests of bytes

pub and_false : (t : Bool) → (t && false) ≡ false
and_false t = grind arith

-- A byte with its lower half cleared.
abbrev pub half : ℕ → ℕ
half b = b / 0x10 * 0x10

-- The tables agree with a function of two bytes at number i, which has twelve bits: the upper eight
-- are the first byte, and the lower four are the upper half of the second.
abbrev tells_at : (high low next : List ℕ) → (ℕ → ℕ → ℕ) → ℕ → Bool
tells_at high low next tells i = eqb (table_bits high low next (i / 0x10) (i % 0x10 * 0x10)) (tells (i / 0x10) (i % 0x10 * 0x10))

-- Tables agree with a function of two bytes if they agree for each first byte and each upper half
-- of the second, and the function does not depend on the second byte's lower half.
pub bits_by_halves : (high low next : List ℕ) (tells : ℕ → ℕ → ℕ) → agree_below (tells_at high low next tells) (λ _. true) 0x1000 ≡ true →
    ((a b : ℕ) → tells a (half b) ≡ tells a b) → (a b : ℕ) → a < 0x100 → b < 0x100 → table_bits high low next a b ≡ tells a b
bits_by_halves high low next tells agree by_half a b ha hb =
    let n = b / 0x10 in
    let i = a * 0x10 + n in
    let e0 : i / 0x10 ≡ a = omega arith in
    let e1 : i % 0x10 ≡ n = omega arith in
    let e2 : n * 0x10 / 0x10 % 0x10 ≡ b / 0x10 % 0x10 = omega arith in
    let at_half : table_bits high low next a (half b) ≡ tells a (half b) =
    eqb-true _ _ (rw (e0, e1) at (agree_below_at (tells_at high low next tells) (λ _. true) 0x1000 i agree (omega arith))) in
    rw e2 at at_half ∙ by_half a b

-- The upper half of a byte decides whether the byte is less than a multiple of 10 (hexadecimal).
pub half_tests : (b k : ℕ) → (leb (k * 0x10) (half b) ≡ leb (k * 0x10) b) × (ltb (half b) (k * 0x10) ≡ ltb b (k * 0x10))
half_tests b k = grind (arith, nat_tests)

-- ---- a look-up by the lower half of each lane

-- The 32 indices with which a table of 16 entries is repeated in a vector of 32 lanes.
abbrev twice : List ℕ
twice = range_with_len 0 16 ++ range_with_len 0 16

-- The lower half of each lane: its index in the table.
abbrev halves : List ℕ → List ℕ
halves lanes = zip2 bit_and lanes (replicate 32 15)

module _ (lanes : List ℕ) (long : length lanes ≡ 32) where
  halves_long : length (halves lanes) ≡ 32
  halves_long = length-zip2 bit_and lanes (replicate 32 15) long ∙ long

  half_at : (k : ℕ) → k < 32 → get_or (halves lanes) k 0 ≡ get_or lanes k 0 % 16
  half_at k small =
      get_or-zip2 bit_and lanes (replicate 32 15) k 0 0 0 (omega arith) small
      ∙ ap (bit_and (get_or lanes k 0)) (get_or-replicate 32 k 15 0 small) ∙ and_mask (get_or lanes k 0) 4

  -- The indices are within the table.
  pub halves_ok : SwzOk w8 16 32 0 (halves lanes)
  halves_ok =
      SwzOk-from_below w8 16 2 32 0 (halves lanes) refl (omega (arith, halves_long))
      (Each1-from_get_or (λ j. j < 16) (halves lanes) 0 (λ k small. let inside : k < 32 = omega (arith, halves_long) in omega (arith, half_at k inside)))

  module _ (table : List ℕ) (whole : length table ≡ 16) where
    in_table : (n : ℕ) → n < 32 → get_or (pick_l 0 (table ++ table) twice) n 0 ≡ get_or table (n % 16) 0
    in_table n small =
        let offset = eqb-true (get_or twice n 0) (n % 16) (agree_below_at (λ n. eqb (get_or twice n 0) (n % 16)) (λ _. true) 32 n refl small) in
        get_or-map (λ k. get_or (table ++ table) k 0) twice n 0 0 small ∙ ap (λ p. get_or (table ++ table) p 0) offset
        ∙ get_or_append_left table table 0 (n % 16) (omega arith)

    abbrev found : List ℕ
    found = swz_l w8 16 (pick_l 0 (table ++ table) twice) 0 (halves lanes)

    entry_at : (k : ℕ) → k < 32 → get_or found k 0 ≡ get_or (map (λ lane. get_or table (lane % 16) 0) lanes) k 0
    entry_at k small =
        let half = half_at k small in
        let n = 16 * ((0 + k) / 16) + get_or (halves lanes) k 0 in
        let entry : n % 16 ≡ get_or lanes k 0 % 16 = omega arith in
        get_or-swz_l_below w8 16 (pick_l 0 (table ++ table) twice) 0 (halves lanes) k (omega (arith, halves_long)) (omega arith)
        ∙ in_table n (omega arith) ∙ ap (λ p. get_or table p 0) entry
        ∙ sym (get_or-map (λ lane. get_or table (lane % 16) 0) lanes k 0 0 (omega arith))

    -- A look-up gives the entry for each lane.
    pub entries : found ≡ map (λ lane. get_or table (lane % 16) 0) lanes
    entries = grind (arith, nat_tests, length-swz_l, halves_long, same_number_lists, length-map, entry_at)

-- ---- three look-ups

abbrev shr : ℕ → ℕ → ℕ
shr a b = a / 2 ^ b

-- Three look-ups give the bits that the entries for each pair of bytes have in common.
pub table_bits_are : (by_high by_low by_next first second : List ℕ) → length first ≡ 32 → length second ≡ 32 →
    zip2 bit_and (zip2 bit_and (map (λ lane. get_or by_high (lane % 16) 0) (zip2 shr first (replicate 32 4)))
    (map (λ lane. get_or by_low (lane % 16) 0) first)) (map (λ lane. get_or by_next (lane % 16) 0) (zip2 shr second (replicate 32 4)))
    ≡ zip2 (table_bits by_high by_low by_next) first second
table_bits_are by_high by_low by_next first second long long_second = rw (lanes_are first long, lanes_are second long_second) refl
