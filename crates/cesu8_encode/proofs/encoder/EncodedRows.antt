-- Packing eight bytes by a shuffle, for `store_row`, and 32 bytes by four, for `store_block`. Each
-- byte of UTF-8 becomes one or two bytes: `seconds` has the last of them, and `firsts` the one
-- before it. The tests `ts`, whose mask is `d`, say which bytes become two.
use Rattle.std.proofs.lemmas.Bool.Decides.{nat_tests}
use Rattle.std.proofs.lemmas.Grind.{common_steps}
use Rattle.std.proofs.Common.{◌≡◌, ℕ, zero, suc, ◌+◌, ◌<◌, ◌≤◌, Bool, true, List, [], ◌∷◌, ◌++◌, map, length, take, drop, get_or, append_assoc, eqb, ltb, refl, sym, ◌∙◌, subst, arith, w8, count_ones, eqb-true, append-nil, ◌/◌, ◌%◌, ◌^◌, ap, bit_and}
use Rattle.std.specs.List.{range_with_len, list_all}
use Rattle.std.proofs.lemmas.Bool.{agree_below_at, ltb-true}
use Rattle.std.proofs.lemmas.List.Elements.{All-get_or}
use Rattle.std.proofs.lemmas.List.Sums.{AllPass-from_list_all}
use Rattle.std.proofs.lemmas.List.{length-map, length-drop, map-append, drop_all, drop-drop}
use Rattle.std.proofs.lemmas.Simd.{swz_l, SwzOk, SwzOk-from_below, pick_l-range_with_len, ones-mask_l_cons, Each1-from_get_or}
use Rattle.std.proofs.lemmas.Nat.{and_mask, mod-pow-add}
use Rattle.std.proofs.Math.Nat.{div-div-eq-div-mul}
use lib.Count.{ones_cat}
use lib.Lanes.{mask_l, put_chunk, chunk, pick_l, Each1}
use Rattle.cesu8_encode.specs.EncodedOffsets.{packed, kept_lanes, shuffle_of}
use Rattle.cesu8_bytes.proofs.vectors.Rows.{lowest, shuffled, stored_prefix, lanes_of_first, lanes_of_second}

-- The lanes that the shuffle keeps are what is packed.
kept_packed : (g : ℕ → ℕ) (ts : List Bool) (i : ℕ) →
    map g (kept_lanes (mask_l ts) i (length ts)) ≡ packed ts (map g (range_with_len (8 + i) (length ts))) (map g (range_with_len i (length ts)))
kept_packed g [] i = refl
kept_packed g (t ∷ ts) i =
    let low = lowest t (mask_l ts) in
    let next : 8 + i + 1 ≡ 8 + (i + 1) = omega arith in
    rw (low.0, low.1, next) (grind (arith, common_steps, kept_packed g ts (i + 1)))

-- The shuffle keeps one lane for each byte, and one more for each set bit.
length_kept : (ts : List Bool) (i : ℕ) → length (kept_lanes (mask_l ts) i (length ts)) ≡ length ts + count_ones (mask_l ts)
unfolding lib.Count.ones
length_kept [] i = refl
length_kept (t ∷ ts) i =
    let low = lowest t (mask_l ts) in
    rw (low.0, low.1) (grind (arith, common_steps, ones-mask_l_cons t ts, length_kept ts (i + 1)))

-- ---- shuffles

-- Each index of a shuffle is below 16.
shuffle_below : (d : ℕ) → d < 0x100 → Each1 (λ j. j < 16) (shuffle_of d)
shuffle_below d l =
    let low = AllPass-from_list_all (λ j. ltb j 16) (shuffle_of d) (agree_below_at (λ d. list_all (λ j. ltb j 16) (shuffle_of d)) (λ d. true) 0x100 d refl l) in
    Each1-from_get_or (λ j. j < 16) (shuffle_of d) 0 (λ m within. ltb-true _ _ (All-get_or (λ j. ltb j 16 ≡ true) (shuffle_of d) m 0 within low))

-- A shuffle has sixteen indices.
shuffle_long : (d : ℕ) → d < 0x100 → length (shuffle_of d) ≡ 16
shuffle_long d l = eqb-true _ _ (agree_below_at (λ d. eqb (length (shuffle_of d)) 16) (λ d. true) 0x100 d refl l)

-- The indices of a shuffle are valid for sixteen lanes.
pub shuffle_ok : (d : ℕ) (row : List ℕ) → d < 0x100 → row ≡ shuffle_of d → SwzOk w8 16 16 0 row
shuffle_ok d row l is = subst (SwzOk w8 16 16 0) (sym is) (SwzOk-from_below w8 16 1 16 0 (shuffle_of d) refl (omega (arith, shuffle_long d l)) (shuffle_below d l))

-- ---- a row that is stored

module _ (out lanes row : List ℕ) (at d : ℕ) (ts : List Bool)
    (lanes_long : length lanes ≡ 16) (small : d < 0x100) (row_is : row ≡ shuffle_of d)
    (room : at + 16 ≤ length out) (ts_long : length ts ≡ 8) (d_is : d ≡ mask_l ts) where
  abbrev lane : ℕ → ℕ
  lane j = get_or lanes j 0

  -- The indices of the lanes that the row keeps.
  abbrev kept : List ℕ
  kept = kept_lanes d 0 8

  -- The lanes that the row keeps are what is packed.
  kept_is : map lane kept ≡ packed ts (chunk 8 8 lanes) (chunk 0 8 lanes)
  kept_is =
      rw (← d_is, ts_long) at (kept_packed lane ts 0)
      ∙ rw (pick_l-range_with_len 0 lanes 8 8 (omega arith), pick_l-range_with_len 0 lanes 0 8 (omega arith)) refl

  -- A row keeps eight lanes, and one more for each set bit.
  kept_long : length kept ≡ 8 + count_ones d
  kept_long = rw (← d_is, ts_long) at (length_kept ts 0)

  -- After a row is stored, the bytes before it are as before, and what is packed follows them.
  pub stored_row : (end : ℕ) → end ≡ at + 8 + count_ones d →
      take end (put_chunk at out (swz_l w8 16 lanes 0 row)) ≡ take at out ++ packed ts (chunk 8 8 lanes) (chunk 0 8 lanes)
  stored_row end end_is = grind (arith, nat_tests, common_steps, kept_is, kept_long, length-map, map-append, shuffle_below, shuffle_long, shuffled, stored_prefix, swz_l)

-- ---- four rows

-- Packing a list packs its first n bytes, and then the rest.
packed_parts : (n : ℕ) (ts : List Bool) (firsts seconds : List ℕ) → length ts ≡ length firsts → length ts ≡ length seconds →
    packed ts firsts seconds ≡ packed (take n ts) (take n firsts) (take n seconds) ++ packed (drop n ts) (drop n firsts) (drop n seconds)
packed_parts zero ts firsts seconds e f = refl
packed_parts (suc n) [] firsts seconds e f = refl
packed_parts (suc n) (t ∷ ts) [] seconds e f = absurd (omega arith)
packed_parts (suc n) (t ∷ ts) (a ∷ firsts) [] e f = absurd (omega arith)
packed_parts (suc n) (t ∷ ts) (a ∷ firsts) (b ∷ seconds) e f = grind (arith, common_steps, packed_parts n ts firsts seconds)

module _ (firsts seconds : List ℕ) (ts : List Bool) (f : length firsts ≡ 32) (s : length seconds ≡ 32) (t : length ts ≡ 32) where
  -- The vector of a row: eight seconds and eight firsts.
  abbrev halves : ℕ → List ℕ
  halves a = pick_l 0 (seconds ++ firsts) (range_with_len a 8 ++ range_with_len (32 + a) 8)

  -- What is packed for a row.
  abbrev row : ℕ → List ℕ
  row a = packed (chunk a 8 ts) (chunk 8 8 (halves a)) (chunk 0 8 (halves a))

  -- Packing from byte a on packs a row, and then the rest.
  part : (a : ℕ) → a + 8 ≤ 32 → packed (drop a ts) (drop a firsts) (drop a seconds) ≡ row a ++ packed (drop (a + 8) ts) (drop (a + 8) firsts) (drop (a + 8) seconds)
  part a le =
      packed_parts 8 (drop a ts) (drop a firsts) (drop a seconds)
      (omega (arith, length-drop a ts, length-drop a firsts)) (omega (arith, length-drop a ts, length-drop a seconds))
      ∙ rw (drop-drop 8 a ts, drop-drop 8 a firsts, drop-drop 8 a seconds, lanes_of_first seconds firsts a 8 (omega arith), lanes_of_second seconds firsts 32 a 8 s (omega arith)) refl

  -- Four rows in turn are the packed block: x0 is what precedes the block, and each of x1 to x4 has
  -- one row more.
  pub four_rows : (x0 x1 x2 x3 x4 : List ℕ) → x1 ≡ x0 ++ row 0 → x2 ≡ x1 ++ row 8 → x3 ≡ x2 ++ row 16 → x4 ≡ x3 ++ row 24 →
      x4 ≡ x0 ++ packed ts firsts seconds
  four_rows x0 x1 x2 x3 x4 e1 e2 e3 e4 =
      let last : packed (drop 32 ts) (drop 32 firsts) (drop 32 seconds) ≡ [] = rw (drop_all 32 ts (omega arith)) refl in
      grind (arith, append_assoc, append-nil, part 0 (omega arith), part 8 (omega arith), part 16 (omega arith), part 24 (omega arith), last)

-- The first 24 bits have as many set bits as the first three rows together, which have eight each.
pub rows_count : (d : ℕ) →
    count_ones (d % 2 ^ 24) ≡ count_ones (bit_and d 0xFF) + count_ones (bit_and (d / 2 ^ 8) 0xFF) + count_ones (bit_and (d / 2 ^ 16) 0xFF)
rows_count d =
    let first = ap count_ones (mod-pow-add d 16 8) ∙ ones_cat 8 (d / 2 ^ 8 % 2 ^ 16) (d % 2 ^ 8) (omega arith) in
    let second = ap count_ones (mod-pow-add (d / 2 ^ 8) 8 8)
    ∙ ones_cat 8 (d / 2 ^ 8 / 2 ^ 8 % 2 ^ 8) (d / 2 ^ 8 % 2 ^ 8) (omega arith) in
    let third : d / 2 ^ 8 / 2 ^ 8 ≡ d / 2 ^ 16 = div-div-eq-div-mul d (2 ^ 8) (2 ^ 8) in
    omega (arith, first, second, ap (λ m. count_ones (m % 2 ^ 8)) third, ap count_ones (and_mask d 8), ap count_ones (and_mask (d / 2 ^ 8) 8), ap count_ones (and_mask (d / 2 ^ 16) 8))
