-- Packing by a shuffle that drops some lanes, for `store_eight` and the decoder's `store_four`, and
-- packing 32 bytes by four such shuffles, for `store_kept`. A set of lanes is a number with a bit
-- for each lane: the mask of a list of tests.
use Rattle.std.proofs.lemmas.Grind.{common_steps}
use Rattle.std.proofs.Common.{◌≡◌, ℕ, zero, suc, ◌+◌, ◌/◌, ◌%◌, ◌-◌, ◌^◌, ◌<◌, ◌≤◌, Bool, true, false, cond, List, [], ◌∷◌, ◌++◌, map, length, take, drop, get_or, replicate, leb, refl, sym, ap, ◌∙◌, subst, arith, w8, length-append, append-nil, append_assoc, bit_and}
use Rattle.std.specs.List.{range_with_len}
use Rattle.std.proofs.lemmas.Bool.{agree_below, agree_below_at, leb-true}
use Rattle.std.proofs.lemmas.List.{length-map, length-drop, length-replicate, map-append, drop_all, drop-drop, drop-replicate, take-replicate, take-take, take_at, drop-take, length-take, length-take-le, get_or_at}
use Rattle.std.proofs.lemmas.Nat.{and_mask, and_le_r}
use Rattle.std.proofs.lemmas.Simd.{swz_l, SwzOk, SwzOk-from_below, zip2_splat, length-zip2, length-chunk, map-map, pick_l-range_with_len, Each1-all, Each1-zip2, Each2-splat}
use lib.Lanes.{zip2, mask_l, put_chunk, chunk, Each1}
use Rattle.cesu8_bytes.specs.Packing.{written_for, written, kept_of, lanes_at, shuffle_keeping}
use Rattle.cesu8_bytes.specs.Puts.{WritesAt}
use Rattle.cesu8_bytes.proofs.lists.Stored.{vector_written, first_written}
use Rattle.cesu8_bytes.proofs.vectors.Rows.{lowest, shuffled, first_mask, row_mask}

-- ---- a shuffle by the lower halves of numbers

-- The lower halves of a row's numbers.
abbrev low_halves : List ℕ → List ℕ
low_halves row = zip2 bit_and row (replicate 16 0x0F)

-- The lower halves are below 16.
low_below : (row : List ℕ) → Each1 (λ j. j < 16) (low_halves row)
low_below row =
    Each1-zip2 bit_and (λ j. j < 16) row (replicate 16 0x0F) (Each2-splat (λ a b. bit_and a b < 16) row 16 0x0F
    (Each1-all (λ a. bit_and a 0x0F < 16) (λ a. omega (arith, and_le_r a 0x0F)) row))

-- The lower halves are valid indices of a shuffle.
pub low_ok : (row : List ℕ) → length row ≡ 16 → SwzOk w8 16 16 0 (low_halves row)
low_ok row long = SwzOk-from_below w8 16 1 16 0 (low_halves row) refl (omega (arith, length-zip2 bit_and row (replicate 16 0x0F) long)) (low_below row)

-- The shuffle selects the lanes at these indices.
pub low_picked : (lanes row : List ℕ) → length row ≡ 16 → swz_l w8 16 lanes 0 (low_halves row) ≡ map (λ j. get_or lanes (j % 0x10) 0) row
low_picked lanes row long =
    shuffled lanes (low_halves row) (length-zip2 bit_and row (replicate 16 0x0F) long ∙ long) (low_below row)
    ∙ ap (map (λ j. get_or lanes j 0)) (zip2_splat bit_and row 16 0x0F long)
    ∙ map-map (λ j. get_or lanes j 0) (λ j. bit_and j 0x0F) row
    ∙ (λ i. map (λ j. get_or lanes (and_mask j 4 i) 0) row)

-- ---- what is kept of some bytes

-- If some byte is ill-formed, lanes 4 to 6 have the bytes of U+FFFD: `cesu8_decode` then packs only
-- four bytes at once.
abbrev HasReplacement : (ℕ → ℕ) → ℕ → Type 0
HasReplacement lane ill_formed = 0 < ill_formed → map lane (4 ∷ 5 ∷ 6 ∷ []) ≡ 0xEF ∷ 0xBF ∷ 0xBD ∷ []

-- The lanes kept for one byte are what is written for it.
kept_one : (g : ℕ → ℕ) (i : ℕ) (s d : Bool) (xs ys : List ℕ) → (d ≡ true → map g (4 ∷ 5 ∷ 6 ∷ []) ≡ 0xEF ∷ 0xBF ∷ 0xBD ∷ []) → map g xs ≡ ys →
    map g (cond d (4 ∷ 5 ∷ 6 ∷ []) (cond s [] (i ∷ [])) ++ xs) ≡ written_for s d (g i) ++ ys
kept_one g i s d xs ys r e = grind (arith, common_steps)

-- The lanes that are kept are what is written.
kept_written : (g : ℕ → ℕ) (dropped ill_formed : List Bool) (i : ℕ) → length ill_formed ≡ length dropped → HasReplacement g (mask_l ill_formed) →
    map g (kept_of (mask_l dropped) (mask_l ill_formed) i (length dropped)) ≡ written dropped ill_formed (map g (range_with_len i (length dropped)))
kept_written g [] ill_formed i e r = refl
kept_written g (s ∷ dropped) [] i e r = absurd (omega arith)
kept_written g (s ∷ dropped) (d ∷ ill_formed) i e r =
    let lowest_dropped = lowest s (mask_l dropped) in
    let replaced = lowest d (mask_l ill_formed) in
    let here = λ (is : d ≡ true). r (grind arith) in
    let later = λ (some : 0 < mask_l ill_formed). r (omega arith) in
    rw (lowest_dropped.0, lowest_dropped.1, replaced.0, replaced.1) (kept_one g i s d _ _ here (kept_written g dropped ill_formed (i + 1) (omega arith) later))

-- If two sets of lanes are the masks of two lists of tests, the lanes that packing keeps for these
-- sets are what is written for the tests.
pub lanes_written : (n dropped_set ill_formed_set : ℕ) (lanes : List ℕ) (dropped ill_formed : List Bool) → length dropped ≡ n → length ill_formed ≡ n →
    dropped_set ≡ mask_l dropped → ill_formed_set ≡ mask_l ill_formed → lanes_at lanes (range_with_len 0 n) ≡ chunk 0 n lanes →
    HasReplacement (λ j. get_or lanes (j % 0x10) 0) ill_formed_set →
    lanes_at lanes (kept_of dropped_set ill_formed_set 0 n) ≡ written dropped ill_formed (chunk 0 n lanes)
lanes_written n dropped_set ill_formed_set lanes dropped ill_formed g d dropped_is ill_formed_is front replacement = grind (arith, common_steps, kept_written)

-- ---- a row that keeps some lanes

-- Whether at most so many lanes are kept for a set.
unfoldable pub is_short : (ℕ → List ℕ) → ℕ → ℕ → Bool
is_short kept bound set = leb (length (kept set)) bound

-- If a computation over all 256 sets says so, at most so many lanes are kept for each.
pub at_most : (kept : ℕ → List ℕ) (bound : ℕ) → agree_below (is_short kept bound) (λ _. true) 0x100 ≡ true →
    (set : ℕ) → set < 0x100 → length (kept set) ≤ bound
unfolding is_short
at_most kept bound e set l = leb-true _ _ (agree_below_at (is_short kept bound) (λ _. true) 0x100 set e l)

module _ (n dropped_set ill_formed_set bound : ℕ) (row : List ℕ) (row_is : row ≡ shuffle_keeping (kept_of dropped_set ill_formed_set 0 n))
    (bounded : length (kept_of dropped_set ill_formed_set 0 n) ≤ bound) (fits : bound ≤ 15) where
  abbrev kept : List ℕ
  kept = kept_of dropped_set ill_formed_set 0 n

  -- The unused numbers of the row.
  abbrev zeros : List ℕ
  zeros = replicate (15 - length kept) 0

  -- A row has 15 numbers before its last.
  prefix_long : length (kept ++ zeros) ≡ 15
  prefix_long = omega (arith, length-append kept zeros, length-replicate {A = ℕ} (15 - length kept) 0)

  -- The last number of a row is how many lanes it keeps.
  last_is : get_or row 15 0 ≡ length kept
  last_is = ap (λ r. get_or r 15 0) row_is ∙ get_or_at (kept ++ zeros) (length kept) [] 0 15 prefix_long

  -- The last number of a row is at most the bound.
  pub end_of_row : get_or row 15 0 ≤ bound
  end_of_row = omega (arith, last_is)

  -- Storing all lanes of a row writes those that it keeps.
  pub row_written : (lanes out packed : List ℕ) (at : ℕ) → at + 16 ≤ length out → packed ≡ lanes_at lanes row →
      WritesAt (lanes_at lanes kept) at out (put_chunk at out packed) (at + get_or row 15 0)
  row_written lanes out packed at room is =
      let long : length (lanes_at lanes row) ≡ 16 =
      omega (arith, length-map row (λ j. get_or lanes (j % 0x10) 0), ap length row_is, length-append (kept ++ zeros) (length kept ∷ []), prefix_long) in
      rw is (subst (λ bs. WritesAt bs at out (put_chunk at out (lanes_at lanes row)) (at + get_or row 15 0)) (prefix_is lanes)
      (first_written (get_or row 15 0) at (at + 16) (lanes_at lanes row) out _ (omega (arith, end_of_row)) (omega arith)
      (vector_written at (at + 16) (lanes_at lanes row) out (omega arith) room)))
    where
      prefix_is : (lanes : List ℕ) → take (get_or row 15 0) (lanes_at lanes row) ≡ lanes_at lanes kept
      prefix_is lanes = grind (arith, common_steps, last_is, length-map, map-append, take_at, append_assoc)

-- ---- eight bytes

-- The lanes that a row of eight bytes keeps.
abbrev kept_of_eight : ℕ → List ℕ
kept_of_eight dropped = kept_of dropped 0 0 8

-- A row of eight bytes keeps at most eight lanes.
pub at_most_eight : (dropped : ℕ) → dropped < 0x100 → length (kept_of_eight dropped) ≤ 8
unfolding is_short
at_most_eight = at_most kept_of_eight 8 refl

-- ---- bytes in parts

-- What is written for bytes is what is written for the first n, then what is written for the rest.
written_parts : (n : ℕ) (dropped ill_formed : List Bool) (bytes : List ℕ) → length dropped ≡ length ill_formed → length dropped ≡ length bytes →
    written dropped ill_formed bytes ≡ written (take n dropped) (take n ill_formed) (take n bytes) ++ written (drop n dropped) (drop n ill_formed) (drop n bytes)
written_parts zero dropped ill_formed bytes e f = refl
written_parts (suc n) [] ill_formed bytes e f = refl
written_parts (suc n) (g ∷ dropped) [] bytes e f = absurd (omega arith)
written_parts (suc n) (g ∷ dropped) (d ∷ ill_formed) [] e f = absurd (omega arith)
written_parts (suc n) (g ∷ dropped) (d ∷ ill_formed) (b ∷ bytes) e f =
    grind (arith, append_assoc, written_parts n dropped ill_formed bytes)

module _ (dropped ill_formed : List Bool) (bytes : List ℕ) where
  -- What is written for n bytes from a on.
  abbrev pub part : ℕ → ℕ → List ℕ
  part a n = written (chunk a n dropped) (chunk a n ill_formed) (chunk a n bytes)

  -- What is written for all bytes from a on.
  abbrev rest : ℕ → List ℕ
  rest a = written (drop a dropped) (drop a ill_formed) (drop a bytes)

  module _ (long : ℕ) (g : length dropped ≡ long) (d : length ill_formed ≡ long) (b : length bytes ≡ long) where
    next : (a n : ℕ) → rest a ≡ part a n ++ rest (a + n)
    next a n =
        written_parts n (drop a dropped) (drop a ill_formed) (drop a bytes)
        (omega (arith, length-drop a dropped, length-drop a ill_formed)) (omega (arith, length-drop a dropped, length-drop a bytes))
        ∙ rw (drop-drop n a dropped, drop-drop n a ill_formed, drop-drop n a bytes) refl

    -- The last part is all that is left.
    last : (a n : ℕ) → a + n ≡ long → rest a ≡ part a n
    last a n e = next a n ∙ rw (drop_all (a + n) dropped (omega arith)) (append-nil (part a n))

    -- What is written for all bytes is what is written for four parts in turn.
    pub in_four : (n : ℕ) → 0 + n + n + n + n ≡ long → rest 0 ≡ part 0 n ++ (part (0 + n) n ++ (part (0 + n + n) n ++ part (0 + n + n + n) n))
    in_four n e = rw (next 0 n, next (0 + n) n, next (0 + n + n) n, last (0 + n + n + n) n e) refl

-- ---- 32 bytes

-- A chunk of a prefix is a chunk of the whole.
chunk_take : {X : Type 0} (a n m : ℕ) (xs : List X) → a + n ≤ m → chunk a n (take m xs) ≡ chunk a n xs
chunk_take a n m xs le =
    ap (λ k. chunk a n (take k xs)) (omega arith) ∙ ap (take n) (drop-take a (m - a) xs) ∙ take-take n (m - a) (drop a xs) (omega arith)

module _ (tests : List Bool) (bytes : List ℕ) (t : 32 ≤ length tests) (b : length bytes ≡ 32) where
  abbrev none : List Bool
  none = replicate 32 false

  -- What is written for eight bytes from a on.
  abbrev eight : ℕ → List ℕ
  eight a = part (take 32 tests) none bytes a 8

  -- The lanes of a vector that are kept if those of a set are dropped.
  abbrev kept_by : List ℕ → ℕ → List ℕ
  kept_by lanes set = lanes_at lanes (kept_of_eight set)

  -- The lanes that the row of eight bytes keeps are what is written for them.
  kept_is : (lanes : List ℕ) (a set : ℕ) → a + 8 ≤ 32 → chunk 0 8 lanes ≡ chunk a 8 bytes → set ≡ mask_l (chunk a 8 tests) → kept_by lanes set ≡ eight a
  kept_is lanes a set le lanes_are set_is =
      let whole : chunk a 8 none ≡ replicate 8 false = ap (take 8) (drop-replicate a 32 false) ∙ take-replicate 8 (32 - a) false (omega arith) in
      let long : 8 ≤ length lanes = omega (arith, ap length lanes_are, length-chunk a 8 bytes (omega arith), length-take 8 lanes) in
      lanes_written 8 set 0 lanes (chunk a 8 tests) (replicate 8 false) (length-chunk a 8 tests (omega arith)) refl set_is refl
      (pick_l-range_with_len 0 lanes 0 8 (omega arith)) (λ some. absurd (omega arith))
      ∙ (λ i. written (sym (chunk_take a 8 32 tests le) i) (sym whole i) (lanes_are i))

  -- What four rows of eight bytes keep is what is written for 32 bytes.
  pub kept_of_four : (v0 v1 v2 v3 : List ℕ) (set : ℕ) → set ≡ mask_l tests →
      chunk 0 8 v0 ≡ chunk 0 8 bytes → chunk 0 8 v1 ≡ chunk 8 8 bytes → chunk 0 8 v2 ≡ chunk 16 8 bytes → chunk 0 8 v3 ≡ chunk 24 8 bytes →
      kept_by v0 (bit_and set 0xFF) ++ (kept_by v1 (bit_and (set / 2 ^ 8) 0xFF)
      ++ (kept_by v2 (bit_and (set / 2 ^ 16) 0xFF) ++ kept_by v3 (bit_and (set / 2 ^ 24) 0xFF))) ≡ written (take 32 tests) none bytes
  kept_of_four v0 v1 v2 v3 set is is0 is1 is2 is3 =
      let row = λ (a : ℕ) (le : a + 8 ≤ 32). row_mask a tests set (omega arith) is in
      let k0 = kept_is v0 0 (bit_and set 0xFF) (omega arith) is0 (first_mask tests set (omega arith) is) in
      let k1 = kept_is v1 8 (bit_and (set / 2 ^ 8) 0xFF) (omega arith) is1 (row 8 (omega arith)) in
      let k2 = kept_is v2 16 (bit_and (set / 2 ^ 16) 0xFF) (omega arith) is2 (row 16 (omega arith)) in
      let k3 = kept_is v3 24 (bit_and (set / 2 ^ 24) 0xFF) (omega arith) is3 (row 24 (omega arith)) in
      (λ i. k0 i ++ (k1 i ++ (k2 i ++ k3 i)))
      ∙ sym (in_four (take 32 tests) none bytes 32 (length-take-le 32 tests t) refl b 8 refl)
