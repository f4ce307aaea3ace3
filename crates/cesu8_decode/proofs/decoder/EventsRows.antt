-- The shuffles that put replacement characters in place of ill-formed bytes, four bytes at a time:
-- the rows of the table `ROWS` in `pass/events/replaced.rt`. Bit i of a row's number is set if byte
-- i is ill-formed. The last entry of a row is how many bytes it writes. In `kept_of 0 set 0 4`,
-- `set` is the number of the row, the first 0 says that no byte is dropped, and `0 4` that the row
-- packs four bytes, from lane 0 on.
use Rattle.std.proofs.Common.{◌≡◌, ℕ, ◌+◌, ◌-◌, ◌/◌, ◌%◌, ◌^◌, ◌<◌, ◌≤◌, Bool, false, List, [], ◌∷◌, ◌++◌, length, take, drop, get_or, replicate, refl, sym, ap, ◌∙◌, arith, length-drop, bit_and}
use Rattle.std.proofs.lemmas.Bool.{agree_below_at}
use Rattle.std.proofs.lemmas.List.{length-take, length-take-le, take-take, drop-take}
use Rattle.std.proofs.lemmas.Nat.{and_mask}
use Rattle.std.proofs.lemmas.Simd.{pick_l-range_with_len, length-chunk}
use lib.Lanes.{mask_l, put_chunk, chunk}
use Rattle.cesu8_bytes.specs.Packing.{written, kept_of, lanes_at, shuffle_keeping}
use Rattle.cesu8_bytes.specs.Puts.{WritesAt}
use Rattle.cesu8_bytes.proofs.vectors.Packing.{at_most, is_short, end_of_row, row_written, lanes_written, in_four}
use Rattle.cesu8_bytes.proofs.vectors.Rows.{mask_prefix, mask_rest}
use Rattle.cesu8_bytes.proofs.vectors.Tables.{same_list, same_list_is, same_rows}
use Rattle.cesu8_decode.specs.declared.pass.events.replaced.TheConstants.{ROWS}

abbrev kept_by : ℕ → List ℕ
kept_by set = kept_of 0 set 0 4

-- Each row of `ROWS` is the shuffle for its number.
pub rows_are : (set : ℕ) → set < 0x10 → get_or ROWS set [] ≡ shuffle_keeping (kept_of 0 set 0 4)
unfolding same_list same_rows
rows_are set small = grind (arith, same_list_is, agree_below_at, same_rows)

-- `at_most` computes it for all numbers of eight bits, of which the rows use those below 16.
four_at_most : (set : ℕ) → set < 0x100 → length (kept_by set) ≤ 12
unfolding is_short
four_at_most = at_most kept_by 12 refl

module _ (row : List ℕ) (set : ℕ) (small : set < 0x10) (row_is : row ≡ shuffle_keeping (kept_of 0 set 0 4)) where
  -- A row writes at most twelve bytes.
  pub end_of_four : get_or row 15 0 ≤ 12
  end_of_four = end_of_row 4 0 set 12 row row_is (four_at_most set (omega arith)) (omega arith)

  -- What a row packs is what is written for the four bytes.
  pub four_written : (lanes out packed : List ℕ) (at : ℕ) → at + 16 ≤ length out → packed ≡ lanes_at lanes row →
      WritesAt (lanes_at lanes (kept_of 0 set 0 4)) at out (put_chunk at out packed) (at + get_or row 15 0)
  four_written = row_written 4 0 set 12 row row_is (four_at_most set (omega arith)) (omega arith)

-- The lanes hold four bytes, and then a replacement character.
abbrev HasFour : (lanes four : List ℕ) → Type 0
HasFour lanes four = (chunk 0 4 lanes ≡ four) × (chunk 4 3 lanes ≡ 0xEF ∷ 0xBF ∷ 0xBD ∷ [])

kept_is : (lanes four : List ℕ) (set : ℕ) (flags : List Bool) → HasFour lanes four → length flags ≡ 4 → set ≡ mask_l flags →
    lanes_at lanes (kept_of 0 set 0 4) ≡ written (replicate 4 false) flags four
kept_is lanes four set flags has long set_is = grind (arith, length-take, length-drop, lanes_written, pick_l-range_with_len)

chunk_take : (a n m : ℕ) (xs : List Bool) → a + n ≤ m → chunk a n (take m xs) ≡ chunk a n xs
chunk_take a n m xs le =
    ap (λ k. chunk a n (take k xs)) (omega arith) ∙ ap (take n) (drop-take a (m - a) xs) ∙ take-take n (m - a) (drop a xs) (omega arith)

-- Four bits of a mask are those of four tests.
four_bits : (a : ℕ) (tests : List Bool) (set : ℕ) → a + 4 ≤ length tests → set ≡ mask_l tests → bit_and (set / 2 ^ a) 0x0F ≡ mask_l (chunk a 4 tests)
four_bits a tests set le is =
    and_mask (set / 2 ^ a) 4
    ∙ ap (λ m. m % 0x10) (ap (λ m. m / 2 ^ a) is ∙ mask_rest a tests (omega arith))
    ∙ mask_prefix 4 (drop a tests) (omega (arith, length-drop a tests))

first_bits : (tests : List Bool) (set : ℕ) → 4 ≤ length tests → set ≡ mask_l tests → bit_and set 0x0F ≡ mask_l (chunk 0 4 tests)
first_bits tests set le is = and_mask set 4 ∙ ap (λ m. m % 0x10) is ∙ mask_prefix 4 tests le

-- What is packed for four times four lanes is what is written for sixteen.
pub kept_of_half : (tests : List Bool) (bytes : List ℕ) (set : ℕ) (v0 v1 v2 v3 : List ℕ) → 16 ≤ length tests → length bytes ≡ 16 → set ≡ mask_l tests →
    HasFour v0 (chunk 0 4 bytes) → HasFour v1 (chunk 4 4 bytes) → HasFour v2 (chunk 8 4 bytes) → HasFour v3 (chunk 12 4 bytes) →
    lanes_at v0 (kept_of 0 (bit_and set 0x0F) 0 4) ++ (lanes_at v1 (kept_of 0 (bit_and (set / 2 ^ 4) 0x0F) 0 4)
    ++ (lanes_at v2 (kept_of 0 (bit_and (set / 2 ^ 8) 0x0F) 0 4) ++ lanes_at v3 (kept_of 0 (bit_and (set / 2 ^ 12) 0x0F) 0 4)))
    ≡ written (replicate 16 false) (take 16 tests) bytes
kept_of_half tests bytes set v0 v1 v2 v3 long size is h0 h1 h2 h3 =
    let part : (a : ℕ) (lanes : List ℕ) (bits : ℕ) → a + 4 ≤ 16 → HasFour lanes (chunk a 4 bytes) → bits ≡ mask_l (chunk a 4 tests) →
    lanes_at lanes (kept_of 0 bits 0 4) ≡ written (replicate 4 false) (chunk a 4 (take 16 tests)) (chunk a 4 bytes) = λ a lanes bits le has bits_are.
    kept_is lanes (chunk a 4 bytes) bits (chunk a 4 tests) has (length-chunk a 4 tests (omega arith)) bits_are
    ∙ ap (λ flags. written (replicate 4 false) flags (chunk a 4 bytes)) (sym (chunk_take a 4 16 tests le)) in
    let k0 = part 0 v0 (bit_and set 0x0F) (omega arith) h0 (first_bits tests set (omega arith) is) in
    let k1 = part 4 v1 (bit_and (set / 2 ^ 4) 0x0F) (omega arith) h1 (four_bits 4 tests set (omega arith) is) in
    let k2 = part 8 v2 (bit_and (set / 2 ^ 8) 0x0F) (omega arith) h2 (four_bits 8 tests set (omega arith) is) in
    let k3 = part 12 v3 (bit_and (set / 2 ^ 12) 0x0F) (omega arith) h3 (four_bits 12 tests set (omega arith) is) in
    (λ i. k0 i ++ (k1 i ++ (k2 i ++ k3 i)))
    ∙ sym (in_four (replicate 16 false) (take 16 tests) bytes 16 refl (length-take-le 16 tests long) size 4 refl)
