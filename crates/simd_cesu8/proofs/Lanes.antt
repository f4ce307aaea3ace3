-- Lemmas on a vector with the first lanes of one vector and the other lanes of another.
-- `join_lanes` in `front_to_slice.rt` makes one of the input and of what a buffer has. It is stored
-- whole, so the bytes after the copied ones stay as they were. `sel_l tests xs ys` takes the lane
-- of `xs` if its test is true, and otherwise that of `ys`. `put_chunk i xs ys` is `xs` with `ys`
-- stored at offset i.
use Rattle.std.proofs.Common.{◌≡◌, ℕ, zero, suc, ◌+◌, ◌≤◌, List, [], ◌∷◌, ◌++◌, refl, sym, ap, ◌∙◌, arith, length, map, take, drop, replicate, w8, ltb}
use Rattle.std.specs.List.{range_with_len}
use Rattle.std.proofs.lemmas.Bool.Decides.{nat_tests}
use Rattle.std.proofs.lemmas.Grind.{common_steps}
use Rattle.std.proofs.lemmas.List.FromFn.{length-range_with_len}
use Rattle.std.proofs.lemmas.Simd.{tops_compared, zip2_splat}
use lib.Lanes.{sel_l, zip2, top, put_chunk}
use Rattle.cesu8_bytes.proofs.lists.Lanes.{below}

-- The lanes are numbered from `at` on. If no number is below the bound, the selection is `ys`.
none_before : (bound at : ℕ) (xs ys : List ℕ) → length xs ≡ length ys → bound ≤ at →
    sel_l (map (λ i. ltb i bound) (range_with_len at (length xs))) xs ys ≡ ys
none_before bound at [] [] long le = refl
none_before bound at [] (y ∷ ys) long le = absurd (omega arith)
none_before bound at (x ∷ xs) [] long le = absurd (omega arith)
none_before bound at (x ∷ xs) (y ∷ ys) long le = grind (arith, nat_tests, common_steps, none_before bound (at + 1) xs ys)

-- If only the first `len` lanes have numbers below the bound, the selection has these lanes of the
-- first vector, and the remaining ones of the other.
chosen_before : (len at bound : ℕ) (xs ys : List ℕ) → length xs ≡ length ys → bound ≡ at + len →
    sel_l (map (λ i. ltb i bound) (range_with_len at (length xs))) xs ys ≡ take len xs ++ drop len ys
chosen_before zero at bound xs ys long is = none_before bound at xs ys long (omega arith)
chosen_before (suc len) at bound [] [] long is = refl
chosen_before (suc len) at bound [] (y ∷ ys) long is = absurd (omega arith)
chosen_before (suc len) at bound (x ∷ xs) [] long is = absurd (omega arith)
chosen_before (suc len) at bound (x ∷ xs) (y ∷ ys) long is =
    grind (arith, nat_tests, common_steps, chosen_before len (at + 1) bound xs ys)

-- Comparing the vector 0, 1, 2, .. with `len` in each lane selects the first `len` lanes of one
-- vector, and then those of the other. A lane of a comparison is FF or 00, and its top bit, 7,
-- selects.
pub first_lanes : (size len : ℕ) (xs ys : List ℕ) → length xs ≡ size → length ys ≡ size →
    sel_l (map (top 7) (zip2 below (range_with_len 0 size) (replicate size len))) xs ys ≡ take len xs ++ drop len ys
first_lanes size len xs ys long_xs long_ys =
    ap (λ tests. sel_l tests xs ys)
    (tops_compared w8 ltb (range_with_len 0 size) (replicate size len)
    ∙ zip2_splat ltb (range_with_len 0 size) size len (length-range_with_len 0 size)
    ∙ ap (λ n. map (λ i. ltb i len) (range_with_len 0 n)) (sym long_xs))
    ∙ chosen_before len 0 len xs ys (long_xs ∙ sym long_ys) (omega arith)

-- Storing the start of a list over itself leaves the list unchanged.
stored_again : (size : ℕ) (xs : List ℕ) → put_chunk 0 xs (take size xs) ≡ xs
stored_again zero [] = refl
stored_again zero (x ∷ xs) = refl
stored_again (suc size) [] = refl
stored_again (suc size) (x ∷ xs) = ap (λ rest. x ∷ rest) (stored_again size xs)

-- Storing `size` bytes, of which only the first `len` differ from what is there, writes those `len`
-- bytes alone.
pub prefix_stored : (len size : ℕ) (bytes old : List ℕ) → len ≤ size → size ≤ length bytes → size ≤ length old →
    put_chunk 0 old (take len (take size bytes) ++ drop len (take size old)) ≡ take len bytes ++ drop len old
prefix_stored zero size bytes old le many room = stored_again size old
prefix_stored (suc len) zero bytes old le many room = absurd (omega arith)
prefix_stored (suc len) (suc size) [] old le many room = absurd (omega arith)
prefix_stored (suc len) (suc size) (x ∷ bytes) [] le many room = absurd (omega arith)
prefix_stored (suc len) (suc size) (x ∷ bytes) (y ∷ old) le many room =
    ap (λ rest. x ∷ rest) (prefix_stored len size bytes old (omega arith) (omega arith) (omega arith))
