-- Fewer than 16 bytes fill a part of the first half. Otherwise the last 16 bytes of the slice are
-- loaded for the second half. The shuffle moves those that the first half lacks to the start, and
-- fills the rest with zeros.
use Rattle.std.proofs.Common.{◌≡◌, ◌+◌, ◌-◌, ◌++◌, ℕ, List, length, length-append, take, take_all, drop, length-drop, replicate, sym, ap, ◌∙◌, arith, append_assoc, refl, w8}
use Rattle.std.specs.List.{range_with_len}
use Rattle.std.proofs.lemmas.List.{replicate-append-replicate, take-append-drop, drop-drop, length-replicate, length-take-le}
use Rattle.std.proofs.lemmas.Simd.{swz_l, pick_l-range_with_len}
use lib.Lanes.{pick_l}
use Rattle.cesu8_bytes.proofs.vectors.Padded.{indices_from, indices_ok, moved}
use Rattle.cesu8_bytes.proofs.lanes.padded.padded_half.Goals as goal

-- The shuffle with the indices 0 to 31 concatenates two halves.
picked : (first second : List ℕ) → length first ≡ 16 → length second ≡ 16 → pick_l 0 (first ++ second) (range_with_len 0 32) ≡ first ++ second
picked first second long other_long =
    let both = length-append first second in
    pick_l-range_with_len 0 (first ++ second) 0 32 (omega (arith, both, long, other_long))
    ∙ take_all 32 (first ++ second) (omega (arith, both, long, other_long))

pub returns-then-bytes-lt-HALF : goal.returns-then-bytes-lt-HALF
returns-then-bytes-lt-HALF c =
    let bytes = c.args.bytes.now in
    let rest = 16 - length bytes in
    let few = bytes ++ replicate rest 0 in
    let long = length-append bytes (replicate rest 0) in
    ap (λ first. pick_l 0 (first ++ replicate 16 0) (range_with_len 0 32)) c.padded_sixteen.ensures
    ∙ picked few (replicate 16 0) (omega (arith, long, length-replicate {A = ℕ} rest 0, c.if-bytes-lt-HALF.true)) refl
    ∙ append_assoc bytes (replicate rest 0) (replicate 16 0)
    ∙ ap (λ zs. bytes ++ zs) (replicate-append-replicate rest 16 0)
    ∙ ap (λ n. bytes ++ replicate n 0) (omega (arith, c.if-bytes-lt-HALF.true))

pub swizzle-second : goal.swizzle-second
swizzle-second c = indices_ok (32 - length c.args.bytes.now) (omega arith)

pub returns : goal.returns
returns c =
    let bytes = c.args.bytes.now in
    let n = length bytes in
    let many = c.if-bytes-lt-HALF.false in
    let place : n - 16 + (32 - n) ≡ 16 = omega (arith, many) in
    let rest = drop-drop (32 - n) (n - 16) bytes ∙ ap (λ k. drop k bytes) place in
    let last = take_all 16 (drop (n - 16) bytes) (omega (arith, length-drop (n - 16) bytes)) in
    let second = ap (λ last. swz_l w8 16 last 0 (indices_from (32 - n))) last
    ∙ moved (drop (n - 16) bytes) (32 - n) (omega (arith, length-drop (n - 16) bytes)) (omega arith)
    ∙ ap (λ rest. rest ++ replicate {A = ℕ} (32 - n) 0) rest in
    ap (λ second. pick_l 0 (take 16 bytes ++ second) (range_with_len 0 32)) second
    ∙ picked (take 16 bytes) (drop 16 bytes ++ replicate (32 - n) 0) (length-take-le 16 bytes (omega (arith, many)))
    (omega (arith, length-append (drop 16 bytes) (replicate (32 - n) 0), length-drop 16 bytes, length-replicate {A = ℕ} (32 - n) 0, many))
    ∙ sym (append_assoc (take 16 bytes) (drop 16 bytes) (replicate (32 - n) 0))
    ∙ ap (λ front. front ++ replicate (32 - n) 0) (take-append-drop 16 bytes)
