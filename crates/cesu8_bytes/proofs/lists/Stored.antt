-- Bytes and vectors that are stored into a list of bytes.
use Rattle.std.proofs.Common.{◌≡◌, ℕ, zero, suc, ◌+◌, ◌*◌, ◌-◌, ◌≤◌, List, [], ◌∷◌, ◌++◌, refl, sym, ap, ◌∙◌, arith, length, length-append, take, drop}
use lib.Lanes.{put_chunk}
use Rattle.std.proofs.lemmas.List.{append_assoc, length-drop, length-take-le, take-append-drop, take-take}
use Rattle.std.proofs.Math.Seq.{take-append-add, take-add}
use Rattle.std.proofs.lemmas.Simd.{length-put_chunk, take_more_put_chunk}
use Rattle.cesu8_bytes.specs.Puts.{WritesAt}

-- Storing a vector writes its lanes.
pub vector_written : (at n : ℕ) (lanes out : List ℕ) → n ≡ at + length lanes → n ≤ length out → WritesAt lanes at out (put_chunk at out lanes) n
vector_written at n lanes out end room = record {
  bytes = take_more_put_chunk at out lanes n end room;
  end = end;
  len = length-put_chunk at out lanes;
}

-- If bytes are written, so is each prefix of them.
pub first_written : (run at n : ℕ) (bytes old new : List ℕ) → run ≤ length bytes → at ≤ length old → WritesAt bytes at old new n →
    WritesAt (take run bytes) at old new (at + run)
first_written run at n bytes old new le room put = record {
  bytes = sym (take-take (at + run) n new (omega arith))
      ∙ ap (take (at + run)) put.bytes
      ∙ ap (λ i. take (i + run) (take at old ++ bytes)) (sym (length-take-le at old room))
      ∙ take-append-add (take at old) bytes run;
  end = omega (arith, length-take-le run bytes le);
  len = put.len;
}

-- Storing a vector does not change the bytes after it.
pub unchanged_after_store : (at m : ℕ) (out lanes : List ℕ) → at + length lanes ≤ m → drop m (put_chunk at out lanes) ≡ drop m out
unchanged_after_store at m [] lanes le = refl
unchanged_after_store zero m (x ∷ out) [] le = refl
unchanged_after_store zero zero (x ∷ out) (y ∷ lanes) le = absurd (omega arith)
unchanged_after_store zero (suc m) (x ∷ out) (y ∷ lanes) le = unchanged_after_store zero m out lanes (omega arith)
unchanged_after_store (suc at) zero (x ∷ out) lanes le = absurd (omega arith)
unchanged_after_store (suc at) (suc m) (x ∷ out) lanes le = unchanged_after_store at m out lanes (omega arith)

-- Vectors stored at both ends of some bytes, which together cover them, store all of them: the
-- first those before `at`, and the second those from there on.
pub ends_stored : (n : ℕ) (bytes out : List ℕ) → n ≤ length bytes → length bytes ≤ 2 * n → length bytes ≤ length out →
    put_chunk (length bytes - n) (put_chunk 0 out (take n bytes)) (drop (length bytes - n) bytes) ≡ bytes ++ drop (length bytes) out
ends_stored n bytes out many few room =
    let len = length bytes in
    let at = len - n in
    let end = drop at bytes in
    let first = put_chunk 0 out (take n bytes) in
    let second = put_chunk at first end in
    let end_len = length-drop at bytes in
    let first_len = length-take-le n bytes many in
    let before : take at first ≡ take at bytes =
    grind (arith, take-take at n first (omega arith), take-take at n bytes (omega arith), take_more_put_chunk 0 out (take n bytes) n (omega arith) (omega arith)) in
    let prefix = take_more_put_chunk at first end len (omega arith) (omega (arith, length-put_chunk 0 out (take n bytes))) in
    let behind = unchanged_after_store at len first end (omega arith) ∙ unchanged_after_store 0 len out (take n bytes) (omega arith) in
    grind (arith, take-append-drop at bytes, take-append-drop len second, before, prefix, behind)

-- Bytes that are appended, truncated to an index and appended again from there on are appended
-- once.
pub appended_again : (before bytes : List ℕ) (at written n : ℕ) → at ≤ written →
    take (length before + at) (before ++ take written bytes) ++ take n (drop at bytes) ≡ before ++ take (at + n) bytes
appended_again before bytes at written n le = grind (arith, append_assoc, take-add, take-append-add, take-take)

-- Bytes that are written after others are written together with them.
pub written_after : (first more old between new : List ℕ) (at end after : ℕ) → WritesAt first at old between end → WritesAt more end between new after →
    WritesAt (first ++ more) at old new after
written_after first more old between new at end after so_far next = record {
  bytes = next.bytes ∙ ap (λ bs. bs ++ more) so_far.bytes ∙ append_assoc (take at old) first more;
  end = omega (arith, length-append first more);
  len = next.len ∙ so_far.len;
}

-- Bytes that are written by four calls in turn are written together.
pub written_by_four : (a b c d x0 x1 x2 x3 x4 : List ℕ) (n0 n1 n2 n3 n4 : ℕ) → WritesAt a n0 x0 x1 n1 → WritesAt b n1 x1 x2 n2 → WritesAt c n2 x2 x3 n3 →
    WritesAt d n3 x3 x4 n4 → WritesAt (a ++ (b ++ (c ++ d))) n0 x0 x4 n4
written_by_four a b c d x0 x1 x2 x3 x4 n0 n1 n2 n3 n4 wa wb wc wd =
    written_after a (b ++ (c ++ d)) x0 x1 x4 n0 n1 n4 wa
    (written_after b (c ++ d) x1 x2 x4 n1 n2 n4 wb (written_after c d x2 x3 x4 n2 n3 n4 wc wd))
