-- The byte that was just appended is the one at the index.
use Rattle.std.proofs.Common.{◌≡◌, ℕ, ◌+◌, ◌<◌, ◌∙◌, List, ◌++◌, ◌∷◌, [], sym, ap, arith, length, take, get_or, append_assoc}
use Rattle.std.proofs.lemmas.List.{take_more}
use Rattle.cesu8_bytes.proofs.writing.copies.append_each.Goals as goal

-- After the first n bytes and the next one, the first n + 1 are appended. `at` and `now` are the
-- vector before and after the push of that byte.
byte_more : (first bytes : List ℕ) (n : ℕ) (at now : List ℕ) → n < length bytes → at ≡ first ++ take n bytes →
    now ≡ at ++ get_or bytes n 0 ∷ [] → now ≡ first ++ take (n + 1) bytes
byte_more first bytes n at now inside so_far pushed =
    pushed ∙ rw so_far (append_assoc first (take n bytes) (get_or bytes n 0 ∷ []) ∙ ap (λ bs. first ++ bs) (sym (take_more bytes n 0 inside)))

pub loop-byte-preserved : goal.loop-byte-preserved
loop-byte-preserved c =
    let inv = c.loop-byte.invariant in
    let push = c.push_reserved.ensures in
    record {
      items = byte_more _ _ _ _ _ c.loop-byte-test.true inv.items push.items;
      len = omega (arith, inv.len, push.len);
      capacity = push.capacity ∙ inv.capacity;
    }
