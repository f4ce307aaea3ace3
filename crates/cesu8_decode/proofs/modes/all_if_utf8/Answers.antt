-- The prefix is UTF-8, so all bytes are UTF-8 exactly if those after it are. At most 64 bytes are
-- tested from the start, and more bytes from the end of the prefix.
use Rattle.std.proofs.Common.{◌≡◌, ◌≤◌, ◌⊎◌, ◌↔◌, inl, inr, refl, ℕ, List, drop, length, subst, sym, take}
use Rattle.std.specs.Str.{IsUtf8}
use Rattle.std.proofs.lemmas.Bool.{both_ways}
use Rattle.std.proofs.lemmas.List.{take_rest}
use Rattle.cesu8_decode.proofs.chunks.Utf8Parts.{after_utf8}
use Rattle.cesu8_decode.proofs.modes.all_if_utf8.Goals as goal
use Rattle.cesu8_decode.proofs.modes.all_if_utf8.Goals.{then-are_short, else-are_short}

-- If a prefix is UTF-8 and `start` is 0 or its end, the bytes from `start` on are UTF-8 exactly if
-- all bytes are.
from_either : (bytes : List ℕ) (n start : ℕ) → n ≤ length bytes → IsUtf8 (take n bytes) → (start ≡ 0) ⊎ (start ≡ n) → IsUtf8 (drop start bytes) ↔ IsUtf8 bytes
from_either bytes n start within prefix (inl first) = subst (λ k. IsUtf8 (drop k bytes) ↔ IsUtf8 bytes) (sym first) (λ is. is, λ is. is)
from_either bytes n start within prefix (inr end) = subst (λ k. IsUtf8 (drop k bytes) ↔ IsUtf8 bytes) (sym end) (after_utf8 bytes n within prefix)

pub returns-then-not-is_utf8_by_parts : goal.returns-then-not-is_utf8_by_parts
returns-then-not-is_utf8_by_parts c =
    let bytes = c.args.bytes.now in
    let same = from_either bytes c.args.prefix.len c.if-are_short.start c.requires.0 c.requires.1
    (elim c.if-are_short.branch [ then-are_short w ↦ inl w.start-is | else-are_short w ↦ inr w.start-is ]) in
    let tested = rw take_rest at c.is_utf8_by_parts.ensures in
    inr (refl, λ is_utf8. absurd (both_ways _ c.if-not-is_utf8_by_parts.true (tested.1 (same.1 is_utf8))))

pub returns : goal.returns
returns c =
    let bytes = c.args.bytes.now in
    let same = from_either bytes c.args.prefix.len c.if-are_short.start c.requires.0 c.requires.1
    (elim c.if-are_short.branch [ then-are_short w ↦ inl w.start-is | else-are_short w ↦ inr w.start-is ]) in
    let tested = rw take_rest at c.is_utf8_by_parts.ensures in
    inl (refl, same.0 (tested.0 c.if-not-is_utf8_by_parts.false))
