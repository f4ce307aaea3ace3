-- The unchanged prefix is its own text. If no character that needs conversion follows it, there is
-- no strict reading; if one does, its UTF-8 follows from the first eight bytes after the prefix.
use Rattle.std.proofs.Common.{◌≡◌, ◌∙◌, ℕ, ◌<◌, ◌≤◌, List, true, arith, get_or, length, drop, length-drop}
use Rattle.std.proofs.lemmas.Bool.{both_ways}
use Rattle.std.proofs.lemmas.Bool.Decides.{nat_tests}
use Rattle.std.proofs.lemmas.List.{get_or_past, length-take-le, take_rest}
use Rattle.cesu8_text.specs.Encoding.{Flavor}
use Rattle.cesu8_bytes.specs.Pairs.{null_at}
use Rattle.cesu8_bytes.specs.declared.strictness.Strictness.TheVariants.{Strict}
use Rattle.cesu8_decode.specs.DecodedOffsets.{IsPrefixOf}
use Rattle.cesu8_decode.proofs.by_offset.WidthTests.{pair_by_prefix}
use Rattle.cesu8_decode.proofs.chunks.Changed.{begins_in_prefix, changed_null, changed_pair, seen_null_read, seen_pair_read}
use Rattle.cesu8_decode.proofs.chunks.TextAfterPrefix.{prefix_appended, unless_begun}
use Rattle.cesu8_decode.proofs.chunks.ReadChunks.{nothing_read, more_read}
use Rattle.cesu8_decode.proofs.destinations.strict_append.append_to_next.Goals as goal

pub returns-then-not-changes-clause-none : goal.returns-then-not-changes-clause-none
returns-then-not-changes-clause-none g c =
    let f = g.F.Flavor.flavor in
    let bytes = c.args.bytes.now in
    let rest = drop c.args.len bytes in
    let first = c.first_eight-first.result.now in
    let same : IsPrefixOf rest first = rw take_rest at c.first_eight-first.ensures.prefix in
    unless_begun f bytes c.args.len c.requires.prefix.0
    (λ begun. both_ways c.changes.result c.if-not-changes.true (c.changes.ensures.1 ((begins_in_prefix f rest first same).0 begun))) c.requires.prefix.1

pub returns-then-first-clause-read : goal.returns-then-first-clause-read
returns-then-first-clause-read g c =
    let f = g.F.Flavor.flavor in
    let bytes = c.args.bytes.now in
    let rest = drop c.args.len bytes in
    let first = c.first_eight-first.result.now in
    let before = c.args.out.now.items in
    let same : IsPrefixOf rest first = rw take_rest at c.first_eight-first.ensures.prefix in
    let null = changed_null f first (c.changes.ensures.0 c.if-not-changes.false) c.if-first.true in
    rw (take_rest, take_rest) (more_read f Strict bytes rest _ _ _ _
    (prefix_appended f bytes c.args.len c.requires.prefix.0 bytes before before c.append_prefix.new.out.items (nothing_read f Strict bytes before) c.append_prefix.ensures.bytes)
    (seen_null_read f rest first same Strict _ _ null c.append.ensures.bytes))

pub returns-clause-read : goal.returns-clause-read
returns-clause-read g c =
    let f = g.F.Flavor.flavor in
    let bytes = c.args.bytes.now in
    let rest = drop c.args.len bytes in
    let first = c.first_eight-first.result.now in
    let before = c.args.out.now.items in
    let same : IsPrefixOf rest first = rw take_rest at c.first_eight-first.ensures.prefix in
    let pair = changed_pair f first (c.changes.ensures.0 c.if-not-changes.false) c.if-first.false in
    rw (take_rest, take_rest) (more_read f Strict bytes rest _ _ _ _
    (prefix_appended f bytes c.args.len c.requires.prefix.0 bytes before before c.append_prefix.new.out.items (nothing_read f Strict bytes before) c.append_prefix.ensures.bytes)
    (seen_pair_read f rest first same Strict _ _ pair c.utf8_of_pair.result c.utf8_of_pair.ensures c.append-2.ensures.bytes))

-- If the prefix is not all bytes, fewer bytes are left after the next character.
fewer_left : (k n : ℕ) (bytes : List ℕ) → n < length bytes → 0 < k → length (drop k (drop n bytes)) < length bytes
fewer_left k n bytes inside some = omega (arith, length-drop k (drop n bytes), length-drop n bytes)

pub returns-then-first-clause-within : goal.returns-then-first-clause-within
returns-then-first-clause-within g c = simp take_rest (fewer_left 2 c.args.len c.args.bytes.now c.requires.prefix.1 (omega arith))

pub returns-clause-within : goal.returns-clause-within
returns-clause-within g c = simp take_rest (fewer_left 6 c.args.len c.args.bytes.now c.requires.prefix.1 (omega arith))

pub returns-then-first-clause-capacity : goal.returns-then-first-clause-capacity
returns-then-first-clause-capacity g c = c.append.ensures.capacity ∙ c.append_prefix.ensures.capacity

pub returns-clause-capacity : goal.returns-clause-capacity
returns-clause-capacity g c = c.append-2.ensures.capacity ∙ c.append_prefix.ensures.capacity

-- The first eight bytes are padded with 00, so a character in them is in the bytes.
null_within : (f : Flavor) (bytes prefix : List ℕ) → IsPrefixOf bytes prefix → null_at f (get_or prefix 0 0) (get_or prefix 1 0) ≡ true → 2 ≤ length bytes
null_within f bytes prefix same null =
    let second = same 1 (omega arith) in
    grind (arith, nat_tests, get_or_past)

pub slice_bounds-result-start : goal.slice_bounds-result-start
slice_bounds-result-start g c =
    let f = g.F.Flavor.flavor in
    let rest = drop c.args.len c.args.bytes.now in
    let first = c.first_eight-first.result.now in
    let same : IsPrefixOf rest first = rw take_rest at c.first_eight-first.ensures.prefix in
    simp take_rest (null_within f rest first same (changed_null f first (c.changes.ensures.0 c.if-not-changes.false) c.if-first.true))

-- The capacity suffices: after the prefix the input has at least the six bytes of the pair, which
-- become four bytes of UTF-8.
pub append-requires-2 : goal.append-requires-2
append-requires-2 g c =
    let f = g.F.Flavor.flavor in
    let bytes = c.args.bytes.now in
    let rest = drop c.args.len bytes in
    let first = c.first_eight-first.result.now in
    let same : IsPrefixOf rest first = rw take_rest at c.first_eight-first.ensures.prefix in
    let inside = (pair_by_prefix rest first same (changed_pair f first (c.changes.ensures.0 c.if-not-changes.false) c.if-first.false)).0 in
    let front = c.append_prefix.ensures in
    omega (arith, inside, front.len, front.capacity, length-take-le c.args.len bytes c.requires.prefix.0.within, length-drop c.args.len bytes, c.requires.room)

pub slice_bounds-result-start-2 : goal.slice_bounds-result-start-2
slice_bounds-result-start-2 g c =
    let f = g.F.Flavor.flavor in
    let rest = drop c.args.len c.args.bytes.now in
    let first = c.first_eight-first.result.now in
    let same : IsPrefixOf rest first = rw take_rest at c.first_eight-first.ensures.prefix in
    simp take_rest (pair_by_prefix rest first same (changed_pair f first (c.changes.ensures.0 c.if-not-changes.false) c.if-first.false)).0
