-- In UTF-8 `part_end` returns a character boundary, so the input is UTF-8 exactly when the first
-- part and the rest are (`both_parts`). One proof for each return of more than 32 bytes: the first
-- part is not UTF-8, the rest is ASCII, or the rest is tested part by part.
use Rattle.std.proofs.Common.{[], refl, sym, true≢false}
use Rattle.std.proofs.lemmas.Bool.{both_ways}
use Rattle.std.proofs.lemmas.List.{take_rest}
use Rattle.std.proofs.lemmas.Str.{IsUtf8-from_ascii}
use Rattle.cesu8_bytes.proofs.lists.Ascii.{ascii_of_none}
use Rattle.cesu8_decode.proofs.chunks.Utf8Parts.{both_parts}
use Rattle.cesu8_decode.proofs.utf8.is_utf8_by_parts.Goals as goal

pub returns-then-not-is_end_utf8 : goal.returns-then-not-is_end_utf8
returns-then-not-is_end_utf8 c =
    let same = both_parts c.args.bytes.now c.part_end-first.result c.part_end-first.ensures.boundary in (
      λ passes. absurd (true≢false (sym passes)),
      λ is_utf8. absurd (both_ways _ c.if-not-is_end_utf8.true ((c.is_end_utf8-2.ensures [] c.new-2.ensures).1 (same.0 is_utf8).0)),
    )

pub returns-then-not-any_in_bytes_or_call : goal.returns-then-not-any_in_bytes_or_call
returns-then-not-any_in_bytes_or_call c =
    let same = both_parts c.args.bytes.now c.part_end-first.result c.part_end-first.ensures.boundary in
    let first = (c.is_end_utf8-2.ensures [] c.new-2.ensures).0 c.if-not-is_end_utf8.false in
    let found = rw take_rest at c.any_in_bytes_or_call.ensures in
    let ascii = ascii_of_none _ (λ any. both_ways _ c.if-not-any_in_bytes_or_call.true (found.1 any)) in
    (λ _. same.1 (first, IsUtf8-from_ascii _ ascii), λ _. refl)

pub returns : goal.returns
returns c =
    let same = both_parts c.args.bytes.now c.part_end-first.result c.part_end-first.ensures.boundary in
    let first = (c.is_end_utf8-2.ensures [] c.new-2.ensures).0 c.if-not-is_end_utf8.false in
    let rest = rw take_rest at c.are_parts_utf8.ensures in
    (λ parts. same.1 (first, rest.0 parts), λ is_utf8. rest.1 (same.0 is_utf8).1)
