-- Parts of UTF-8 that end at character boundaries are UTF-8, and so are two such parts together.
use Rattle.std.proofs.Common.{◌-◌, arith, drop, subst, sym, take, take-add, true≢false}
use Rattle.std.specs.Str.{IsUtf8}
use Rattle.std.proofs.lemmas.Bool.{both_ways}
use Rattle.std.proofs.lemmas.Str.{IsUtf8-append, IsUtf8-between, IsCharBoundary-from_take}
use Rattle.cesu8_decode.proofs.utf8.are_parts_utf8.Goals as goal

pub returns-then-not-is_part_utf8 : goal.returns-then-not-is_part_utf8
returns-then-not-is_part_utf8 c =
    let bytes = c.args.bytes.now in
    let start = c.loop-start.start in
    let end = c.part_end-end.result in
    let before = c.part_end-end.ensures.within.0 in (
      λ passes. absurd (true≢false (sym passes)),
      λ is_utf8. absurd (both_ways _ c.if-not-is_part_utf8.true (c.is_part_utf8.ensures.1
          (IsUtf8-between bytes start end is_utf8 (omega (arith, before))
          (IsCharBoundary-from_take bytes start is_utf8 c.loop-start.invariant.0 c.loop-start.invariant.1) (c.part_end-end.ensures.boundary is_utf8)))),
    )

pub loop-start-preserved : goal.loop-start-preserved
loop-start-preserved c =
    let bytes = c.args.bytes.now in
    let start = c.loop-start.start in
    let end = c.part_end-end.result in (
      c.part_end-end.ensures.within.1,
      subst (λ n. IsUtf8 (take n bytes)) (omega (arith, c.part_end-end.ensures.within.0))
          (subst IsUtf8 (sym (take-add start (end - start) bytes))
          (IsUtf8-append (take start bytes) (take (end - start) (drop start bytes)) c.loop-start.invariant.1
          (c.is_part_utf8.ensures.0 c.if-not-is_part_utf8.false))),
    )
