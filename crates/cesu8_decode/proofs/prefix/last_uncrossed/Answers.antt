-- The prefix ends at the last offset up to `at` that no character crosses (`prefix_at`). The loop
-- goes back from `at` to it, and ends at 0, which no character crosses. Offset k in `crosses_at` is
-- an offset of the bytes: the four zeros of `after_fillers` stand for the bytes before them.
use Rattle.std.proofs.Common.{◌≡◌, ◌∙◌, ℕ, refl, sym, ap, List, ⊎_elim, false, arith}
use Rattle.std.proofs.lemmas.Bool.{cases_eq}
use Rattle.cesu8_decode.specs.Following.{CharacterSet, Encoded, Unchanged, after_fillers, crosses_at}
use Rattle.cesu8_decode.proofs.chunks.LongestPrefixes.{prefix_at}
use Rattle.cesu8_decode.proofs.prefix.last_uncrossed.Goals as goal

pub loop-end-preserved : goal.loop-end-preserved
loop-end-preserved g c =
    let s = g.S.CharacterSet.set in
    let window = after_fillers c.args.bytes.now in
    let end = c.loop-end.end in
    record {
      within = omega (arith, c.loop-end.invariant.within);
      crossed = λ k above inside. ⊎_elim
          (λ (here : k ≡ end). ap (crosses_at s window) here ∙ sym c.may_be_crossed.ensures ∙ c.if-may_be_crossed.true)
          (λ other. c.loop-end.invariant.crossed k (omega (arith, above, other)) inside) (cases_eq k end);
    }

-- No character crosses the start.
start_none : (s : CharacterSet) (bytes : List ℕ) → crosses_at s (after_fillers bytes) 0 ≡ false
start_none Encoded bytes = refl
start_none Unchanged bytes = refl

pub returns-after-loop-end : goal.returns-after-loop-end
returns-after-loop-end g c =
    let s = g.S.CharacterSet.set in
    let bytes = c.args.bytes.now in
    let none : c.loop-end.end ≡ 0 = omega (arith, c.loop-end-test.false) in
    prefix_at s g.F.Flavor.flavor bytes c.args.at c.loop-end.end c.requires c.loop-end.invariant.within
    (ap (crosses_at s (after_fillers bytes)) none ∙ start_none s bytes) c.loop-end.invariant.crossed

pub returns-else-may_be_crossed : goal.returns-else-may_be_crossed
returns-else-may_be_crossed g c =
    prefix_at g.S.CharacterSet.set g.F.Flavor.flavor c.args.bytes.now c.args.at c.loop-end.end c.requires c.loop-end.invariant.within
    (sym c.may_be_crossed.ensures ∙ c.if-may_be_crossed.false) c.loop-end.invariant.crossed
