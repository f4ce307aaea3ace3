-- Each read continues after the bytes that were read before. `omega` proves that the vector still
-- has fewer than 2^63 bytes, as the code has tested.
use Rattle.std.proofs.Common.{ℕ, List, ◌++◌, Some, None, sym, ap, ◌∙◌, append_assoc, arith, length-take}
use Rattle.std.specs.Prelude.{Option}
use Rattle.std.specs.Io.KnownBytes.{Consumes}
use Rattle.cesu8_cli_run.proofs.run.read_whole.Goals as goal

-- Two reads together consume the bytes of the first, and then those of the second. If it is not
-- known which bytes the reader has (`None`), there is nothing to prove.
consumes_both : (first next last : Option (List ℕ)) (bytes more : List ℕ) → Consumes first next bytes →
    Consumes next last more → Consumes first last (bytes ++ more)
consumes_both None next last bytes more is are = tt
consumes_both (Some all) None last bytes more is are = absurd is
consumes_both (Some all) (Some rest) None bytes more is are = absurd are
consumes_both (Some all) (Some rest) (Some left) bytes more is are =
    is ∙ ap (λ bs. bytes ++ bs) are ∙ sym (append_assoc bytes more left)

pub loop-count-preserved : goal.loop-count-preserved
loop-count-preserved g c = (
  omega (arith, c.in_ok-extend_from_slice.ensures.len, length-take {A = ℕ}),
  rw c.in_ok-extend_from_slice.ensures.items
      (consumes_both _ _ _ _ _ c.loop-count.invariant.1 c.in-Ok.ensures.bytes.0),
)
