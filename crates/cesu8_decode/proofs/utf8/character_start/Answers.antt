-- The loop goes back from `at` over at most three continuation bytes. A byte that is none begins a
-- character. After three steps the next byte back does, since in UTF-8 no four continuation bytes
-- follow each other (`start_is_boundary`).
use Rattle.std.proofs.Common.{◌-◌, ℕ, arith, below_more, get_or, inl, inr, refl}
use Rattle.std.proofs.lemmas.Bool.{both_ways}
use Rattle.cesu8_text.specs.Patterns.{IsContinuation}
use Rattle.cesu8_decode.proofs.chunks.Utf8Parts.{start_is_boundary}
use Rattle.cesu8_decode.proofs.utf8.character_start.Goals as goal

pub loop-back-preserved : goal.loop-back-preserved
loop-back-preserved c =
    below_more (λ (k : ℕ). IsContinuation (get_or c.args.bytes.now (c.args.at - k) 0)) c.loop-back.back
    c.loop-back.invariant (c.is_continuation.ensures.0 c.if-not-is_continuation.false)

pub returns-then-not-is_continuation-clause-boundary : goal.returns-then-not-is_continuation-clause-boundary
returns-then-not-is_continuation-clause-boundary c =
    start_is_boundary c.args.bytes.now c.args.at c.loop-back.back (omega arith) (omega arith) (omega arith) c.loop-back.invariant
    (inl (λ continues. both_ways _ c.if-not-is_continuation.true (c.is_continuation.ensures.1 continues)))

pub returns-clause-boundary : goal.returns-clause-boundary
returns-clause-boundary c =
    start_is_boundary c.args.bytes.now c.args.at 3 (omega arith) (omega arith) (omega arith) (λ k before. c.loop-back.invariant k (omega (arith, before))) (inr refl)
