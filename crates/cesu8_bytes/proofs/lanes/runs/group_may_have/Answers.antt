-- If the test of four vectors returns false, none has a byte of the class. Each of the first 256
-- bytes is in one of them.
use Rattle.std.proofs.Common.{ℕ, List, ◌<◌, ◌≤◌, ◌⊎◌, ⊎_elim, inl, inr, arith, take, drop}
use Rattle.std.proofs.lemmas.Bool.{both_ways, cases_lt}
use Rattle.cesu8_bytes.specs.Kernels.{AnyIn}
use Rattle.cesu8_bytes.proofs.lists.Chunks.{group_elements}
use Rattle.cesu8_bytes.proofs.lists.Lanes.{none_loaded}
use Rattle.cesu8_bytes.proofs.lanes.runs.group_may_have.Goals as goal

pub returns : goal.returns
returns g c none i before =
    let class = g.C.Class.class in
    let bytes = c.args.bytes.now in
    let part : ℕ → List ℕ = λ start. take 64 (drop start bytes) in
    let no : (AnyIn class (part 0) ⊎ AnyIn class (part 64)) ⊎ (AnyIn class (part 128) ⊎ AnyIn class (part 192)) → ⊥ = λ some.
    both_ways c.may_have.result none (c.may_have.ensures ((group_elements (AnyIn class) _ _ _ _).1 some)) in
    ⊎_elim
    (λ (first : i < 128). ⊎_elim
    (λ (low : i < 64). none_loaded class bytes 0 64 (omega arith) (λ any. no (inl (inl any))) i (omega arith) low)
    (λ (high : 64 ≤ i). none_loaded class bytes 64 64 (omega arith) (λ any. no (inl (inr any))) i high first) (cases_lt i 64))
    (λ (second : 128 ≤ i). ⊎_elim
    (λ (low : i < 192). none_loaded class bytes 128 64 (omega arith) (λ any. no (inr (inl any))) i second low)
    (λ (high : 192 ≤ i). none_loaded class bytes 192 64 (omega arith) (λ any. no (inr (inr any))) i high before) (cases_lt i 192))
    (cases_lt i 128)
