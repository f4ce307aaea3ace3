-- A byte of the longer run is in the run before, or in the group that was just tested.
use Rattle.std.proofs.Common.{◌≡◌, ◌+◌, ◌-◌, ◌<◌, ◌≤◌, ◌∙◌, ⊎_elim, arith, ap, sym, get_or}
use Rattle.std.proofs.lemmas.Bool.{cases_lt}
use Rattle.std.proofs.lemmas.List.{take_rest, get_or-drop}
use Rattle.cesu8_bytes.proofs.lanes.runs.run_of_groups.Goals as goal

pub loop-run-preserved : goal.loop-run-preserved
loop-run-preserved g c =
    let class = g.C.Class.class in
    let bytes = c.args.bytes.now in
    let run = c.loop-run.run in
    let more = rw take_rest at (c.group_may_have.ensures c.if-not-group_may_have.true) in
    record {
      within = (omega arith, λ _. omega arith);
      run = λ i before. ⊎_elim (λ (early : i < run). c.loop-run.invariant.run i early)
          (λ (late : run ≤ i).
          let place : run + (i - run) ≡ i = omega arith in
          ap class (sym (get_or-drop run bytes (i - run) 0 ∙ ap (λ k. get_or bytes k 0) place)) ∙ more (i - run) (omega arith)) (cases_lt i run);
    }
