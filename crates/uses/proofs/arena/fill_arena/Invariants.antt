-- The arena holds the encodings of the first texts, and `ends` has the end of each.
use Rattle.uses.specs.Arena.{HoldsFirst}
use Rattle.uses.proofs.arena.fill_arena.Given as goal

abbrev pub invariant-loop-count : goal.invariant-loop-count
invariant-loop-count l = HoldsFirst l.texts l.count l.used l.initial.arena l.arena l.ends
