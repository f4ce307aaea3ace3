-- Two steps in a row are one (`joined`). The loop ends at a step that reads nothing, and so writes
-- nothing (`nothing_moved`).
use Rattle.std.proofs.Common.{◌≡◌, ◌<◌, ◌-◌, ℕ, [], ◌∷◌, ◌++◌, length, take, drop, length-drop, arith, ap, ◌∙◌, refl}
use Rattle.std.proofs.lemmas.Grind.{common_steps}
use Rattle.std.proofs.lemmas.List.{take_rest, take-append-drop}
use Rattle.cesu8_stream.specs.Written.{Begins, Converts}
use Rattle.cesu8_stream.proofs.First.{Sizes}
use Rattle.cesu8_stream.proofs.Joined.{joined, nothing}
use Rattle.cesu8_stream.proofs.Pieces.{IsConversion, to_end, nothing_moved, ended}
use Rattle.cesu8_stream.proofs.engine.convert_rest.Goals as goal

pub loop-moved-init : goal.loop-moved-init
loop-moved-init g c = record {
  within = omega arith;
  moves = nothing g.C.Conversion.from g.C.Conversion.to c.args.bytes.now c.args.buf.now c.args.buf.now
      c.laws.ensures.from_empty c.laws.ensures.to_empty refl;
}

pub loop-moved-preserved : goal.loop-moved-preserved
loop-moved-preserved g c =
    let from = g.C.Conversion.from in
    let to = g.C.Conversion.to in
    let inside = c.step-moved.ensures.within in
    let here = c.loop-moved.invariant.within in
    let moves : Converts from to (drop c.loop-moved.read c.args.bytes.now) c.step-moved.result.read c.step-moved.result.written
    (drop c.loop-moved.written c.loop-moved.buf) c.step-moved.new.buf = rw (take_rest, take_rest) at c.step-moved.ensures.moves in
    record {
      within = grind (arith, common_steps);
      moves = rw (to_end c.loop-moved.written c.loop-moved.buf c.step-moved.new.buf)
          (joined from to c.args.bytes.now c.args.buf.now c.loop-moved.buf c.step-moved.new.buf c.loop-moved.read
          c.loop-moved.written c.step-moved.result.read c.step-moved.result.written c.laws.ensures.append_from
          c.laws.ensures.append_to c.loop-moved.invariant.moves moves);
    }

-- The last step read nothing, so it left the buffer unchanged (`same`), and the next character, if
-- there is one, does not fit (`stuck`).
pub returns : goal.returns
returns g c =
    let from = g.C.Conversion.from in
    let to = g.C.Conversion.to in
    let widest = g.C.Conversion.widest in
    let laws = c.laws.ensures in
    let sizes : Sizes from = record { some = laws.at_least_one; few = laws.at_most_six } in
    let facts : IsConversion from to widest = record {
      append_from = laws.append_from;
      append_to = laws.append_to;
      from_empty = laws.from_empty;
      to_empty = laws.to_empty;
      sizes = sizes;
      wide = laws.widest;
    } in
    let bytes = c.args.bytes.now in
    let read = c.loop-moved.read in
    let written = c.loop-moved.written in
    let buf = c.loop-moved.buf in
    let rest = drop read bytes in
    let room = drop written buf in
    let moves : Converts from to rest c.step-moved.result.read c.step-moved.result.written room c.step-moved.new.buf =
    rw (take_rest, take_rest) at c.step-moved.ensures.moves in
    let same : c.step-moved.new.buf ≡ room =
    (nothing_moved from to widest rest room c.step-moved.new.buf c.step-moved.result.read c.step-moved.result.written facts
    c.if-moved-eq0.true moves).1 in
    let unchanged : take written buf ++ c.step-moved.new.buf ≡ buf =
    ap (λ bs. take written buf ++ bs) same ∙ take-append-drop written buf in
    let stuck : (d : ℕ) → Begins from rest d → length c.args.buf.now - written < length (to (d ∷ [])) =
    λ d b.
    let short : length room < length (to (d ∷ [])) =
    (rw (take_rest, take_rest) at c.step-moved.ensures.stuck) c.if-moved-eq0.true d b in
    let same_length = c.loop-moved.auto.buf in
    let left : length room ≡ length buf - written = length-drop written buf in
    omega arith in
    rw (to_end written buf c.step-moved.new.buf, unchanged)
    (ended from to widest bytes c.args.buf.now buf read written c.state_of-state.result facts
    c.loop-moved.invariant.within c.loop-moved.invariant.moves (rw take_rest at c.state_of-state.ensures) stuck)
