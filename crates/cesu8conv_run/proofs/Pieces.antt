-- Conversions of a piece of the input, one step after the other, for `take_steps` and
-- `convert_piece` (`convert.rt`). `room` is the buffer that steps write to, `tail` the part of it
-- that the last step wrote to, and `post` what follows that part.
-- `w`, `w0`, `w1` and `w2` are what the writer holds, or `None` if that is not known.
use Rattle.std.proofs.Common.{◌≡◌, ℕ, ◌+◌, ◌-◌, ◌<◌, ◌≤◌, Bool, true, List, [], ◌++◌, length, take, drop, ap, ◌∙◌, append_assoc, arith, length-drop, length-append}
use Rattle.std.specs.Prelude.{Option}
use Rattle.std.specs.Io.KnownBytes.{Appends}
use Rattle.std.proofs.KnownBytes.{Appends-nil, Appends-trans}
use Rattle.std.proofs.lemmas.List.{append-nil, take-append-drop, take-append-le, drop-drop, take_at, drop_at, take_rest, length-take-le}
use Rattle.simd_cesu8.specs.Laws.{Concat}
use Rattle.cesu8conv_run.specs.Conversion.{Converts, IsDamagedAhead}
use Rattle.cesu8conv_run.specs.Steps.{IsStep}
use Rattle.cesu8conv_run.specs.Stream.{TakesPiece, BreaksPiece}
use Rattle.cesu8conv_run.proofs.Joined.{converts-append, converts-nil}
use Rattle.cesu8conv_run.proofs.Steps.{take_sum}
use Rattle.cesu8conv_run.specs.declared.conversion.Conversion.{Conversion}
use Rattle.cesu8conv_run.specs.declared.step.Step.{Step}
use Rattle.cesu8conv_run.specs.declared.step.Next.TheVariants as next

-- If bytes are written to a buffer after its front, the new front is the old one and these bytes.
pub filled-up : (room tail post : List ℕ) (filled written : ℕ) → filled ≤ length room → written ≤ length tail →
    take (filled + written) (take filled room ++ (tail ++ post)) ≡ take filled room ++ take written tail
filled-up room tail post filled written fits within =
    let front : length (take filled room) ≡ filled = length-take-le filled room fits in
    let new = take filled room ++ (tail ++ post) in
    take_sum filled written new
    ∙ ap (λ y. y ++ take written (drop filled new)) (take_at (take filled room) (tail ++ post) filled front)
    ∙ ap (λ y. take filled room ++ take written y) (drop_at (take filled room) (tail ++ post) filled front)
    ∙ ap (λ y. take filled room ++ y) (take-append-le written tail post within)

-- If the first `at` bytes of a piece became x, and the next n became y, the first at + n bytes
-- became x and y, joined.
pub next-converted : Concat → (c : Conversion) (is_last : Bool) (bytes x y : List ℕ) (at n : ℕ) →
    Converts c is_last (take at bytes) (drop at bytes) x →
    Converts c is_last (take n (drop at bytes)) (drop n (drop at bytes)) y →
    Converts c is_last (take (at + n) bytes) (drop (at + n) bytes) (x ++ y)
next-converted concat c is_last bytes x y at n before h =
    rw (take_sum at n bytes, ← drop-drop n at bytes)
    (converts-append concat c is_last (take at bytes) (take n (drop at bytes)) (drop n (drop at bytes)) x y
    (rw (take-append-drop n (drop at bytes)) before) h)

-- Some steps (`all` is their sum), and another one, which writes to the buffer after them, are
-- together one step.
pub steps-joined : Concat → (c : Conversion) (is_last : Bool) (bytes room tail post : List ℕ) (all step : Step) →
    IsStep c bytes is_last room all → IsStep c (take (length bytes - all.read) (drop all.read bytes)) is_last tail step →
    IsStep c bytes is_last (take all.written room ++ (tail ++ post)) (record {
      read = all.read + step.read;
      written = all.written + step.written;
      replaced = step.replaced;
      next = step.next;
    })
steps-joined concat c is_last bytes room tail post all step h last =
    let k : IsStep c (drop all.read bytes) is_last tail step = rw (take_rest bytes all.read) at last in
    let front : length (take all.written room) ≡ all.written = length-take-le all.written room h.fits in
    let fits : step.written ≤ length tail = k.fits in
    record {
      within = omega (arith, length-drop all.read bytes, h.within, k.within);
      fits = omega (arith, length-append (take all.written room) (tail ++ post), length-append tail post);
      converts = rw (filled-up room tail post all.written step.written h.fits k.fits)
          (next-converted concat c is_last bytes (take all.written room) (take step.written tail) all.read step.read h.converts
          k.converts);
      all = λ n l. rw (← drop-drop step.read all.read bytes) (k.all n l);
      left = λ n.
          let some : step.read < length (drop all.read bytes) = k.left n in
          omega (arith, length-drop all.read bytes);
      damage = λ n. rw (← drop-drop step.read all.read bytes) (k.damage n);
    }

-- Before the first step nothing was taken.
pub takes-none : (c : Conversion) (is_last : Bool) (bytes : List ℕ) (w : Option (List ℕ)) → TakesPiece c bytes is_last 0 w w
takes-none c is_last bytes w = record {
  within = omega arith;
  output = [];
  converts = converts-nil c is_last bytes;
  appended = Appends-nil w;
}

-- If `TakesPiece` holds for the first `at` bytes of a piece, and the output of a step after them is
-- written, it holds for the bytes up to the end of that step.
pub takes-more : Concat → (c : Conversion) (is_last : Bool) (bytes room : List ℕ) (at : ℕ) (step : Step) (w0 w1 w2 : Option (List ℕ)) →
    TakesPiece c bytes is_last at w0 w1 → IsStep c (take (length bytes - at) (drop at bytes)) is_last room step →
    Appends w1 w2 (take step.written room) → TakesPiece c bytes is_last (at + step.read) w0 w2
takes-more concat c is_last bytes room at step w0 w1 w2 h last appended =
    let k : IsStep c (drop at bytes) is_last room step = rw (take_rest bytes at) at last in
    let front = take step.written room in
    record {
      within = omega (arith, length-drop at bytes, h.within, k.within);
      output = h.output ++ front;
      converts = next-converted concat c is_last bytes h.output front at step.read h.converts k.converts;
      appended = Appends-trans w0 w1 w2 h.output front h.appended appended;
    }

-- If `TakesPiece` holds for the first `at` bytes of a piece, and only some of the output of a step
-- after them is written, `BreaksPiece` holds.
pub breaks-more : Concat → (c : Conversion) (is_last : Bool) (bytes room : List ℕ) (at : ℕ) (step : Step) (w0 w1 w2 : Option (List ℕ)) →
    TakesPiece c bytes is_last at w0 w1 → IsStep c (take (length bytes - at) (drop at bytes)) is_last room step →
    ((written : List ℕ) × (rest : List ℕ) × (take step.written room ≡ written ++ rest) × Appends w1 w2 written) →
    BreaksPiece c bytes is_last w0 w2
breaks-more concat c is_last bytes room at step w0 w1 w2 h last w =
    let k : IsStep c (drop at bytes) is_last room step = rw (take_rest bytes at) at last in
    record {
      read = at + step.read;
      output = h.output ++ w.0;
      rest = w.1;
      converts = rw (append_assoc h.output w.0 w.1, ← w.2)
          (next-converted concat c is_last bytes h.output (take step.written room) at step.read h.converts k.converts);
      appended = Appends-trans w0 w1 w2 h.output w.0 h.appended w.3;
    }

-- If `TakesPiece` holds, all output was written, so `BreaksPiece` holds with an empty rest.
pub takes-some : (c : Conversion) (is_last : Bool) (bytes : List ℕ) (at : ℕ) (w0 w1 : Option (List ℕ)) →
    TakesPiece c bytes is_last at w0 w1 → BreaksPiece c bytes is_last w0 w1
takes-some c is_last bytes at w0 w1 h = record {
  read = at;
  output = h.output;
  rest = [];
  converts = rw append-nil h.converts;
  appended = h.appended;
}

-- If a step at the end of the input needs more input, all bytes were taken.
pub all-taken : (c : Conversion) (is_last : Bool) (bytes room : List ℕ) (at : ℕ) (step : Step) → at ≤ length bytes →
    IsStep c (take (length bytes - at) (drop at bytes)) is_last room step → step.next ≡ next.Input → is_last ≡ true →
    at + step.read ≡ length bytes
all-taken c is_last bytes room at step within last input ends =
    let k : IsStep c (drop at bytes) is_last room step = rw (take_rest bytes at) at last in
    let none : length (drop step.read (drop at bytes)) ≡ 0 = ap length (k.all input ends) in
    omega (arith, length-drop step.read (drop at bytes), length-drop at bytes, none, k.within)

-- Damage after a step is damage after what was taken.
pub damage-after : (c : Conversion) (is_last : Bool) (bytes room : List ℕ) (at : ℕ) (step : Step) →
    IsStep c (take (length bytes - at) (drop at bytes)) is_last room step → step.next ≡ next.Stop →
    IsDamagedAhead c is_last (drop (at + step.read) bytes)
damage-after c is_last bytes room at step last stop = rw (← drop-drop step.read at bytes, ← take_rest bytes at) (last.damage stop)
