-- The pass writes over the appended zeros, and the truncation removes those after the text, so the
-- vector keeps its bytes and gains what the pass wrote.
use Rattle.std.specs.Prelude.{vec_len, vec_capacity}
use Rattle.std.proofs.Common.{◌≡◌, ◌≤◌, ◌∙◌, ℕ, ◌+◌, List, ◌++◌, true≢false, refl, sym, ap, subst, arith, length, take, replicate, length-append, length-drop}
use Rattle.std.proofs.lemmas.Bool.{not-false, not-true}
use Rattle.std.proofs.Math.Seq.{take-append-add, take-append_seam}
use Rattle.std.proofs.lemmas.List.{length-replicate, length-take-le, take-append-le, take-take, take_rest}
use Rattle.cesu8_decode.proofs.destinations.chunks.append_next.Goals as goal

-- A truncation to `len` bytes keeps the prefix and the first `end` bytes of `new`, since these end
-- at `len` or before it.
written_after : (start end len : ℕ) (prefix new other more : List ℕ) → length prefix ≡ start → end ≤ length new → start + end ≤ len →
    take (start + end) (take len ((prefix ++ (new ++ other)) ++ more)) ≡ prefix ++ take end new
written_after start end len prefix new other more long inside fits =
    let place : start + end ≡ length prefix + end = omega (arith, long) in
    take-take (start + end) len ((prefix ++ (new ++ other)) ++ more) (omega (arith, fits))
    ∙ take-append-le (start + end) (prefix ++ (new ++ other)) more (omega (arith, length-append prefix (new ++ other), length-append new other, long, inside))
    ∙ ap (λ n. take n (prefix ++ (new ++ other))) place ∙ take-append-add prefix (new ++ other) end
    ∙ ap (λ bs. prefix ++ bs) (take-append-le end new other inside)

pub returns-clause-next : goal.returns-clause-next
returns-clause-next g c =
    let more = c.write_windows-pass-2.ensures.more in
    let start = c.len-start.result in
    let old = c.args.out.now.items in
    let cleared = c.deref_mut.result.now in
    let long : start ≡ length old = omega (arith, c.len-start.ensures, c.args.out.now.ok) in
    let zeros = replicate {A = ℕ} c.min.result 0 in
    let prefix : take start cleared ≡ old =
    ap (take start) (c.deref_mut.ensures.value ∙ c.append_zeros.ensures.bytes) ∙ ap (λ n. take n (old ++ zeros)) long ∙ take-append_seam old zeros in
    let chunk = take c.write_windows-pass-2.result.end c.write_windows-pass-2.new.out in
    record {
      old = _;
      new = c.write_windows-pass-2.new.out;
      more = more;
      text = λ fine. c.truncate.ensures.items
          ∙ written_after start _ _ (take start cleared) c.write_windows-pass-2.new.out _ _ (ap length prefix ∙ sym long) more.inside
          (omega (arith, more.inside, more.len, c.append_zeros.ensures.len, c.deref_mut.ensures))
          ∙ ap (λ bs. bs ++ chunk) prefix;
      capacity = c.truncate.ensures.capacity ∙ c.append_zeros.ensures.capacity;
    }

-- If the pass writes to an array first, what it wrote there is appended, or nothing if strict
-- decoding rejects a byte.
pub slice_bounds-written-end : goal.slice_bounds-written-end
slice_bounds-written-end g c = c.write_windows-pass.ensures.more.inside

pub append_by_call-requires : goal.append_by_call-requires
append_by_call-requires g c =
    let pass = c.write_windows-pass in
    let more = pass.ensures.more in
    subst (λ n. vec_len c.args.out.now + n ≤ vec_capacity c.args.out.now) (sym (length-take-le pass.result.end pass.new.out more.inside))
    (c.requires.fits pass.result _ pass.new.out (not-true _ c.if-not-pass.true) more)

pub returns-then-not-pass-clause-next : goal.returns-then-not-pass-clause-next
returns-then-not-pass-clause-next g c = record {
  old = _;
  new = c.write_windows-pass.new.out;
  more = c.write_windows-pass.ensures.more;
  text = λ fine. c.append_by_call.ensures.bytes;
  capacity = c.append_by_call.ensures.capacity;
}

pub returns-else-not-pass-clause-next : goal.returns-else-not-pass-clause-next
returns-else-not-pass-clause-next g c = record {
  old = _;
  new = c.write_windows-pass.new.out;
  more = c.write_windows-pass.ensures.more;
  text = λ fine. absurd (true≢false (sym (not-false _ c.if-not-pass.false) ∙ fine));
  capacity = refl;
}

-- If it writes to the vector, at least `ROOM` zeros were appended, which is what it needs.
pub write_windows-pass-requires-2-clause-room : goal.write_windows-pass-requires-2-clause-room
write_windows-pass-requires-2-clause-room g c =
    simp take_rest (omega (
      arith,
      length-drop c.len-start.result c.deref_mut.result.now,
      length-replicate {A = ℕ} c.min.result 0,
      c.deref_mut.ensures,
      c.append_zeros.ensures.len,
      c.min.ensures,
      c.len-start.ensures,
      c.if-spare-lt-SMALL_STRICT.false,
    ))

-- The text ends within these zeros, so its end is no greater than the capacity.
pub overflow_add-start : goal.overflow_add-start
overflow_add-start g c =
    let more = c.write_windows-pass-2.ensures.more in
    let inside = simp take_rest at more.len in
    omega (
      arith,
      more.inside,
      inside,
      length-drop c.len-start.result c.deref_mut.result.now,
      length-replicate {A = ℕ} c.min.result 0,
      c.deref_mut.ensures,
      c.append_zeros.ensures.len,
      c.min.ensures,
      c.len-start.ensures,
      c.capacity.type_inv,
    )
