-- The array agrees with the bytes from `first` on, as if zeros followed them. `first` is 0, or at
-- least five bytes before each window, which is as far back as a character can begin that reaches
-- it. So the windows of the array are those of the bytes, and the zeros end the last one with the
-- bytes. The text of n bytes, and whether they end at a boundary, depend on n + 10 bytes.
use Rattle.std.proofs.Common.{rules, ◌≡◌, ℕ, ◌+◌, ◌-◌, ◌<◌, ◌≤◌, ◌⊎◌, ⊎_elim, ◌∙◌, List, ◌++◌, sym, inl, inr, false, refl, arith, length, drop, replicate, get_or}
use Rattle.std.proofs.lemmas.List.{take_rest}
use Rattle.std.proofs.lemmas.Bool.{cases_lt}
use Rattle.cesu8_decode.specs.DecodedOffsets.{window_of}
use Rattle.cesu8_decode.proofs.by_offset.WindowOffsets.{agree_later, boundary_agrees}
use Rattle.cesu8_decode.proofs.decoder.WrittenWindows.{copied_to_zeros, last_agrees, last_zeros}
use Rattle.cesu8_decode.proofs.decoder.Passes.{goes_nowhere, goes_further, goes_on_by}
use Rattle.cesu8_decode.proofs.pass.windows.write_last.Goals as goal
use Rattle.cesu8_decode.proofs.pass.windows.write_last.Goals.{then-left-gt-LANES, else-left-gt-LANES}

pub loop-pass-init : goal.loop-pass-init
loop-pass-init g c = record {
  more = goes_nowhere g.F.Flavor.flavor c.args.strictness c.args.bytes.now c.args.before c.args.out.now (λ _. c.requires.before.pass) c.requires.before.pass.within
      c.requires.before.fine (omega (arith, c.requires.before.end, c.requires.room));
  fresh = λ _. (c.requires.before.fine, c.requires.before.end);
}

-- The array of 202 bytes (`AROUND`) has the bytes from `first` on, and zeros after them.
pub are_last : (bytes last new : List ℕ) (first : ℕ) → last ≡ replicate 202 0 → new ≡ drop first bytes ++ drop (length (drop first bytes)) last →
    (k : ℕ) → get_or new k 0 ≡ get_or bytes (first + k) 0
are_last bytes last new first zeros copied = copied_to_zeros bytes new first 202 last zeros copied

-- The array begins at the first byte, or five bytes before the offset.
either : (first before at : ℕ) → first ≡ before - 5 → before ≤ at → (first ≤ at) × ((first ≡ 0) ⊎ (first + 5 ≤ at))
either first before at is more =
    ⊎_elim (λ (few : before < 5). (omega (arith, is), inl (omega (arith, is)))) (λ (some : 5 ≤ before). (omega (arith, is), inr (omega (arith, is)))) (cases_lt before 5)

pub write_window-window-requires-clause-boundary : goal.write_window-window-requires-clause-boundary
write_window-window-requires-clause-boundary g c =
    let f = g.F.Flavor.flavor in
    let bytes = c.args.bytes.now in
    let at = c.loop-pass.pass.read in
    let so_far = c.loop-pass.invariant.more in
    let fine : c.loop-pass.pass.is_rejected ≡ false = search rules in
    let are = are_last bytes _ c.copy_short.new.buf c.saturating_sub-first.result refl (rw take_rest at c.copy_short.ensures) in
    let place = either c.saturating_sub-first.result c.args.before.read at c.saturating_sub-first.ensures so_far.within.0 in
    boundary_agrees f (window_of c.copy_short.new.buf) (window_of bytes) (at - c.saturating_sub-first.result) at
    (last_agrees bytes c.copy_short.new.buf c.saturating_sub-first.result at 10 are place.0 place.1)
    ∙ (so_far.pass fine).boundary

pub write_window-window-requires-clause-count : goal.write_window-window-requires-clause-count
write_window-window-requires-clause-count g c =
    let bytes = c.args.bytes.now in
    let first = c.saturating_sub-first.result in
    let at = c.loop-pass.pass.read in
    let are = are_last bytes _ c.copy_short.new.buf first refl (rw take_rest at c.copy_short.ensures) in
    let place = either first c.args.before.read at c.saturating_sub-first.ensures c.loop-pass.invariant.more.within.0 in
    elim c.if-left-gt-LANES.branch [
      | then-left-gt-LANES w ↦ inl (omega (arith, w.count-is))
      | else-left-gt-LANES w ↦ inr (
        omega (arith, w.count-is, w.if-left-gt-LANES.false),
        λ i from. last_zeros bytes c.copy_short.new.buf first i are (omega (arith, from, w.count-is, place.0, c.if-pass-bytes.true)),
      )
    ]

pub loop-pass-preserved : goal.loop-pass-preserved
loop-pass-preserved g c =
    let f = g.F.Flavor.flavor in
    let which = c.args.strictness in
    let bytes = c.args.bytes.now in
    let last = c.copy_short.new.buf in
    let first = c.saturating_sub-first.result in
    let at = c.loop-pass.pass.read in
    let so_far = c.loop-pass.invariant.more in
    let fine : c.loop-pass.pass.is_rejected ≡ false = search rules in
    let are = are_last bytes _ last first refl (rw take_rest at c.copy_short.ensures) in
    let place = either first c.args.before.read at c.saturating_sub-first.ensures so_far.within.0 in
    let window = c.write_window-window.ensures in
    let n = c.write_window-window.result.read in
    let agree = last_agrees bytes last first at (n + 10) are place.0 place.1 in
    let inside : at + n ≤ length bytes = elim c.if-left-gt-LANES.branch [
      | then-left-gt-LANES w ↦ omega (arith, w.if-left-gt-LANES.true, window.count.2)
      | else-left-gt-LANES w ↦
          omega (arith, window.last (last_zeros bytes last first _ are (omega (arith, w.count-is, place.0, c.if-pass-bytes.true))), w.count-is, c.if-pass-bytes.true)
    ] in
    let room : c.write_window-window.result.end ≤ length c.write_window-window.new.out = search rules in
    record {
      more = goes_further f which bytes c.args.before c.loop-pass.pass _ _ _ _ so_far fine
          (goes_on_by f which bytes c.loop-pass.pass _ (window_of last) _ _ (at - first) n refl inside
          (λ _. record {
            within = inside;
            boundary = sym (boundary_agrees f (window_of last) (window_of bytes) (at - first + n) (at + n)
                (agree_later (window_of last) (window_of bytes) (at - first) at (n + 10) n 10 (omega arith) agree)) ∙ window.boundary;
          })
          agree window.written room);
      fresh = λ same. absurd (omega (arith, same, so_far.within.0, window.count.0));
    }
