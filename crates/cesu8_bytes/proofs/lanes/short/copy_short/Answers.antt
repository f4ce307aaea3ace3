-- Each vector extends the copied prefix by 64 bytes. The last vector ends with the bytes, and it
-- begins in the prefix that was copied already, or right after it.
use Rattle.std.proofs.Common.{◌≡◌, ◌∙◌, ◌+◌, ◌-◌, ◌≤◌, ◌++◌, sym, ap, arith, length, take, take_all, drop, length-drop}
use Rattle.std.proofs.Math.Seq.{take-add}
use Rattle.std.proofs.lemmas.Bool.{iff_false}
use Rattle.std.proofs.lemmas.List.{take-append-drop, take-take, length-take-le}
use Rattle.cesu8_bytes.proofs.lists.Ends.{same_after}
use Rattle.cesu8_bytes.proofs.lanes.short.copy_short.Goals as goal

pub loop-at-preserved : goal.loop-at-preserved
loop-at-preserved c =
    let bytes = c.args.bytes.now in
    let at = c.loop-at.at in
    let inv = c.loop-at.invariant in
    let put = c.put_lanes-at.ensures in
    let long = length-drop at bytes in
    let end : c.put_lanes-at.result ≡ at + 64 = omega (arith, length-take-le 64 (drop at bytes) (omega arith)) in
    let within : c.put_lanes-at.result ≤ length bytes = omega arith in
    record {
      within = within;
      copied = put.writes.bytes ∙ ap (λ bs. bs ++ take 64 (drop at bytes)) inv.copied ∙ sym (take-add at 64 bytes) ∙ ap (λ n. take n bytes) (sym end);
      behind = same_after _ _ _ (length bytes) within put.behind ∙ inv.behind;
      len = put.writes.len ∙ inv.len;
    }

pub returns : goal.returns
returns c =
    let bytes = c.args.bytes.now in
    let at = c.loop-at.at in
    let last = length bytes - 64 in
    let inv = c.loop-at.invariant in
    let put = c.put_lanes.ensures in
    let old = c.loop-at.buf in
    let new = c.put_lanes.new.out in
    let many = iff_false c.are_short.ensures c.if-are_short.false in
    let reached : last ≤ at = omega arith in
    let first : take last old ≡ take last bytes = sym (take-take last at old reached) ∙ ap (take last) inv.copied ∙ take-take last at bytes reached in
    let all : c.put_lanes.result ≡ length bytes = omega (arith, many, length-drop last bytes, length-take-le 64 (drop last bytes) (omega (arith, many, length-drop last bytes))) in
    grind (arith, take-append-drop last bytes, take-append-drop (length bytes) new, first, all, take_all 64 (drop last bytes) (omega (arith, many, length-drop last bytes)), put.writes.bytes, put.behind, inv.behind)
