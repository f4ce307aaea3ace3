-- The text is the unchanged prefix and then the text of the rest. So the rest decides whether there
-- is a text, and its length is added to that of the prefix. The rest is written first, to the slice
-- from the end of the prefix on; if that fails, the slice is unchanged.
use borrow.Rule.Slice.PartMut.{put_mid}
use Rattle.std.proofs.Common.{◌≡◌, ℕ, ◌-◌, ◌≤◌, List, ◌++◌, refl, ap, ◌∙◌, append-nil, arith, length, take, drop, length-drop, length-append}
use Rattle.std.proofs.Math.Seq.{drop-append_seam}
use Rattle.std.proofs.lemmas.Bool.{both_ways}
use Rattle.std.proofs.lemmas.List.{take_rest, drop_all, take-append-drop, length-take-le}
use Rattle.cesu8_bytes.specs.declared.strictness.Strictness.TheVariants.{Strict}
use Rattle.cesu8_decode.proofs.chunks.TextAfterPrefix.{unless_begun, written_length, needed_length, prefix_put, prefix_lacks_room, prefix_lacks_text}
use Rattle.cesu8_decode.proofs.chunks.SliceReadings.{no_strict_text}
use Rattle.cesu8_decode.proofs.destinations.slices.put_after_prefix.Goals as goal

pub returns-then-not-begins_changed : goal.returns-then-not-begins_changed
returns-then-not-begins_changed g c =
    let f = g.F.Flavor.flavor in
    let bytes = c.args.bytes.now in
    let tells = rw take_rest at c.begins_changed.ensures in
    no_strict_text f Strict bytes c.args.buf.now (
      refl,
      unless_begun f bytes c.args.prefix c.requires.prefix.0 (λ begun. both_ways c.begins_changed.result c.if-not-begins_changed.true (tells.1 begun)) c.requires.prefix.1,
    )

-- A write from an offset to the end leaves nothing after it.
to_end : (start : ℕ) (buf new : List ℕ) → put_mid start (length buf - start) buf new ≡ take start buf ++ new
to_end start buf new =
    ap (λ bs. take start buf ++ bs) (ap (λ bs. new ++ bs) (drop_all (length buf - start) (drop start buf) (omega (arith, length-drop start buf))) ∙ append-nil new)

-- If the bytes from an offset on are unchanged, the whole slice is.
stays : (start : ℕ) (buf new : List ℕ) → new ≡ drop start buf → put_mid start (length buf - start) buf new ≡ buf
stays start buf new same = to_end start buf new ∙ ap (λ bs. take start buf ++ bs) same ∙ take-append-drop start buf

-- The text of the rest has at least one byte and fits, so the slice is longer than the prefix.
pub copy_short_by_call-requires : goal.copy_short_by_call-requires
copy_short_by_call-requires g c =
    let bytes = c.args.bytes.now in
    let buf = c.args.buf.now in
    let n = c.args.prefix in
    let start = c.min-start.result in
    let room = (written_length _ (drop n bytes) (drop start buf) _ _ (simp take_rest at c.in-Ok.ensures)).0 (omega (arith, length-drop n bytes, c.requires.prefix.1)) in
    omega (
      arith,
      ap length (to_end start buf c.put_by_strategy.new.buf),
      length-append (take start buf) c.put_by_strategy.new.buf,
      room,
      length-drop start buf,
      c.min-start.ensures,
      length-take-le n bytes c.requires.prefix.0.within,
      length-take-le start buf (omega (arith, room, length-drop start buf)),
    )

pub returns-in-Ok : goal.returns-in-Ok
returns-in-Ok g c =
    let f = g.F.Flavor.flavor in
    let bytes = c.args.bytes.now in
    let buf = c.args.buf.now in
    let n = c.args.prefix in
    let start = c.min-start.result in
    let new = c.put_by_strategy.new.buf in
    let puts = simp take_rest at c.in-Ok.ensures in
    let room = (written_length f (drop n bytes) (drop start buf) _ _ puts).0 (omega (arith, length-drop n bytes, c.requires.prefix.1)) in
    let is : start ≡ n = omega (arith, room, length-drop start buf, c.min-start.ensures) in
    let long : length (take n bytes) ≡ length (take start buf) =
    omega (arith, is, room, length-drop start buf, length-take-le n bytes c.requires.prefix.0.within, length-take-le start buf (omega (arith, room, length-drop start buf))) in
    prefix_put f bytes buf n c.requires.prefix.0 (omega arith) start c.in-Ok.len new c.copy_short_by_call.new.buf
    (omega (arith, is, room, length-drop start buf)) is puts
    (c.copy_short_by_call.ensures ∙ ap (λ bs. take n bytes ++ bs)
    (ap (drop (length (take n bytes))) (to_end start buf new) ∙ ap (λ m. drop m (take start buf ++ new)) long ∙ drop-append_seam (take start buf) new))

-- The text of the rest is no longer than the rest, so the sum does not overflow.
pub overflow_add-result-in-Err-NoRoom : goal.overflow_add-result-in-Err-NoRoom
overflow_add-result-in-Err-NoRoom g c =
    let n = c.args.prefix in
    let puts = rw c.in-Err-NoRoom.field-0-is at (simp take_rest at c.in-Err-NoRoom.ensures) in
    let needed = needed_length g.F.Flavor.flavor (drop n c.args.bytes.now) (drop c.min-start.result c.args.buf.now) _ c.in-Err-NoRoom.no_room puts in
    omega (arith, needed.0, length-drop n c.args.bytes.now, c.requires.prefix.1)

pub returns-in-Err-NoRoom : goal.returns-in-Err-NoRoom
returns-in-Err-NoRoom g c =
    let f = g.F.Flavor.flavor in
    let buf = c.args.buf.now in
    let start = c.min-start.result in
    let puts = rw c.in-Err-NoRoom.field-0-is at (simp take_rest at c.in-Err-NoRoom.ensures) in
    prefix_lacks_room f c.args.bytes.now buf c.args.prefix c.requires.prefix.0 (omega arith) start c.put_by_strategy.new.buf _ c.in-Err-NoRoom.no_room _
    (λ (fits : c.args.prefix ≤ length buf). omega (arith, c.min-start.ensures)) c.requires.prefix.1 puts refl (stays start buf c.put_by_strategy.new.buf puts.unchanged)

pub returns-in-Err-NoText : goal.returns-in-Err-NoText
returns-in-Err-NoText g c =
    let f = g.F.Flavor.flavor in
    let buf = c.args.buf.now in
    let start = c.min-start.result in
    let puts = rw c.in-Err-NoText.field-0-is at (simp take_rest at c.in-Err-NoText.ensures) in
    prefix_lacks_text f c.args.bytes.now buf c.args.prefix c.requires.prefix.0 (omega arith) (drop start buf) c.put_by_strategy.new.buf _ puts
    (stays start buf c.put_by_strategy.new.buf puts.unchanged)
