-- The three results: the buffer has no space for the count, the form is written, or the MUTF-8 does
-- not fit after the count. In the last case `encode_to_slice` left the buffer unchanged. It gets at
-- most 65,535 bytes of the buffer (`end`), so the error is `TooLong` if the MUTF-8 is longer than
-- that, and `TooShort` otherwise.
use Rattle.std.proofs.Common.{◌∙◌, ◌-◌, ◌≤◌, length, arith, refl}
use Rattle.std.specs.Str.{chars}
use Rattle.std.proofs.lemmas.Bool.{false≢true}
use Rattle.simd_cesu8.specs.Encoding.{Mutf8, encoding}
use borrow.Rule.Slice.PartMut.{mid_of}
use Rattle.java_text.specs.Form.{mutf8_len, HasForm}
use Rattle.java_text.proofs.FormSlices.{length_of_form, length_of_room, count_of, form_at_start, put_back, form_written, form_misfits}
use Rattle.java_text.proofs.write_utf_to_slice.Goals as goal

pub returns-then-buf-lt2 : goal.returns-then-buf-lt2
returns-then-buf-lt2 c =
    let text = chars c.args.text.now in
    form_misfits text c.args.buf.now c.args.buf.now c.encoded_len.result c.misfit.result c.encoded_len.ensures
    (λ _. omega (arith, length_of_form text)) c.misfit.ensures.too_long c.misfit.ensures.too_short refl

-- The MUTF-8 fits the part of `room` bytes after the count (`inside`, `loaded`), and `room` is at
-- most 65,535. So the text has a form, and this form fits the buffer.
pub returns-in-Ok : goal.returns-in-Ok
returns-in-Ok c =
    let text = chars c.args.text.now in
    let room = c.min-end.result - 2 in
    let written = c.in-Ok.ensures in
    let inside = written.fits.0 refl in
    let loaded = length_of_room c.args.buf.now room (omega (arith, c.min-end.ensures)) in
    form_written text c.args.buf.now _ _ (omega (arith, loaded, inside, c.min-end.ensures))
    (omega (arith, length_of_form text, loaded, inside, c.min-end.ensures))
    (form_at_start text c.args.buf.now c.encode_to_slice.new.buf c.copy_from_slice.new.self c.in-Ok.length room _
    (omega arith) (omega arith) (omega (arith, inside, written.written.0)) written.written.0 written.written.1
    (c.copy_from_slice.ensures.after ∙ c.to_be_bytes.ensures
    ∙ count_of c.in-Ok.length (mutf8_len text) written.written.0 (omega (arith, loaded, inside, c.min-end.ensures))))

-- The MUTF-8 is longer than that part (`longer`). If the text has a form, the MUTF-8 has at most
-- 65,535 bytes, so the part ends with the buffer, and the form is longer than the buffer.
pub returns-in-Err : goal.returns-in-Err
returns-in-Err c =
    let text = chars c.args.text.now in
    let room = c.min-end.result - 2 in
    let unfit = c.in-Err.ensures in
    let loaded = length_of_room c.args.buf.now room (omega (arith, c.min-end.ensures)) in
    let longer : length (encoding Mutf8 text) ≤ length (mid_of 2 room c.args.buf.now) → ⊥ =
    λ fits. absurd (false≢true (unfit.fits.1 fits)) in
    form_misfits text c.args.buf.now _ c.needed.result c.misfit-in-Err.result (c.needed.ensures ∙ unfit.needed)
    (λ (has : HasForm text). omega (arith, has, longer, loaded, c.min-end.ensures, length_of_form text))
    c.misfit-in-Err.ensures.too_long c.misfit-in-Err.ensures.too_short
    (put_back c.args.buf.now c.encode_to_slice.new.buf room unfit.unchanged)
