-- Forms (a text's MUTF-8 after its length in two bytes) in a caller's buffer, mostly for
-- `write_utf_to_slice`. `mid_of 2 room` is the part of `room` bytes after the buffer's first two,
-- and `put_mid` puts other bytes, `mid`, in its place. `count` is the two bytes before that part,
-- and `len` the length of the MUTF-8.
use Rattle.std.proofs.Common.{◌≡◌, ℕ, ◌+◌, ◌/◌, ◌%◌, ◌<◌, ◌≤◌, List, [], ◌∷◌, ◌++◌, Ok, Err, refl, sym, ap, ◌∙◌, subst, arith, get_or, length, take, drop, append_assoc, length-drop}
use Rattle.std.proofs.lemmas.Bool.{false≢true}
use Rattle.std.proofs.lemmas.List.{take-append-drop, drop-append-le, length-take, length-take-le}
use borrow.Rule.Slice.PartMut.{put_mid, mid_of, put_same}
use Rattle.simd_cesu8.specs.Encoding.{Mutf8, encoding}
use Rattle.simd_cesu8.specs.Text.{utf8}
use Rattle.simd_cesu8.specs.Reading.{reading}
use Rattle.simd_cesu8.specs.Laws.{LossyBound}
use Rattle.simd_cesu8.specs.Slices.{StandsAtFront, WritesLossyReading}
use Rattle.simd_cesu8.specs.declared.error.LossySliceFault.{LossySliceFault}
use Rattle.simd_cesu8.specs.declared.error.LossySliceFault.TheVariants as lossy
use Rattle.java_text.specs.Form.{mutf8_len, HasForm, java_form, count_in, counted}
use Rattle.java_text.specs.Slices.{WritesForm}
use Rattle.java_text.specs.declared.fault.WriteSliceFault.{WriteSliceFault}
use Rattle.java_text.specs.declared.fault.WriteSliceFault.TheVariants.{TooLong, TooShort}
use Rattle.java_text.proofs.Forms.{drop_after_two}

-- A form has two bytes more than the text's MUTF-8, those of the count.
pub length_of_form : (text : List ℕ) → length (java_form text) ≡ 2 + mutf8_len text
unfolding java_form
length_of_form text = omega arith

-- If the buffer is long enough, the part of `room` bytes after its first two has this length.
pub length_of_room : (old : List ℕ) (room : ℕ) → 2 + room ≤ length old → length (mid_of 2 room old) ≡ room
length_of_room old room fits = length-take-le room (drop 2 old) (omega (arith, length-drop 2 old))

-- The two bytes of a length up to 65,535, the high byte first, are the count of a form.
pub count_of : (len n : ℕ) → len ≡ n → n ≤ 65535 →
    (len / 0x100 % 0x100) ∷ (len % 0x100) ∷ [] ≡ (n / 0x100) ∷ (n % 0x100) ∷ []
count_of len n same small =
    let high : len / 0x100 % 0x100 ≡ n / 0x100 = omega arith in λ i. high i ∷ (same i % 0x100) ∷ []

-- If the count is written to the first two bytes, and the MUTF-8 after them, the form stands at the
-- start of the buffer.
form_after_count : (text old mid count : List ℕ) (len room : ℕ) → 2 ≤ length old → len ≤ length (mid_of 2 room old) → len ≡ mutf8_len text →
    mid ≡ encoding Mutf8 text ++ drop len (mid_of 2 room old) → count ≡ (mutf8_len text / 0x100) ∷ (mutf8_len text % 0x100) ∷ [] →
    StandsAtFront (java_form text) (2 + len) old (count ++ drop 2 (put_mid 2 room old mid))
unfolding java_form
form_after_count text [] mid count len room fits inside len_is mid_is count_is = absurd (omega arith)
form_after_count text (a ∷ []) mid count len room fits inside len_is mid_is count_is = absurd (omega arith)
form_after_count text (a ∷ b ∷ old) mid count len room fits inside len_is mid_is count_is =
    let mutf8 = encoding Mutf8 text in
    let after : drop len (take room old) ++ drop room old ≡ drop len old =
    sym (drop-append-le len (take room old) (drop room old) inside) ∙ ap (drop len) (take-append-drop room old) in (
      omega arith,
      ap (λ bs. bs ++ (mid ++ drop room old)) count_is
          ∙ ap (λ m. (mutf8_len text / 0x100) ∷ (mutf8_len text % 0x100) ∷ (m ++ drop room old)) mid_is
          ∙ ap (λ bs. (mutf8_len text / 0x100) ∷ (mutf8_len text % 0x100) ∷ bs)
          (append_assoc mutf8 (drop len (take room old)) (drop room old) ∙ ap (λ bs. mutf8 ++ bs) (after ∙ sym (drop_after_two a b len old))),
    )

-- Like `form_after_count`, with a name for the offset at which the form ends.
pub form_at_start : (text old mid count : List ℕ) (len room end : ℕ) → end ≡ 2 + len → 2 ≤ length old → len ≤ length (mid_of 2 room old) →
    len ≡ mutf8_len text → mid ≡ encoding Mutf8 text ++ drop len (mid_of 2 room old) →
    count ≡ (mutf8_len text / 0x100) ∷ (mutf8_len text % 0x100) ∷ [] →
    StandsAtFront (java_form text) end old (count ++ drop 2 (put_mid 2 room old mid))
form_at_start text old mid count len room end end_is fits inside len_is mid_is count_is =
    subst (λ n. StandsAtFront (java_form text) n old (count ++ drop 2 (put_mid 2 room old mid))) (sym end_is)
    (form_after_count text old mid count len room fits inside len_is mid_is count_is)

-- Writing a part of the buffer back to its place leaves the buffer unchanged.
pub put_back : (old mid : List ℕ) (room : ℕ) → mid ≡ mid_of 2 room old → put_mid 2 room old mid ≡ old
put_back old mid room same = ap (put_mid 2 room old) same ∙ put_same 2 room old

-- A call that leaves a form at the start of the buffer keeps the promise `WritesForm`.
pub form_written : (text old new : List ℕ) (len : ℕ) → HasForm text → length (java_form text) ≤ length old →
    StandsAtFront (java_form text) len old new → WritesForm text (Ok len) old new
form_written text old new len has fits stands = record {
  written = stands;
  fits = ((λ _. (has, fits)), (λ _. refl));
  too_long = λ none. absurd (none has);
  needed = λ _. tt;
  unchanged = tt;
}

-- If no form fits, a call that returns the reason and leaves the buffer unchanged keeps the promise
-- `WritesForm`.
pub form_misfits : (text old new : List ℕ) (len : ℕ) (fault : WriteSliceFault) → len ≡ mutf8_len text → (HasForm text → length old < length (java_form text)) →
    (65535 < len → fault ≡ TooLong len) → (len ≤ 65535 → fault ≡ TooShort (2 + len)) → new ≡ old →
    WritesForm text (Err fault) old new
form_misfits text old new len fault len_is misfits long short same = record {
  written = tt;
  fits = ((λ ok. absurd (false≢true ok)), (λ both. absurd (omega (arith, misfits both.0, both.1))));
  too_long = λ none. ap Err (long (omega (arith, none)) ∙ ap TooLong len_is);
  needed = λ has. short (omega arith) ∙ ap TooShort (ap (λ n. 2 + n) len_is ∙ sym (length_of_form text));
  unchanged = same;
}

-- The lossy reading of at most 65,535 bytes has at most three times as many (`LossyBound`), so its
-- length fits `usize`, and the error is not `TooLong`.
pub never_too_long : LossyBound → (bytes old new : List ℕ) (fault : LossySliceFault) → length bytes ≤ 65535 → fault ≡ lossy.TooLong →
    WritesLossyReading (λ text. text ≡ reading Mutf8 bytes) (Err fault) old new → ⊥
never_too_long bound bytes old new fault small is writes =
    let found = (subst (λ d. WritesLossyReading (λ text. text ≡ reading Mutf8 bytes) (Err d) old new) is writes).too_long.0 tt in
    omega (arith, bound Mutf8 bytes, ap (λ text. length (utf8 text)) found.1, found.2)

-- There are at most 65,535 counted bytes.
pub counted_bound : (bytes : List ℕ) → ((i : ℕ) → get_or bytes i 0 < 256) → length (counted bytes) ≤ 65535
counted_bound bytes small = omega (arith, small 0, small 1, length-take (count_in bytes) (drop 2 bytes))
