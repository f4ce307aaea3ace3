-- The parts of bytes that begin with a form (a text's MUTF-8 after its length in two bytes), and
-- that bytes begin with at most one form.
use Rattle.std.proofs.Common.{◌≡◌, ℕ, ◌+◌, ◌-◌, ◌*◌, ◌/◌, ◌%◌, ◌<◌, ◌≤◌, List, [], ◌∷◌, ◌++◌, Result, Ok, Err, IfOk, OnOk, Bor, sym, ap, subst, ◌∙◌, inl, inr, length, get_or, take, drop, arith, lit<, length-append}
use Rattle.std.proofs.Math.Seq.{take-append_seam, drop-append_seam, drop-append-add}
use Rattle.std.proofs.lemmas.List.{take-append-drop, take_min, take_rest, length-take, length-take-le}
use Rattle.simd_cesu8.specs.Encoding.{Mutf8, encoding}
use Rattle.simd_cesu8.specs.Reading.{IsStrictReading, HasNoStrictReading}
use Rattle.simd_cesu8.specs.Laws.{RoundTrip}
use Rattle.simd_cesu8.specs.Slices.{WritesReading}
use Rattle.simd_cesu8.specs.Fault as decoding
use Rattle.simd_cesu8.specs.declared.error.DecodeFault.{DecodeFault}
use Rattle.simd_cesu8.specs.declared.error.DecodeSliceFault.{DecodeSliceFault}
use Rattle.simd_cesu8.specs.declared.error.DecodeFault.TheVariants.{Invalid, Memory}
use Rattle.java_text.specs.Fault.{IfRefused, read_fault_of}
use Rattle.java_text.specs.declared.fault.ReadFault.{ReadFault}
use Rattle.java_text.specs.Form.{mutf8_len, java_form, BeginsWithForm, NoFormBegins, BeginsOnlyWithForm, count_in, counted, rest_in, IsTruncated}

-- If bytes begin with a form, the first two count the bytes of the text's MUTF-8.
pub count_in_form : (bytes text rest : List ℕ) → BeginsWithForm bytes text rest → count_in bytes ≡ mutf8_len text
unfolding java_form
count_in_form bytes text rest h = rw h.bytes_are (omega arith)

-- If bytes begin with a form, the counted bytes are the text's MUTF-8.
pub counted_in_form : (bytes text rest : List ℕ) → BeginsWithForm bytes text rest → counted bytes ≡ encoding Mutf8 text
unfolding java_form
counted_in_form bytes text rest h =
    ap (λ n. take n (drop 2 bytes)) (count_in_form bytes text rest h)
    ∙ ap (λ bs. take (mutf8_len text) (drop 2 bs)) h.bytes_are ∙ take-append_seam (encoding Mutf8 text) rest

-- Dropping n bytes after the first two is dropping 2 + n bytes.
pub drop_after_two : (a b n : ℕ) (bytes : List ℕ) → drop (2 + n) (a ∷ b ∷ bytes) ≡ drop n bytes
drop_after_two a b n bytes = drop-append-add (a ∷ b ∷ []) bytes n

-- If bytes begin with a form, the bytes after the counted ones are those after the form.
pub rest_in_form : (bytes text rest : List ℕ) → BeginsWithForm bytes text rest → rest_in bytes ≡ rest
unfolding java_form
rest_in_form bytes text rest h =
    ap (λ n. drop (2 + n) bytes) (count_in_form bytes text rest h)
    ∙ ap (drop (2 + mutf8_len text)) h.bytes_are
    ∙ drop_after_two _ _ (mutf8_len text) (encoding Mutf8 text ++ rest) ∙ drop-append_seam (encoding Mutf8 text) rest

-- Taking as many bytes after the first two as there are counted bytes gives the counted bytes.
pub counted_after_count : (bytes some : List ℕ) → some ≡ counted bytes → take (length some) (take (length bytes - 2) (drop 2 bytes)) ≡ counted bytes
counted_after_count bytes some are =
    let after = drop 2 bytes in
    rw take_rest
    (ap (λ bs. take (length bs) after) are ∙ ap (λ n. take n after) (length-take (count_in bytes) after) ∙ take_min (count_in bytes) after)

-- A call that decodes the bytes that `counted_after_count` takes decodes the counted bytes:
-- `decode_counted` makes such a call.
pub counted_written : (bytes some : List ℕ) (result : Result ℕ DecodeSliceFault) (old new : List ℕ) → some ≡ counted bytes →
    WritesReading (IsStrictReading Mutf8 (take (length some) (take (length bytes - 2) (drop 2 bytes)))) result old new →
    WritesReading (IsStrictReading Mutf8 (counted bytes)) result old new
counted_written bytes some result old new are writes =
    subst (λ part. WritesReading (IsStrictReading Mutf8 part) result old new) (counted_after_count bytes some are) writes

-- No form begins truncated bytes.
pub none_begins_truncated : (bytes : List ℕ) → IsTruncated bytes → NoFormBegins bytes
unfolding java_form
none_begins_truncated bytes t text rest h =
    omega (arith, t, count_in_form bytes text rest h, ap length h.bytes_are, length-append (encoding Mutf8 text) rest)

-- No form begins bytes if the counted ones are the encoding of no text.
none_begins_invalid : (bytes : List ℕ) → HasNoStrictReading Mutf8 (counted bytes) → NoFormBegins bytes
none_begins_invalid bytes n text rest h = n text (h.scalars, sym (counted_in_form bytes text rest h))

-- Bytes begin with the form of at most one text, since texts with equal encodings are equal, and
-- with at most one rest after it.
pub one_form : RoundTrip → (bytes text rest : List ℕ) → BeginsWithForm bytes text rest → BeginsOnlyWithForm bytes text rest
one_form round_trip bytes text rest h other more k = (
  sym ((round_trip Mutf8 text h.scalars).2 other k.scalars
      (sym (counted_in_form bytes text rest h) ∙ counted_in_form bytes other more k)),
  sym (rest_in_form bytes other more k) ∙ rest_in_form bytes text rest h,
)

-- If no byte is missing, and the counted bytes are the encoding of a text, its form begins the
-- bytes.
pub begins_with_form : (bytes text : List ℕ) → ((i : ℕ) → get_or bytes i 0 < 256) → (IsTruncated bytes → ⊥) →
    IsStrictReading Mutf8 (counted bytes) text → BeginsWithForm bytes text (rest_in bytes)
unfolding java_form
begins_with_form [] text small n h = absurd (n (inl (lit< tt)))
begins_with_form (a ∷ []) text small n h = absurd (n (inl (lit< tt)))
begins_with_form (a ∷ b ∷ bytes) text small n h =
    let first : a < 256 = small 0 in
    let second : b < 256 = small 1 in
    let short : 2 + length bytes < 2 + (0x100 * a + b) → ⊥ = λ l. n (inr (omega arith)) in
    let there : 0x100 * a + b ≤ length bytes = omega arith in
    let len : mutf8_len text ≡ 0x100 * a + b = ap length h.1 ∙ length-take-le (0x100 * a + b) bytes there in
    let high : a ≡ mutf8_len text / 0x100 = omega arith in
    let low : b ≡ mutf8_len text % 0x100 = omega arith in
    let after : bytes ≡ encoding Mutf8 text ++ rest_in (a ∷ b ∷ bytes) =
    sym (ap (λ bs. bs ++ rest_in (a ∷ b ∷ bytes)) h.1
    ∙ ap (λ bs. take (0x100 * a + b) bytes ++ bs) (drop_after_two a b (0x100 * a + b) bytes)
    ∙ take-append-drop (0x100 * a + b) bytes) in
    record { scalars = h.0; fits = omega arith; bytes_are = cc }

-- If a call (`split_counted`) splits bytes into the counted ones and the rest, and the counted ones
-- are the encoding of a text, the bytes begin with its form, followed by the rest.
pub form_of_parts : (bytes : List ℕ) (result : Result (Bor (List ℕ) × Bor (List ℕ)) ReadFault) →
    ((i : ℕ) → get_or bytes i 0 < 256) → IfOk result (λ parts. parts.0.now ≡ counted bytes) →
    IfOk result (λ parts. parts.1.now ≡ rest_in bytes) → OnOk result (IsTruncated bytes → ⊥) →
    IfOk result (λ parts. (text : List ℕ) → IsStrictReading Mutf8 parts.0.now text → BeginsWithForm bytes text parts.1.now)
form_of_parts bytes (Ok parts) small first second whole = λ text read.
    subst (BeginsWithForm bytes text) (sym second)
    (begins_with_form bytes text small whole (subst (λ bs. IsStrictReading Mutf8 bs text) first read))
form_of_parts bytes (Err fault) small first second whole = tt

-- If a call splits bytes as in `form_of_parts`, they begin with no other form.
pub only_form_of_parts : (bytes : List ℕ) (result : Result (Bor (List ℕ) × Bor (List ℕ)) ReadFault) →
    ((bytes text rest : List ℕ) → BeginsWithForm bytes text rest → BeginsOnlyWithForm bytes text rest) →
    ((i : ℕ) → get_or bytes i 0 < 256) → IfOk result (λ parts. parts.0.now ≡ counted bytes) →
    IfOk result (λ parts. parts.1.now ≡ rest_in bytes) → OnOk result (IsTruncated bytes → ⊥) →
    IfOk result (λ parts. (text : List ℕ) → IsStrictReading Mutf8 parts.0.now text →
    BeginsOnlyWithForm bytes text parts.1.now)
only_form_of_parts bytes (Ok parts) one small first second whole = λ text read.
    one _ _ _ (form_of_parts bytes (Ok parts) small first second whole text read)
only_form_of_parts bytes (Err fault) one small first second whole = tt

-- If the decoder rejects the counted bytes, no form begins the bytes.
pub none_begins_rejected : (fault : DecodeFault) (bytes : List ℕ) → decoding.IfInvalid fault (HasNoStrictReading Mutf8 (counted bytes)) →
    IfRefused (read_fault_of fault) (NoFormBegins bytes)
none_begins_rejected (Invalid error) bytes h = none_begins_invalid bytes h
none_begins_rejected (Memory error) bytes h = tt
