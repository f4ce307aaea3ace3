-- What is written window by window, and what has been decoded then. The first windows are read in
-- place, and the last ones from a copy of the last bytes with zeros after them: both give the same
-- text. `IsDecoded` says what has been written for n bytes, or that strict decoding rejects one.
-- What the definitions say of the window at offset i is about its byte i + 5, so for `window_of` of
-- some bytes about byte i of these.
use Rattle.std.proofs.lemmas.Bool.Decides.{nat_tests}
use Rattle.std.proofs.lemmas.Grind.{common_steps}
use Rattle.std.proofs.Common.{◌≡◌, ℕ, zero, suc, ◌+◌, ◌-◌, ◌<◌, ◌≤◌, ◌⊎◌, Bool, true, false, true≢false, List, [], ◌++◌, refl, sym, ap, ◌∙◌, arith, get_or, length, drop, replicate, zero-add, append_assoc}
use Rattle.std.proofs.lemmas.List.{length-append, length-drop, get_or-drop, get_or_past}
use Rattle.std.proofs.Math.Seq.{take-length}
use Rattle.std.proofs.lemmas.Bool.{cases_lt}
use Rattle.cesu8_text.specs.Encoding.{Flavor}
use Rattle.cesu8_text.specs.Text.{utf8}
use Rattle.cesu8_text.specs.Reading.{HasNoStrictReading, reading, lossy_length}
use Rattle.cesu8_bytes.specs.Packing.{written_for}
use Rattle.cesu8_bytes.specs.declared.strictness.Strictness.{Strictness}
use Rattle.cesu8_bytes.specs.declared.strictness.Strictness.TheVariants.{Strict, Lossy}
use Rattle.cesu8_bytes.specs.Puts.{WritesAt}
use Rattle.cesu8_bytes.specs.TextChunks.{IsReadSoFar}
use Rattle.cesu8_bytes.proofs.vectors.Loads.{padded, zeros_at}
use Rattle.cesu8_decode.specs.DecodedOffsets.{window_of, is_ill_formed_at, decoded_byte, decoded}
use Rattle.cesu8_decode.specs.Decoding.{IsDecoded, WritesDecoded, WritesWindow, most_written, most_of_text}
use Rattle.cesu8_decode.specs.Masks.{IsWindow}
use Rattle.cesu8_decode.specs.declared.lanes.windows.Window.{Window}
use Rattle.cesu8_decode.proofs.by_offset.IllFormed.{IsChunk}
use Rattle.cesu8_decode.proofs.by_offset.WindowOffsets.{is_boundary_at, Agree, agree_later, follows_zeros, ill_formed_agrees, decoded_agrees, decoded_split}
use Rattle.cesu8_decode.proofs.by_offset.DecodedText.{decoded_between}
use Rattle.cesu8_decode.proofs.chunks.ReadChunks.{fault_of_whole, none_left, chunk_appended}
use Rattle.cesu8_decode.proofs.chunks.DecodedChunks.{IsPaddedFor, padded_for, fault_at, lossy_chunk, strict_chunk}
use Rattle.cesu8_decode.proofs.by_offset.CharacterBoundaries.{boundary_of_zeros, boundary_at_end}
use Rattle.cesu8_decode.proofs.decoder.WindowEnds.{none_in_window, found_in_window, ends_at_zero}

-- ---- lengths

-- For a byte that is not ill-formed, at most one byte is written, and none if it is dropped
-- (`goes`).
pub one_or_none : (goes : Bool) (b : ℕ) → length (written_for goes false b) ≤ 1
one_or_none true b = omega arith
one_or_none false b = omega arith

-- For any byte, at most the three bytes of U+FFFD are written.
pub at_most_three : (goes ill_formed : Bool) (b : ℕ) → length (written_for goes ill_formed b) ≤ 3
at_most_three goes ill_formed b = grind (arith, nat_tests, common_steps)

-- What is written for n bytes is at most n bytes if none of them is ill-formed, and otherwise at
-- most three for each.
pub no_longer : (f : Flavor) (which : Strictness) (window : List ℕ) (at n : ℕ) →
    (which ≡ Strict → (i : ℕ) → at ≤ i → i < at + n → is_ill_formed_at f window i ≡ false) → length (decoded f window at n) ≤ most_written which n
unfolding decoded decoded_byte
no_longer f Strict window at zero fine = omega arith
no_longer f Lossy window at zero fine = omega arith
no_longer f Strict window at (suc n) fine = grind (arith, nat_tests, one_or_none, length-append, no_longer f Strict window (at + 1) n (λ strict i low inside. fine strict i (omega arith) (omega arith)))
no_longer f Lossy window at (suc n) fine = grind (arith, nat_tests, at_most_three, length-append, no_longer f Lossy window (at + 1) n (λ strict i low inside. fine strict i (omega arith) (omega arith)))

-- The greatest length for n + m bytes is that for n bytes and that for m bytes together.
pub most_of_more : (which : Strictness) (n m : ℕ) → most_written which (n + m) ≡ most_written which n + most_written which m
most_of_more Strict n m = refl
most_of_more Lossy n m = omega arith

-- ---- the last bytes

-- Bytes that agree have windows that agree.
pub windows_alike : (a b : List ℕ) → ((k : ℕ) → get_or a k 0 ≡ get_or b k 0) → (j : ℕ) → get_or (window_of a) j 0 ≡ get_or (window_of b) j 0
windows_alike a b alike zero = refl
windows_alike a b alike (suc zero) = refl
windows_alike a b alike (suc (suc zero)) = refl
windows_alike a b alike (suc (suc (suc zero))) = refl
windows_alike a b alike (suc (suc (suc (suc zero)))) = refl
windows_alike a b alike (suc (suc (suc (suc (suc k))))) = alike k

-- The window of the last bytes, with zeros after them, agrees with the window of all bytes from an
-- offset on, if the copy includes the five bytes before that offset, or all bytes before it.
pub last_agrees : (bytes last : List ℕ) (first at n : ℕ) → ((k : ℕ) → get_or last k 0 ≡ get_or bytes (first + k) 0) →
    first ≤ at → (first ≡ 0) ⊎ (first + 5 ≤ at) → Agree (window_of last) (window_of bytes) (at - first) at n
last_agrees bytes last first at n are inside either k small = grind (arith, nat_tests, windows_alike, zero-add, follows_zeros)

-- After the end of the bytes the copy has zeros.
pub last_zeros : (bytes last : List ℕ) (first i : ℕ) → ((k : ℕ) → get_or last k 0 ≡ get_or bytes (first + k) 0) → length bytes ≤ first + i →
    get_or last i 0 ≡ 0
last_zeros bytes last first i are beyond = are i ∙ get_or_past bytes (first + i) 0 beyond

-- Bytes that are copied to zeros are followed by zeros.
pub copied_to_zeros : (bytes last : List ℕ) (first m : ℕ) (zeros : List ℕ) → zeros ≡ replicate m 0 → last ≡ drop first bytes ++ drop (length (drop first bytes)) zeros →
    (k : ℕ) → get_or last k 0 ≡ get_or bytes (first + k) 0
copied_to_zeros bytes last first m zeros is copied k = grind (arith, nat_tests, padded, get_or-drop, zeros_at)

-- ---- what is written

-- What is written for more bytes is appended to what is written for the first ones.
more_written : (f : Flavor) (window before old new : List ℕ) (at len : ℕ) → old ≡ before ++ decoded f window 0 at →
    new ≡ old ++ decoded f window at len → new ≡ before ++ decoded f window 0 (at + len)
more_written f window before old new at len old_is new_is = grind (arith, nat_tests, append_assoc, zero-add, decoded_split)

-- Nothing is written for no bytes.
pub none_decoded : (f : Flavor) (which : Strictness) (window before : List ℕ) → IsDecoded f which window 0 0 before before false
unfolding decoded
none_decoded f which window before = grind (arith, nat_tests, common_steps)

-- What is written for the next n bytes continues what is written for the first ones.
pub more_decoded : (f : Flavor) (which : Strictness) (window before old text : List ℕ) (at n : ℕ) (is_rejected : Bool) →
    IsDecoded f which window 0 at before old false → IsDecoded f which window at n old text is_rejected →
    IsDecoded f which window 0 (at + n) before text is_rejected
more_decoded f which window before old text at n is_rejected first next = grind (arith, nat_tests, more_written, cases_lt)

-- What is written for n bytes depends on ten bytes more: the five before them and the five after
-- them.
pub decoded_in : (f : Flavor) (which : Strictness) (a b before text : List ℕ) (i j n : ℕ) (is_rejected : Bool) → Agree a b i j (n + 10) →
    IsDecoded f which a i n before text is_rejected → IsDecoded f which b j n before text is_rejected
decoded_in f which a b before text i j n is_rejected agree is = record {
  bytes = λ none. is.bytes none ∙ ap (λ bs. before ++ bs) (decoded_agrees f a b i j n agree);
  refused = λ some.
      let found = is.refused some in
      let here : i + (found.0 - i) ≡ found.0 = omega (arith, found.1) in (
        j + (found.0 - i),
        omega arith,
        omega (arith, found.1, found.2),
        sym (same (found.0 - i) (omega (arith, found.1, found.2))) ∙ ap (is_ill_formed_at f a) here ∙ found.3,
      );
  lossy = is.lossy;
  strict = λ strict none k low inside.
      let there : j + (k - j) ≡ k = omega arith in
      sym (ap (is_ill_formed_at f b) there) ∙ sym (same (k - j) (omega arith)) ∙ is.strict strict none (i + (k - j)) (omega arith) (omega arith);
}
  where
    same : (s : ℕ) → s < n → is_ill_formed_at f a (i + s) ≡ is_ill_formed_at f b (j + s)
    same s small = ill_formed_agrees f a b (i + s) (j + s) (agree_later a b i j (n + 10) s 11 (omega arith) agree)

-- If the text of n bytes is written, and strict decoding rejects none of them, `WritesDecoded`
-- holds.
pub writes_fine : (f : Flavor) (which : Strictness) (window : List ℕ) (at n start end : ℕ) (old new : List ℕ) → WritesAt (decoded f window at n) start old new end →
    (which ≡ Strict → (i : ℕ) → at ≤ i → i < at + n → is_ill_formed_at f window i ≡ false) → WritesDecoded f which window at n start old new end false
writes_fine f which window at n start end old new written fine = record {
  text = record { bytes = λ _. written.bytes; refused = λ never. absurd (true≢false (sym never)); lossy = λ _. refl; strict = λ strict _. fine strict };
  end = omega (arith, written.end, no_longer f which window at n fine);
  len = written.len;
}

-- If the text of a window is written (`WritesWindow`), `WritesDecoded` holds for its bytes.
pub writes_window : (f : Flavor) (which : Strictness) (bytes : List ℕ) (at : ℕ) (window : Window) (start end : ℕ) (old new : List ℕ) →
    IsWindow f bytes at window → (which ≡ Strict → window.ill_formed ≡ 0) → WritesWindow f bytes at window start old new end →
    WritesDecoded f which (window_of bytes) at window.len start old new end false
writes_window f which bytes at window start end old new is whole written =
    writes_fine f which (window_of bytes) at window.len start end old new written (λ strict. none_in_window f bytes at window is (whole strict))

-- If strict decoding rejects a window, nothing is written.
pub rejects_window : (f : Flavor) (which : Strictness) (bytes : List ℕ) (at : ℕ) (window : Window) (start : ℕ) (old : List ℕ) →
    IsWindow f bytes at window → ¬ (window.ill_formed ≡ 0) → which ≡ Strict →
    WritesDecoded f which (window_of bytes) at window.len start old old start true
rejects_window f which bytes at window start old is some strict = grind (arith, nat_tests, found_in_window f bytes at window is some)

-- A window of `count` offsets ends after them if a zero follows.
pub ends_at : (f : Flavor) (bytes : List ℕ) (at count : ℕ) (window : Window) (is : IsWindow f bytes at window) → is.n ≡ count →
    get_or bytes (at + count) 0 ≡ 0 → window.len ≡ count
ends_at f bytes at count window is few null = ends_at_zero f bytes at window is (ap (λ n. get_or bytes (at + n) 0) few ∙ null) ∙ few

-- ---- what has been decoded

-- If no byte was rejected, the text of all bytes is decoded.
pub all_decoded : (f : Flavor) (which : Strictness) (bytes start text : List ℕ) (n : ℕ) → IsDecoded f which (window_of bytes) 0 n start text false →
    n ≡ length bytes → IsReadSoFar f which bytes [] start text
all_decoded f which bytes start text n is all =
    chunk_appended f which bytes [] _ start text (none_left f which bytes _ [] _ (chunk which is) (omega (arith, all, length-drop n bytes))) (is.bytes refl)
  where
    padded : IsPaddedFor n bytes (window_of bytes)
    padded = padded_for bytes (window_of bytes) n (λ k. refl)

    boundary : is_boundary_at f (window_of bytes) n ≡ true
    boundary = ap (is_boundary_at f (window_of bytes)) all ∙ boundary_at_end f (window_of bytes) bytes (follows_zeros bytes) (boundary_of_zeros f bytes)

    chunk : (w : Strictness) → IsDecoded f w (window_of bytes) 0 n start text false → IsChunk f w bytes (drop n bytes) (decoded f (window_of bytes) 0 n)
    chunk Strict is = strict_chunk f bytes (window_of bytes) n padded (omega arith) boundary Strict (λ i small. is.strict refl refl i (omega arith) (omega arith))
    chunk Lossy is = lossy_chunk f bytes (window_of bytes) n padded (omega arith) boundary

-- If strict decoding rejects no byte, none is rejected, since lossy decoding never rejects one.
pub none_rejected : (f : Flavor) (which : Strictness) (window old new : List ℕ) (at n : ℕ) (is_rejected : Bool) →
    IsDecoded f which window at n old new is_rejected → (which ≡ Strict → is_rejected ≡ false) → is_rejected ≡ false
none_rejected f Strict window old new at n is_rejected is strict = strict refl
none_rejected f Lossy window old new at n is_rejected is strict = is.lossy refl

-- `unless_rejected` returns an error only if it is false that strict decoding rejects nothing. Then
-- a byte was rejected.
pub some_rejected : (which : Strictness) (is_rejected : Bool) → ¬ (which ≡ Strict → is_rejected ≡ false) → is_rejected ≡ true
some_rejected which true some = refl
some_rejected which false some = absurd (some (λ _. refl))

-- If a byte was rejected, the bytes have no strict reading.
pub refused_decoded : (f : Flavor) (which : Strictness) (bytes start text : List ℕ) (n : ℕ) → IsDecoded f which (window_of bytes) 0 n start text true →
    n ≤ length bytes → (which ≡ Strict) × HasNoStrictReading f bytes
refused_decoded f Strict bytes start text n is inside =
    let found = is.refused refl in
    (refl, fault_of_whole f bytes (fault_at f bytes (window_of bytes) n (padded_for bytes (window_of bytes) n (λ k. refl)) inside found.0 (omega (arith, found.2)) found.3))
refused_decoded f Lossy bytes start text n is inside = absurd (true≢false (is.lossy refl))

-- The text of the first n bytes is no longer than the greatest length of the whole text.
pub decoded_fits : (f : Flavor) (which : Strictness) (bytes start text : List ℕ) (n : ℕ) → IsDecoded f which (window_of bytes) 0 n start text false →
    n ≤ length bytes → length text ≤ length start + most_of_text f which bytes
unfolding lossy_length
decoded_fits f Strict bytes start text n is inside =
    omega (arith, ap length (is.bytes refl), length-append start (decoded f (window_of bytes) 0 n), no_longer f Strict (window_of bytes) 0 n (λ s i low small. is.strict refl refl i low small))
decoded_fits f Lossy bytes start text n is inside =
    let w = window_of bytes in
    let m = length bytes - n in
    let whole : n + m ≡ length bytes = omega arith in
    let all = decoded_between f w bytes (length bytes) (follows_zeros bytes) (omega arith) (boundary_of_zeros f bytes)
    (boundary_at_end f w bytes (follows_zeros bytes) (boundary_of_zeros f bytes)) in
    omega (
      arith,
      ap length (is.bytes refl),
      length-append start (decoded f w 0 n),
      ap length (decoded_split f w 0 n m),
      length-append (decoded f w 0 n) (decoded f w (0 + n) m),
      ap (λ k. length (decoded f w 0 k)) whole,
      ap length all,
      ap (λ bs. length (utf8 (reading f bs))) (take-length bytes),
    )
