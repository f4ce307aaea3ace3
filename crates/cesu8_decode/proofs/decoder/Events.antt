-- The loop that writes the events of a window, `write_in_turn`. An event is a surrogate pair, C0 80
-- in MUTF-8, or a run of ill-formed bytes, which has a bit at its first byte alone.
use Rattle.std.proofs.Common.{◌≡◌, ℕ, ◌+◌, ◌-◌, ◌*◌, ◌/◌, ◌^◌, ◌<◌, ◌≤◌, ◌⊎◌, ⊎_elim, inl, inr, Bool, true, false, true≢false, not, eqb, List, refl, sym, ap, ◌∙◌, subst, arith, length, take, drop, add-zero, append-nil, length-append}
use Rattle.std.specs.Int.{bit_at, trailing_ones, trailing_zeros, w64}
use Rattle.std.specs.Int.Bits.{bit_and, bit_or}
use Rattle.std.proofs.Math.ListN.{replicate}
use Rattle.std.proofs.lemmas.Bool.{cases_eq, cases_lt, eqb-true, ne_eqb}
use Rattle.std.proofs.lemmas.Nat.Bits.{bit_at-lt, bit_at-zero, bit_at_or, shr_and_one, bit_at-trailing_zeros}
use Rattle.cesu8_text.specs.Text.{utf8}
use Rattle.cesu8_text.specs.Encoding.{Flavor}
use Rattle.cesu8_bytes.specs.Puts.{WritesAt}
use Rattle.cesu8_bytes.specs.declared.strictness.Strictness.TheVariants.{Strict, Lossy}
use Rattle.cesu8_bytes.proofs.lists.Stored.{written_after}
use Rattle.cesu8_decode.specs.Decoding.{WritesWindow, most_of_window}
use Rattle.cesu8_decode.specs.DecodedOffsets.{width_at, window_of, is_boundary_at, is_ill_formed_at, decoded}
use Rattle.cesu8_decode.specs.Masks.{HoldWindow, IsWindow, is_pair_at}
use Rattle.cesu8_decode.specs.declared.lanes.windows.Window.{Window}
use Rattle.cesu8_decode.proofs.by_offset.CharacterBoundaries.{width_bounds}
use Rattle.cesu8_decode.proofs.by_offset.IllFormed.{not_reached}
use Rattle.cesu8_decode.proofs.by_offset.WindowOffsets.{width_there, decoded_split}
use Rattle.cesu8_decode.proofs.decoder.WrittenWindows.{no_longer}
use Rattle.cesu8_decode.proofs.decoder.EventBits.{IsLowest, AreLeft, all_events, event_set, first_begins, run_begins, none_there, none_before, after_event, unset}
use Rattle.cesu8_decode.proofs.decoder.MaskBits.{marks_fit, run_ones, run_ends}
use Rattle.cesu8_decode.proofs.decoder.WindowEnds.{none_changes, none_in_window, pair_set, null_set, ill_set, pair_unset, null_unset, ill_unset, ends_within, none_inside}
use Rattle.cesu8_decode.proofs.decoder.EventsDecoded.{NoEventAt, kept_decoded, boundary_after_character, boundary_after_ill_formed, ill_formed_decoded, length_replacements}

-- The masks of a window's events: of those that are no ill-formed bytes, and of all.
abbrev changing : Window → ℕ
changing window = bit_or window.pairs window.nulls

abbrev events_of : Window → ℕ
events_of window = all_events (changing window) window.ill_formed

-- What is written for n more bytes continues what is written for the m bytes before them.
written_next : (f : Flavor) (bytes : List ℕ) (at m n start middle end : ℕ) (old mid new : List ℕ) → WritesAt (decoded f (window_of bytes) at m) start old mid middle →
    WritesAt (decoded f (window_of bytes) (at + m) n) middle mid new end → WritesAt (decoded f (window_of bytes) at (m + n)) start old new end
written_next f bytes at m n start middle end old mid new first next =
    subst (λ bs. WritesAt bs start old new end) (sym (decoded_split f (window_of bytes) at m n)) (written_after _ _ old mid new start middle end first next)

module _ {f : Flavor} {bytes : List ℕ} {at : ℕ} {width : ℕ} {window : Window} (holds : HoldWindow f bytes at width window) where
  abbrev is : IsWindow f bytes at window
  is = holds.is_window

  fits : window.ill_formed < 2 ^ 64
  fits = marks_fit (is_ill_formed_at f (window_of bytes)) at is.n is.few is.ill_formed

  -- The text of the first n bytes of the window is no longer than the text of a window can be.
  text_fits : (n : ℕ) → n ≤ window.len → length (decoded f (window_of bytes) at n) ≤ most_of_window window
  text_fits n within =
      ⊎_elim (λ (none : window.ill_formed ≡ 0).
      let short = no_longer f Strict (window_of bytes) at n (λ strict i low inside. none_in_window f bytes at window is none i low (omega arith)) in
      rw none (omega (arith, short, is.fits)))
      (λ (some : ¬ (window.ill_formed ≡ 0)).
      let long = no_longer f Lossy (window_of bytes) at n (λ strict. absurd (let e = strict in cc)) in
      rw (ne_eqb window.ill_formed 0 some) (omega (arith, long, is.fits)))
      (cases_eq window.ill_formed 0)

  -- No character begins at an ill-formed byte.
  ill_formed_starts : (i : ℕ) → is_ill_formed_at f (window_of bytes) i ≡ true → width_at f bytes i ≡ 0
  ill_formed_starts i bad = omega (arith, not_reached f (window_of bytes) i bad 5 (omega arith), width_there f bytes i)

  -- If no character begins at an offset, no event begins there, except for an ill-formed byte that
  -- follows no other.
  no_event : (i j : ℕ) → i ≡ j + 1 → width_at f bytes (at + i) ≡ 0 → (bit_at window.ill_formed i ≡ 0) ⊎ (bit_at window.ill_formed j ≡ 1) → bit_at (events_of window) i ≡ 0
  no_event i j there none either =
      let begins = none_changes is (at + i) none in
      let p = unset window.pairs i (λ set. true≢false (sym (pair_set is i set).1 ∙ begins.0)) in
      let n = unset window.nulls i (λ set. true≢false (sym (null_set is i set).1 ∙ begins.1)) in
      none_there (changing window) window.ill_formed fits i j there (bit_at_or window.pairs window.nulls i ∙ omega (arith, p, n)) either

-- The state of the loop: `read` bytes of the window are read, and their text is written to the
-- buffer, which was `old` and is `new`, from `start` up to `end`. `events` has the bits of the
-- events that are left.
pub record AreRead (f : Flavor) (bytes : List ℕ) (at width : ℕ) (window : Window) (start : ℕ) (old : List ℕ) (read events end : ℕ) (new : List ℕ) : Type 0 where
  pub holds : HoldWindow f bytes at width window
  pub left : AreLeft (changing window) window.ill_formed read events
  pub within : read ≤ window.len
  pub boundary : is_boundary_at f (window_of bytes) (at + read) ≡ true
  pub text : WritesAt (decoded f (window_of bytes) at read) start old new end
  pub room : end ≤ start + most_of_window window

-- Before the loop no byte is read.
pub none_read : {f : Flavor} {bytes : List ℕ} {at width : ℕ} {window : Window} (start : ℕ) (old : List ℕ) → HoldWindow f bytes at width window →
    AreRead f bytes at width window start old 0 (events_of window) start old
unfolding decoded
none_read {f = f} {bytes = bytes} {at = at} {width = width} {window = window} start old holds = record {
  holds = holds;
  left = record { gone = λ i never. absurd (omega arith); same = λ i low. refl; fresh = first_begins (changing window) window.ill_formed (fits holds) };
  within = omega arith;
  boundary = ap (is_boundary_at f (window_of bytes)) (add-zero at) ∙ holds.boundary;
  text = record { bytes = sym (append-nil (take start old)); end = omega arith; len = refl };
  room = omega arith;
}

module _ {f : Flavor} {bytes : List ℕ} {at width : ℕ} {window : Window} {start : ℕ} {old : List ℕ} {read events end : ℕ} {new : List ℕ}
    (so_far : AreRead f bytes at width window start old read events end new) where
  abbrev is_window : IsWindow f bytes at window
  is_window = so_far.holds.is_window

  abbrev ill : ℕ
  ill = window.ill_formed

  ill_fits : ill < 2 ^ 64
  ill_fits = fits so_far.holds

  -- The bytes before the next event are in no event.
  no_event_before : (next : ℕ) → next ≤ window.len → ((j : ℕ) → j < next → bit_at events j ≡ 0) → (i : ℕ) → at + read ≤ i → i < at + next → NoEventAt f bytes i
  no_event_before next within none i low inside =
      let both = none_before (changing window) ill read events ill_fits so_far.left next (i - at) none (omega arith) (omega arith) in
      let ors = bit_at_or window.pairs window.nulls (i - at) in
      record {
        pair = pair_unset is_window i (omega arith) (omega arith) (omega (arith, both, ors));
        null = null_unset is_window i (omega arith) (omega arith) (omega (arith, both, ors));
        fine = ill_unset is_window i (omega arith) (omega arith) both.1;
      }

  -- The bytes before the next event are copied.
  copied_to : (next copied : ℕ) (mid : List ℕ) → read ≤ next → next ≤ window.len → ((j : ℕ) → j < next → bit_at events j ≡ 0) →
      WritesAt (take (next - read) (drop (at + read) bytes)) end new mid copied → WritesAt (decoded f (window_of bytes) at next) start old mid copied
  copied_to next copied mid low within none copy =
      let all : read + (next - read) ≡ next = omega arith in
      let kept = kept_decoded f bytes (at + read) (next - read) (omega (arith, so_far.holds.after)) so_far.boundary (λ i low inside. no_event_before next within none i low (omega arith)) in
      subst (λ n. WritesAt (decoded f (window_of bytes) at n) start old mid copied) all
      (written_next f bytes at read (next - read) start end copied old new mid so_far.text (subst (λ bs. WritesAt bs end new mid copied) kept copy))

  -- After the last event the rest of the window is copied.
  pub rest_copied : (copied : ℕ) (last : List ℕ) → events ≡ 0 → WritesAt (take (window.len - read) (drop (at + read) bytes)) end new last copied →
      WritesWindow f bytes at window start old last copied
  rest_copied copied last none copy = copied_to window.len copied last so_far.within (omega arith) (λ j small. ap (λ m. bit_at m j) none ∙ bit_at-zero j) copy

  -- ---- the next event

  module _ (left : 0 < events) (events_fit : events < 2 ^ 64) where
    abbrev next : ℕ
    next = trailing_zeros w64 events

    lowest : IsLowest events next
    lowest = let first = bit_at-trailing_zeros w64 events left events_fit in record { set = first.1; below = first.2 }

    -- It is not before the bytes that are left.
    pub next_low : read ≤ next
    next_low = ⊎_elim (λ (before : next < read). absurd (omega (arith, lowest.set, so_far.left.gone next before))) (λ (low : read ≤ next). low) (cases_lt next read)

    -- It has a bit in one of the masks.
    next_set : (bit_at window.pairs next ≡ 1) ⊎ (bit_at window.nulls next ≡ 1) ⊎ (bit_at ill next ≡ 1)
    next_set = grind (arith, event_set (changing window) ill ill_fits next (sym (so_far.left.same next next_low) ∙ lowest.set), bit_at_or window.pairs window.nulls next, bit_at-lt window.pairs next, bit_at-lt window.nulls next)

    next_begins : next < is_window.n
    next_begins = ⊎_elim (λ pair. (pair_set is_window next pair).0) (⊎_elim (λ null. (null_set is_window next null).0) (λ bad. (ill_set is_window next bad).0)) next_set

    pub next_inside : next < window.len
    next_inside = omega (arith, next_begins, is_window.len)

    -- An event that is neither an ill-formed byte nor C0 80 is a surrogate pair.
    pub pair_marked : trailing_ones w64 (ill / 2 ^ next) ≡ 0 → bit_at window.nulls next ≡ 0 → is_pair_at f bytes (at + next) ≡ true
    pair_marked none other =
        let here : next ≡ next + trailing_ones w64 (ill / 2 ^ next) = omega (arith, none) in
        let fine : bit_at ill next ≡ 0 = ap (bit_at ill) here ∙ run_ends ill next ill_fits in
        ⊎_elim (λ (pair : bit_at window.pairs next ≡ 1). (pair_set is_window next pair).1)
        (⊎_elim (λ (null : bit_at window.nulls next ≡ 1). absurd (omega (arith, null, other))) (λ (bad : bit_at ill next ≡ 1). absurd (omega (arith, bad, fine)))) next_set

    -- The bytes before it are copied to the buffer, which is then `mid`, up to `copied`. After the
    -- event is written, the buffer is `last`, and `after` is the end.
    module _ (copied after : ℕ) (mid last : List ℕ) (copy : WritesAt (take (next - read) (drop (at + read) bytes)) end new mid copied) where
      before : WritesAt (decoded f (window_of bytes) at next) start old mid copied
      before = copied_to next copied mid next_low (omega (arith, next_begins, is_window.len)) lowest.below copy

      -- The copied bytes end within the greatest length of the window's text, so the buffer has
      -- space for a character after them.
      pub event_room : copied ≤ start + most_of_window window
      event_room = omega (arith, before.end, text_fits so_far.holds next (omega (arith, next_begins, is_window.len)))

      -- After an event of m bytes the loop's state holds again.
      event_read : (m : ℕ) → 0 < m → next + m ≤ window.len → ((i : ℕ) → next < i → i < next + m → bit_at (events_of window) i ≡ 0) →
          (bit_at ill (next + m) ≡ 1 → bit_at (events_of window) (next + m) ≡ 1) → is_boundary_at f (window_of bytes) (at + (next + m)) ≡ true →
          WritesAt (decoded f (window_of bytes) (at + next) m) copied mid last after →
          AreRead f bytes at width window start old (next + m) (bit_and events (events - 1)) after last
      event_read m some within none begins boundary written =
          let text = written_next f bytes at next m start copied after old mid last before written in record {
            holds = so_far.holds;
            left = after_event (changing window) ill read events ill_fits so_far.left next (next + m) lowest next_low (omega arith) none begins;
            within = within;
            boundary = boundary;
            text = text;
            room = omega (arith, text.end, text_fits so_far.holds (next + m) within);
          }

      -- A run of n ill-formed bytes begins there.
      module _ (n : ℕ) (some : 0 < n) (run : n ≡ trailing_ones w64 (ill / 2 ^ next)) where
        ones : (i : ℕ) → next ≤ i → i < next + n → bit_at ill i ≡ 1
        ones i low inside = run_ones ill next ill_fits i low (omega (arith, inside, run))

        bad : (i : ℕ) → next ≤ i → i < next + n → (i < is_window.n) × (is_ill_formed_at f (window_of bytes) (at + i) ≡ true)
        bad i low inside = ill_set is_window i (ones i low inside)

        within : next + n ≤ window.len
        within = omega (arith, (bad (next + n - 1) (omega arith) (omega arith)).0, is_window.len)

        are : utf8 (replicate n 0xFFFD) ≡ decoded f (window_of bytes) (at + next) n
        are = ill_formed_decoded f bytes (at + next) n (λ i low inside.
            let there : at + (i - at) ≡ i = omega arith in
            ap (is_ill_formed_at f (window_of bytes)) (sym there) ∙ (bad (i - at) (omega arith) (omega arith)).1)

        -- The buffer has space for its replacement characters.
        pub run_room : copied + 3 * n ≤ start + most_of_window window
        run_room = omega (
          arith,
          before.end,
          text_fits so_far.holds (next + n) within,
          ap length (decoded_split f (window_of bytes) at next n),
          length-append (decoded f (window_of bytes) at next) (decoded f (window_of bytes) (at + next) n),
          ap length are,
          length_replacements n,
        )

        -- After it the loop's state holds again.
        pub run_read : WritesAt (utf8 (replicate n 0xFFFD)) copied mid last after →
            AreRead f bytes at width window start old (next + n) (bit_and events (events - 1)) after last
        run_read replaced =
            let behind : at + (next + n - 1) + 1 ≡ at + (next + n) = omega arith in
            event_read n some within
            (λ i low inside. no_event so_far.holds i (i - 1) (omega arith) (ill_formed_starts so_far.holds (at + i) (bad i (omega arith) inside).1) (inr (ones (i - 1) (omega arith) (omega arith))))
            (λ set. absurd (omega (arith, set, ap (λ m. bit_at ill (next + m)) run, run_ends ill next ill_fits)))
            (ap (is_boundary_at f (window_of bytes)) (sym behind) ∙ boundary_after_ill_formed f bytes (at + (next + n - 1)) (bad (next + n - 1) (omega arith) (omega arith)).1)
            (subst (λ bs. WritesAt bs copied mid last after) are replaced)

      -- After a character that needs conversion the loop's state holds again.
      module _ (m : ℕ) (some : 0 < m) (wide : m ≡ width_at f bytes (at + next)) where
        covered : (i : ℕ) → next ≤ i → i < next + m → bit_at ill i ≡ 0
        covered i low inside =
            unset ill i (λ set.
            let s = next + 5 - i in
            let there : at + i + s ≡ at + next + 5 = omega (arith, wide, width_bounds f bytes (at + next)) in
            omega (
              arith,
              wide,
              width_there f bytes (at + next),
              ap (width_at f (window_of bytes)) there,
              not_reached f (window_of bytes) (at + i) (ill_set is_window i set).1 s (omega arith),
            ))

        pub changed_read : WritesAt (decoded f (window_of bytes) (at + next) m) copied mid last after →
            AreRead f bytes at width window start old (next + m) (bit_and events (events - 1)) after last
        changed_read changed =
            let behind : at + (next + m) ≡ at + next + m = omega arith in
            let within = ends_within is_window next m some wide next_begins in
            event_read m some within
            (λ i low inside. no_event so_far.holds i (i - 1) (omega arith) (none_inside is_window next m some wide next_begins (omega (arith, so_far.holds.after)) i low inside) (inl (covered i (omega arith) inside)))
            (run_begins (changing window) ill ill_fits (next + m) (next + m - 1) (omega arith) (covered (next + m - 1) (omega arith) (omega arith)))
            (ap (is_boundary_at f (window_of bytes)) behind ∙ boundary_after_character f bytes (at + next) m (omega (arith, so_far.holds.after, within)) some (width_there f bytes (at + next) ∙ sym wide))
            changed

-- ---- at an event

not_false : (t : Bool) → not t ≡ false → t ≡ true
not_false true e = refl
not_false false e = absurd (true≢false e)

-- The test of a bit decides whether it is set.
pub bit_tested : (n i : ℕ) → (not (eqb (bit_and (n / 2 ^ i) 1) 0) ≡ true → bit_at n i ≡ 1) × (not (eqb (bit_and (n / 2 ^ i) 1) 0) ≡ false → bit_at n i ≡ 0)
bit_tested n i = grind (arith, shr_and_one, bit_at-lt, eqb-true, not_false)
