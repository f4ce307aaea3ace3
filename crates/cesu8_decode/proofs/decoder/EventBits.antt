-- The bits of a window's events, which the loop of `write_in_turn` visits from the lowest on. It
-- clears each by `events & (events - 1)`.
use Rattle.std.proofs.Common.{◌≡◌, ◌≢◌, ℕ, zero, suc, ◌+◌, ◌-◌, ◌*◌, ◌/◌, ◌%◌, ◌^◌, ◌<◌, ◌≤◌, ◌⊎◌, ⊎_elim, sym, ap, ◌∙◌, arith, min, max}
use Rattle.std.specs.Int.{bit_at, bit_not, w64}
use Rattle.std.specs.Int.Bits.{bit_and, bit_or}
use Rattle.std.proofs.lemmas.Bool.{cases_lt, cases_eq}
use Rattle.std.proofs.lemmas.Nat.{div-add-mod', mod-pow-add, pow_pos, pow_below}
use Rattle.std.proofs.lemmas.Nat.Bits.{bit_at-lt, bit_at_lowest, bit_at-suc, bit_at_above, bit_at_or, bit_at_not, bit_at_and, bit_at_ones_above, bit_at_cat_low, bit_at_cat_high}
use Rattle.cesu8_decode.proofs.decoder.MaskBits.{bit_kept}

-- ---- the lowest bit

-- A number whose k lowest bits are 0 is a multiple of 2 ^ k.
none_below : (n k : ℕ) → ((i : ℕ) → i < k → bit_at n i ≡ 0) → n % 2 ^ k ≡ 0
none_below n zero none = omega arith
none_below n (suc k) none =
    let more : 1 + k ≡ suc k = omega arith in
    ap (λ j. n % 2 ^ j) (sym more) ∙ mod-pow-add n 1 k
    ∙ ap (λ b. b * 2 ^ k + n % 2 ^ k) (none k (omega arith)) ∙ omega (arith, none_below n k (λ i small. none i (omega arith)))

-- Bit k is the lowest bit that is set.
pub record IsLowest (n k : ℕ) : Type 0 where
  pub set : bit_at n k ≡ 1
  pub below : (i : ℕ) → i < k → bit_at n i ≡ 0

module _ (n k : ℕ) (lowest : IsLowest n k) where
  -- The bits of n above bit k. Those of n - 1 are the same (`shape`, `less`).
  above : ℕ
  above = n / 2 ^ (1 + k)

  shape : n ≡ above * 2 ^ (1 + k) + 2 ^ k
  unfolding above
  shape =
      let rest : n % 2 ^ (1 + k) ≡ 2 ^ k =
      mod-pow-add n 1 k ∙ ap (λ b. b * 2 ^ k + n % 2 ^ k) lowest.set ∙ omega (arith, none_below n k lowest.below) in
      sym (div-add-mod' n (2 ^ (1 + k))) ∙ ap (λ r. n / 2 ^ (1 + k) * 2 ^ (1 + k) + r) rest

  less : n - 1 ≡ above * 2 ^ (1 + k) + (2 ^ k - 1)
  less = omega (arith, shape, pow_pos k)

  -- n & (n - 1) clears bit k.
  cleared : bit_at (bit_and n (n - 1)) k ≡ 0
  cleared = grind (arith, less, bit_at_cat_low, bit_at_ones_above, bit_at_and)

  -- n & (n - 1) leaves the other bits unchanged.
  others_unchanged : (i : ℕ) → i ≢ k → bit_at (bit_and n (n - 1)) i ≡ bit_at n i
  others_unchanged i other =
      ⊎_elim (λ (low : i < k). bit_at_and n (n - 1) i ∙ omega (arith, lowest.below i low))
      (λ (high : k ≤ i).
      let longer = pow_below k (1 + k) (omega arith) in
      let here = ap (λ m. bit_at m i) shape ∙ bit_at_cat_high above (1 + k) (2 ^ k) i longer (omega arith) in
      let there = ap (λ m. bit_at m i) less ∙ bit_at_cat_high above (1 + k) (2 ^ k - 1) i (omega (arith, longer)) (omega arith) in
      bit_at_and n (n - 1) i ∙ omega (arith, here, there))
      (cases_lt i k)

-- ---- the events of a window

-- A bit that is not 1 is 0.
pub unset : (n i : ℕ) → (bit_at n i ≡ 1 → ⊥) → bit_at n i ≡ 0
unset n i none = grind (arith, bit_at-lt)

-- The bits of a word that is shifted left by one.
module _ (n : ℕ) where
  pub shifted_first : bit_at (n * 2 % 2 ^ 64) 0 ≡ 0
  shifted_first = bit_kept (n * 2) 0 (omega arith) ∙ bit_at_lowest (n * 2) ∙ omega arith

  pub shifted_next : (i j : ℕ) → i < 64 → i ≡ j + 1 → bit_at (n * 2 % 2 ^ 64) i ≡ bit_at n j
  shifted_next i j small there =
      let next : i ≡ suc j = omega arith in
      let half : n * 2 / 2 ≡ n = omega arith in
      bit_kept (n * 2) i small ∙ ap (bit_at (n * 2)) next ∙ bit_at-suc (n * 2) j ∙ ap (λ m. bit_at m j) half

-- The mask of all events. `changing` marks the surrogate pairs and C0 80, and `ill` the ill-formed
-- bytes. Each event has one bit: one of `changing`, or the first of a run of `ill`.
abbrev pub all_events : (changing ill : ℕ) → ℕ
all_events changing ill = bit_or changing (bit_and ill (bit_not w64 (ill * 2 % 2 ^ 64)))

module _ (changing ill : ℕ) (fits : ill < 2 ^ 64) where
  event_bit : (i : ℕ) → bit_at (all_events changing ill) i ≡ max (bit_at changing i) (min (bit_at ill i) (1 - bit_at (ill * 2 % 2 ^ 64) i))
  event_bit i =
      let small : ill * 2 % 2 ^ 64 < 2 ^ 64 = omega arith in
      bit_at_or changing (bit_and ill (bit_not w64 (ill * 2 % 2 ^ 64))) i ∙ ap (max (bit_at changing i)) (bit_at_and ill (bit_not w64 (ill * 2 % 2 ^ 64)) i)
      ∙ ⊎_elim (λ (inside : i < 64). ap (λ k. max (bit_at changing i) (min (bit_at ill i) k)) (bit_at_not w64 (ill * 2 % 2 ^ 64) i small inside))
      (λ (past : 64 ≤ i). omega (arith, bit_at_above ill 64 i fits past))
      (cases_lt i 64)

  ill_inside : (i : ℕ) → bit_at ill i ≡ 1 → i < 64
  ill_inside i set =
      ⊎_elim (λ (inside : i < 64). inside) (λ (past : 64 ≤ i). absurd (omega (arith, set, bit_at_above ill 64 i fits past))) (cases_lt i 64)

  -- An event has a bit in one of the masks.
  pub event_set : (i : ℕ) → bit_at (all_events changing ill) i ≡ 1 → (bit_at changing i ≡ 1) ⊎ (bit_at ill i ≡ 1)
  event_set i set = grind (arith, event_bit, bit_at-lt)

  -- Without an event no bit of `changing` is set.
  pub none_changing : (i : ℕ) → bit_at (all_events changing ill) i ≡ 0 → bit_at changing i ≡ 0
  none_changing i none = omega (arith, none, event_bit i)

  -- An event is at an ill-formed byte that is the first byte, or that follows a byte that is not
  -- ill-formed.
  pub first_begins : bit_at ill 0 ≡ 1 → bit_at (all_events changing ill) 0 ≡ 1
  first_begins set = omega (arith, set, event_bit 0, shifted_first ill, bit_at-lt changing 0)

  pub run_begins : (i j : ℕ) → i ≡ j + 1 → bit_at ill j ≡ 0 → bit_at ill i ≡ 1 → bit_at (all_events changing ill) i ≡ 1
  run_begins i j there fine set = omega (arith, fine, set, event_bit i, shifted_next ill i j (ill_inside i set) there, bit_at-lt changing i)

  -- No event is at a byte that is not in `changing`, if it is not ill-formed or follows an
  -- ill-formed byte.
  pub none_there : (i j : ℕ) → i ≡ j + 1 → bit_at changing i ≡ 0 → (bit_at ill i ≡ 0) ⊎ (bit_at ill j ≡ 1) → bit_at (all_events changing ill) i ≡ 0
  none_there i j there none either =
      ⊎_elim (λ (fine : bit_at ill i ≡ 0). omega (arith, none, fine, event_bit i))
      (λ (run : bit_at ill j ≡ 1).
      ⊎_elim (λ (inside : i < 64). omega (arith, none, run, event_bit i, shifted_next ill i j inside there, bit_at-lt ill i))
      (λ (past : 64 ≤ i). omega (arith, none, event_bit i, bit_at_above ill 64 i fits past))
      (cases_lt i 64)) either

-- ---- the events that are left

-- The bits of the events from `read` on are left. If the byte at `read` is ill-formed, an event
-- begins there (`fresh`).
pub record AreLeft (changing ill read events : ℕ) : Type 0 where
  pub gone : (i : ℕ) → i < read → bit_at events i ≡ 0
  pub same : (i : ℕ) → read ≤ i → bit_at events i ≡ bit_at (all_events changing ill) i
  pub fresh : bit_at ill read ≡ 1 → bit_at (all_events changing ill) read ≡ 1

module _ (changing ill read events : ℕ) (fits : ill < 2 ^ 64) (are : AreLeft changing ill read events) where
  -- The bytes before the next event are in no event.
  pub none_before : (next i : ℕ) → ((j : ℕ) → j < next → bit_at events j ≡ 0) → read ≤ i → i < next → (bit_at changing i ≡ 0) × (bit_at ill i ≡ 0)
  none_before next i none low before = (none_changing changing ill fits i (none_at i low before), ap (bit_at ill) there ∙ none_after (i - read) (omega (arith, there)))
    where
      there : i ≡ read + (i - read)
      there = omega arith

      none_at : (i : ℕ) → read ≤ i → i < next → bit_at (all_events changing ill) i ≡ 0
      none_at i low before = sym (are.same i low) ∙ none i before

      none_after : (k : ℕ) → read + k < next → bit_at ill (read + k) ≡ 0
      none_after zero inside = unset ill (read + 0) (λ set.
          let here : read + 0 ≡ read = omega arith in
          omega (arith, are.fresh (ap (bit_at ill) (sym here) ∙ set), none_at read (omega arith) (omega arith)))
      none_after (suc k) inside = unset ill (read + suc k) (λ set. omega (arith, run_begins changing ill fits (read + suc k) (read + k) (omega arith) (none_after k (omega arith)) set, none_at (read + suc k) (omega arith) inside))

  -- After an event that ends at `after`, the later ones are left.
  pub after_event : (next after : ℕ) → IsLowest events next → read ≤ next → next < after → ((i : ℕ) → next < i → i < after → bit_at (all_events changing ill) i ≡ 0) →
      (bit_at ill after ≡ 1 → bit_at (all_events changing ill) after ≡ 1) → AreLeft changing ill after (bit_and events (events - 1))
  after_event next after lowest low further none begins = record {
    gone = λ i small. ⊎_elim (λ (here : i ≡ next). ap (bit_at (bit_and events (events - 1))) here ∙ cleared events next lowest)
        (λ (other : ¬ (i ≡ next)).
        others_unchanged events next lowest i other
        ∙ ⊎_elim (λ (before : i < next). lowest.below i before) (λ (inside : next ≤ i). are.same i (omega arith) ∙ none i (omega (arith, other)) small) (cases_lt i next))
        (cases_eq i next);
    same = λ i past. others_unchanged events next lowest i (λ here. omega arith) ∙ are.same i (omega arith);
    fresh = begins;
  }
