-- Windows whose bytes shuffles pack, some at a time (`write_nulls` and `write_replaced`, below
-- src/pass/events): what is stored for a range of offsets, and for the first offsets of a window.
use Rattle.std.proofs.Common.{◌≡◌, ℕ, zero, suc, ◌+◌, ◌-◌, ◌*◌, ◌/◌, ◌%◌, ◌^◌, ◌<◌, ◌≤◌, Bool, cond, eqb, List, [], ◌∷◌, ◌++◌, refl, sym, ap, ◌∙◌, subst, arith, length, take, get_or, append-nil, map, replicate, length-append, append_assoc, add-zero, zero-add, suc-add}
use Rattle.std.specs.Int.{bit_at}
use Rattle.std.specs.List.{flat_map, range_with_len}
use Rattle.std.specs.Simd.Lanes.{mask_l}
use Rattle.std.proofs.lemmas.Bool.Decides.{nat_tests}
use Rattle.std.proofs.lemmas.List.FromFn.{length-map-range_with_len, take-map-range_with_len}
use Rattle.std.proofs.lemmas.Nat.Bits.{bit_at-lt, bit_at_above}
use lib.Lanes.{sel_l, chunk}
use Rattle.std.proofs.Math.Seq.{take-append_seam}
use Rattle.cesu8_bytes.specs.Puts.{WritesAt}
use Rattle.cesu8_bytes.proofs.lists.Stored.{first_written, written_after}
use Rattle.cesu8_bytes.proofs.vectors.Loads.{loaded}
use Rattle.std.proofs.Math.Nat.{add-mod_right, div-le_self}
use Rattle.cesu8_text.specs.Encoding.{Flavor}
use Rattle.cesu8_decode.specs.Decoding.{WritesWindow}
use Rattle.cesu8_decode.specs.DecodedOffsets.{window_of, decoded}
use Rattle.cesu8_decode.specs.declared.lanes.windows.Window.{Window}
use Rattle.cesu8_decode.proofs.decoder.MaskBits.{rest_bit, marks_from}
use Rattle.cesu8_bytes.specs.Packing.{written_for, written}

-- ---- ranges

-- What m + n offsets give is what the first m give, and then the other n.
pub range_split : (h : ℕ → List ℕ) (i m n : ℕ) → flat_map h (range_with_len i (m + n)) ≡ flat_map h (range_with_len i m) ++ flat_map h (range_with_len (i + m) n)
range_split h i zero n = rw (add-zero i, zero-add n) refl
range_split h i (suc m) n =
    let offset : i + 1 + m ≡ i + suc m = omega arith in
    rw (suc-add m n, range_split h (i + 1) m n, offset) (sym (append_assoc (h i) _ _))

-- Two ranges give the same if their offsets do.
pub range_same : (g h : ℕ → List ℕ) (a b n : ℕ) → ((k : ℕ) → k < n → g (a + k) ≡ h (b + k)) → flat_map g (range_with_len a n) ≡ flat_map h (range_with_len b n)
range_same g h a b zero same = refl
range_same g h a b (suc n) same =
    let first = ap g (sym (add-zero a)) ∙ same 0 (omega arith) ∙ ap h (add-zero b) in
    let rest = range_same g h (a + 1) (b + 1) n (λ k small.
    let here : a + 1 + k ≡ a + (k + 1) = omega arith in
    let there : b + (k + 1) ≡ b + 1 + k = omega arith in
    ap g here ∙ same (k + 1) (omega arith) ∙ ap h there) in
    λ k. first k ++ rest k

-- If each offset gives one byte, n offsets give n bytes.
range_length : (h : ℕ → List ℕ) (a n : ℕ) → ((i : ℕ) → a ≤ i → i < a + n → length (h i) ≡ 1) → length (flat_map h (range_with_len a n)) ≡ n
range_length h a zero one = refl
range_length h a (suc n) one = grind (arith, nat_tests, length-append, range_length h (a + 1) n (λ i low inside. one i (omega arith) (omega arith)))

-- If no offset gives more than `most` bytes, n offsets give at most n times as many.
range_most : (h : ℕ → List ℕ) (most a n : ℕ) → ((i : ℕ) → length (h i) ≤ most) → length (flat_map h (range_with_len a n)) ≤ most * n
range_most h most a zero each = omega arith
range_most h most a (suc n) each = omega (arith, length-append (h a) (flat_map h (range_with_len (a + 1) n)), each a, range_most h most (a + 1) n each)

-- What is written for lanes, by their offsets: g says which are dropped and d which are ill-formed,
-- and b has their bytes.
pub written_on_range : (g d : ℕ → Bool) (b : ℕ → ℕ) (a n : ℕ) →
    written (map g (range_with_len a n)) (map d (range_with_len a n)) (map b (range_with_len a n)) ≡ flat_map (λ i. written_for (g i) (d i) (b i)) (range_with_len a n)
written_on_range g d b a zero = refl
written_on_range g d b a (suc n) = (λ k. written_for (g a) (d a) (b a) ++ written_on_range g d b (a + 1) n k)

-- ---- bits

-- A word is the mask of its bits.
bits_are : (word n : ℕ) → word < 2 ^ n → word ≡ mask_l (map (λ i. eqb (bit_at word i) 1) (range_with_len 0 n))
bits_are word n fits =
    marks_from (λ i. eqb (bit_at word i) 1) 0 n (record { bit = λ i. grind (arith, nat_tests, zero-add, bit_at-lt, bit_at_above word n i fits) })

-- A select writes zeros to the lanes that pass a test.
pub zeroed_of : (p : ℕ → Bool) (size : ℕ) (xs : List ℕ) → length xs ≡ size → sel_l (map p xs) (replicate size 0) xs ≡ map (λ x. cond (p x) 0 x) xs
zeroed_of p size [] long = refl
zeroed_of p zero (x ∷ xs) long = absurd (omega arith)
zeroed_of p (suc size) (x ∷ xs) long = ap (λ l. cond (p x) 0 x ∷ l) (zeroed_of p size xs (omega arith))

-- ---- windows that are packed

-- A loop stores `packed i` for each offset i of 64. For those of the window this is what decoding
-- writes, and for each offset after it one byte.
pub record Packs (f : Flavor) (bytes : List ℕ) (at : ℕ) (window : Window) (packed : ℕ → List ℕ) (bound : ℕ) : Type 0 where
  pub text : flat_map packed (range_with_len 0 window.len) ≡ decoded f (window_of bytes) at window.len
  pub after : (i : ℕ) → window.len ≤ i → i < 64 → length (packed i) ≡ 1
  pub most : (i : ℕ) → length (packed i) ≤ bound

-- The first n offsets are stored, `size` at a time. For each at most `bound` bytes are stored.
pub record AreStored (f : Flavor) (bytes : List ℕ) (at : ℕ) (window : Window) (packed : ℕ → List ℕ) (bound size n start : ℕ) (old new : List ℕ) (end : ℕ) : Type 0 where
  pub packs : Packs f bytes at window packed bound
  pub whole : n % size ≡ 0
  pub within : n ≤ 64
  pub text : WritesAt (flat_map packed (range_with_len 0 n)) start old new end

module _ {f : Flavor} {bytes : List ℕ} {at : ℕ} {window : Window} {packed : ℕ → List ℕ} {bound : ℕ} where
  pub none_stored : (size start : ℕ) (old : List ℕ) → Packs f bytes at window packed bound → 0 % size ≡ 0 → AreStored f bytes at window packed bound size 0 start old old start
  none_stored size start old packs whole = record {
    packs = packs;
    whole = whole;
    within = omega arith;
    text = record { bytes = sym (append-nil (take start old)); end = omega arith; len = refl };
  }

  module _ {size n start end : ℕ} {old new : List ℕ} (stored : AreStored f bytes at window packed bound size n start old new end) where
    -- At most `bound` bytes are stored for each offset.
    pub stored_most : end ≤ start + bound * n
    stored_most = omega (arith, stored.text.end, range_most packed bound 0 n stored.packs.most)

    module _ (covered : window.len ≤ n) where
      first : List ℕ
      first = flat_map packed (range_with_len 0 window.len)

      others : List ℕ
      others = flat_map packed (range_with_len (0 + window.len) (n - window.len))

      split : flat_map packed (range_with_len 0 n) ≡ first ++ others
      unfolding first others
      split =
          let all : window.len + (n - window.len) ≡ n = omega arith in
          ap (λ k. flat_map packed (range_with_len 0 k)) (sym all) ∙ range_split packed 0 window.len (n - window.len)

      lengths : start + length first + (n - window.len) ≡ end
      unfolding others
      lengths =
          let few = range_length packed (0 + window.len) (n - window.len) (λ i low inside. stored.packs.after i (omega arith) (omega (arith, stored.within))) in
          omega (arith, stored.text.end, ap length split, length-append first others, few)

      -- At least as many bytes are stored as there are offsets after the window.
      pub stored_after : n - window.len ≤ end
      stored_after = omega (arith, lengths)

      -- What is stored, without the bytes after the window, is what decoding writes for the window.
      pub stored_text : start ≤ length old → WritesWindow f bytes at window start old new (end - (n - window.len))
      unfolding first
      stored_text room =
          let cut = first_written (length first) start end (first ++ others) old new (omega (arith, length-append first others)) room (subst (λ bs. WritesAt bs start old new end) split stored.text) in
          let is_end : start + length first ≡ end - (n - window.len) = omega (arith, lengths) in
          subst (λ bs. WritesAt bs start old new (end - (n - window.len))) (take-append_seam first others ∙ stored.packs.text)
          (subst (λ k. WritesAt (take (length first) (first ++ others)) start old new k) is_end cut)

-- Lanes are packed by the bits of a word: `pack` says what is stored for one lane, and `all` what
-- is stored for `size` lanes at a time.
module _ (f : Flavor) (bytes : List ℕ) (at : ℕ) (window : Window) (pack : Bool → ℕ → List ℕ) (word : ℕ) (fits : word < 2 ^ 64) (bound size : ℕ) (all : List Bool → List ℕ → List ℕ)
    (each : (t : ℕ → Bool) (z : ℕ → ℕ) → all (map t (range_with_len 0 size)) (map z (range_with_len 0 size)) ≡ flat_map (λ i. pack (t i) (z i)) (range_with_len 0 size)) where
  abbrev packs : ℕ → List ℕ
  packs i = pack (eqb (bit_at word i) 1) (get_or bytes (at + i) 0)

  -- The lanes from an offset on are stored after those before them: from `middle` to `last`.
  pub next_stored : (n start middle last : ℕ) (old mid new : List ℕ) → n + size ≤ 64 → at + n + size ≤ length bytes → AreStored f bytes at window packs bound size n start old mid middle →
      ((tests : List Bool) → size ≤ length tests → word / 2 ^ n ≡ mask_l tests → WritesAt (all (take size tests) (chunk (at + n) size bytes)) middle mid new last) →
      AreStored f bytes at window packs bound size (n + size) start old new last
  next_stored n start middle last old mid new few room before stored =
      let rest = word / 2 ^ n in
      let t : ℕ → Bool = λ i. eqb (bit_at rest i) 1 in
      let z : ℕ → ℕ = λ i. get_or bytes (i + (at + n)) 0 in
      let below : rest < 2 ^ 64 = omega (arith, div-le_self word (2 ^ n)) in
      let store = stored (map t (range_with_len 0 64)) (omega (arith, length-map-range_with_len t 0 64)) (bits_are rest 64 below) in
      let tests = take-map-range_with_len t 0 64 size (omega arith) in
      let lanes : chunk (at + n) size bytes ≡ map z (range_with_len 0 size) =
      ap (λ p. chunk p size bytes) (sym (zero-add (at + n))) ∙ loaded bytes 0 (at + n) size (omega (arith, room)) in
      let are : all (take size (map t (range_with_len 0 64))) (chunk (at + n) size bytes) ≡ flat_map packs (range_with_len (0 + n) size) =
      (λ j. all (tests j) (lanes j)) ∙ each t z
      ∙ range_same (λ i. pack (t i) (z i)) packs 0 (0 + n) size (λ j inside.
      let here : 0 + j ≡ j = zero-add j in
      let there : n + j ≡ 0 + n + j = omega arith in
      let offset : 0 + j + (at + n) ≡ at + (0 + n + j) = omega arith in
      let bit = ap (bit_at rest) here ∙ rest_bit word n fits j ∙ ap (bit_at word) there in
      (λ q. pack (eqb (bit q) 1) (get_or bytes (offset q) 0))) in
      record {
        packs = before.packs;
        whole = add-mod_right n size ∙ before.whole;
        within = few;
        text = subst (λ bs. WritesAt bs start old new last) (sym (range_split packs 0 n size))
            (written_after (flat_map packs (range_with_len 0 n)) (flat_map packs (range_with_len (0 + n) size)) old mid new start middle last before.text
            (subst (λ bs. WritesAt bs middle mid new last) are store));
      }
