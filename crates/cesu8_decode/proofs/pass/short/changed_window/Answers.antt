-- The characters that need conversion and begin with C0 are C0 80. The others are surrogate pairs,
-- and no byte is ill-formed. So their masks are those of the window. The bytes are the first `len`
-- of `source`, which has zeros after them. Its first `width` bytes are tested as one vector.
use Rattle.std.proofs.Common.{◌≡◌, ℕ, ◌+◌, ◌^◌, ◌<◌, ◌≤◌, ◌&&◌, Bool, true, false, true≢false, List, map, ltb, eqb, length, take, bit_and, get_or, refl, ap, sym, ◌∙◌, subst, arith, w64, zero-add}
use Rattle.std.specs.Int.{bit_not}
use Rattle.std.proofs.lemmas.List.{length-take-le}
use Rattle.std.proofs.lemmas.Nat.{and_le_l}
use Rattle.std.proofs.lemmas.Simd.{get_or-chunk}
use lib.Lanes.{mask_l, chunk}
use Rattle.cesu8_text.specs.Encoding.{Flavor, Mutf8}
use Rattle.cesu8_decode.specs.Masks.{HasBits, IsWindow, is_null_at}
use Rattle.cesu8_decode.specs.Prefixes.{AreChanges}
use Rattle.cesu8_decode.proofs.decoder.PaddedWindows.{alike_without_zeros, window_of_alike, nulls_of_changed, no_nulls_of_changed, changed_is_window}
use Rattle.cesu8_decode.proofs.decoder.MaskBits.{class_bits}
use Rattle.cesu8_decode.proofs.pass.short.changed_window.Goals as goal

module _ (f : Flavor) (source : List ℕ) (width len changed nulls : ℕ) (narrow : width ≤ 64) (long : width ≤ length source) (few : len ≤ width) (zeros : (i : ℕ) → len ≤ i → get_or source i 0 ≡ 0)
    (changes : AreChanges f (take len source) changed) (fits : changed < 2 ^ 64) where
  abbrev bytes : List ℕ
  bytes = take len source

  abbrev c0 : ℕ
  c0 = mask_l (map (λ b. eqb b 0xC0) (chunk 0 width source))

  size : length bytes ≡ len
  size = length-take-le len source (omega (arith, long, few))

  alike : (k : ℕ) → get_or bytes k 0 ≡ get_or source k 0
  alike = alike_without_zeros source len (omega (arith, long, few)) zeros

  -- The mask of C0 80 in MUTF-8, and in CESU-8.
  nulls_are : (has_null : Bool) → (f ≡ Mutf8 → has_null ≡ true) → (has_null ≡ true → nulls ≡ bit_and changed c0) → (has_null ≡ false → nulls ≡ 0) →
      HasBits nulls (λ i. ltb i (length bytes) && is_null_at f bytes (0 + i)) × (nulls < 2 ^ 64)
  nulls_are true mutf8 some none = (
    subst (λ m. HasBits m (λ i. ltb i (length bytes) && is_null_at f bytes (0 + i))) (sym (some refl))
        (nulls_of_changed f bytes changed changes (chunk 0 width source) c0
        (λ i inside. get_or-chunk 0 width source i 0 (omega (arith, inside, size, few)) ∙ ap (λ k. get_or source k 0) (zero-add i) ∙ sym (alike i))
        (class_bits (λ b. eqb b 0xC0) (chunk 0 width source) refl refl)),
    omega (arith, some refl, and_le_l changed c0, fits),
  )
  nulls_are false mutf8 some none = (
    subst (λ m. HasBits m (λ i. ltb i (length bytes) && is_null_at f bytes (0 + i))) (sym (none refl))
        (no_nulls_of_changed f bytes changed changes (λ (is : f ≡ Mutf8). true≢false (sym (mutf8 is)))),
    omega (arith, none refl),
  )

  window_is : HasBits nulls (λ i. ltb i (length bytes) && is_null_at f bytes (0 + i)) × (nulls < 2 ^ 64) →
      IsWindow f source 0 (record { ill_formed = 0; pairs = bit_and changed (bit_not w64 nulls); nulls = nulls; len = len })
  window_is are =
      window_of_alike f bytes source 0 _ alike
      (subst (λ n. IsWindow f bytes 0 (record { ill_formed = 0; pairs = bit_and changed (bit_not w64 nulls); nulls = nulls; len = n })) size
      (changed_is_window f bytes changed changes nulls (omega (arith, size, few, narrow)) fits are.1 are.0))

pub returns-clause-window : goal.returns-clause-window
returns-clause-window g c =
    let f = g.F.Flavor.flavor in
    let source = c.args.source.now in
    let changed = c.args.changed in
    let fits : changed < 2 ^ 64 = omega (arith, c.ranges.changed.fits) in
    window_is f source g.row.WIDTH c.args.len changed _ c.requires.source.0 c.requires.source.1 c.requires.len c.requires.zeros c.requires.changed fits
    (nulls_are f source g.row.WIDTH c.args.len changed _ c.requires.source.0 c.requires.source.1 c.requires.len c.requires.zeros c.requires.changed fits c.has_long_null.result
    c.has_long_null.ensures.1 (λ mutf8. grind arith steps 1000000) (λ other. grind arith steps 1000000))
