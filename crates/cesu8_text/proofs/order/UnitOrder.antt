-- If a format writes a text character by character and keeps the order of characters, what it
-- writes for texts compares as their code units do. CESU-8 is such a format, and MUTF-8 is one for
-- texts without U+0000.
use Rattle.std.proofs.Common.{◌≡◌, ◌≢◌, ℕ, ◌<◌, ◌≤◌, ◌⊎◌, List, [], ◌∷◌, ◌++◌, ap, inl, arith}
use Rattle.std.specs.List.{All, flat_map}
use Rattle.std.proofs.lemmas.List.Elements.{All-head, All-tail}
use Rattle.std.proofs.lemmas.Bool.{cases_eq}
use Rattle.std.proofs.lemmas.Bool.Decides.{nat_tests}
use Rattle.cesu8_text.specs.Text.{IsScalarValue, IsText}
use Rattle.cesu8_text.specs.Utf16.{units_of, units}
use Rattle.cesu8_text.specs.Encoding.{Flavor, Cesu8, Mutf8, form, encoding}
use Rattle.cesu8_text.specs.Order.{IsBelow, ComparesAs}
use Rattle.cesu8_text.specs.Laws.{OrderInCesu8, KeyOrder, OrderInMutf8, NullOutOfOrder, ScalarsOutOfOrder}
use Rattle.cesu8_text.proofs.encoding.Encodings.{encoding_nil, encoding_cons}
use Rattle.cesu8_text.proofs.reading.EncodedTexts.{encoding_injective}
use Rattle.cesu8_text.proofs.order.Below.{below_after, compares_as, same_answer}

-- The code units of c are below those of d: a surrogate pair is below E000 to FFFF.
abbrev pub Precedes : ℕ → ℕ → Type 0
Precedes c d = ((c < d) × ((c < 0xE000) ⊎ ((d < 0x10000) ⊎ (0x10000 ≤ c)))) ⊎ ((0x10000 ≤ c) × (0xE000 ≤ d) × (d < 0x10000))

-- Of two different characters, the one with the lower code units precedes the other.
precedes : (c d : ℕ) (us vs : List ℕ) → IsScalarValue c → IsScalarValue d → c ≢ d →
    IsBelow (units_of c ++ us) (units_of d ++ vs) → Precedes c d
unfolding units_of
precedes c d us vs scalar other_scalar differ below = grind (arith, nat_tests)

-- Each character has a code unit.
not_below_nothing : (c : ℕ) (us : List ℕ) → IsBelow (units_of c ++ us) [] → ⊥
unfolding units_of
not_below_nothing c us below = grind (arith, nat_tests)

-- What follows a common prefix is below if the whole is.
below_after_prefix : (front us vs : List ℕ) → IsBelow (front ++ us) (front ++ vs) → IsBelow us vs
below_after_prefix [] us vs below = below
below_after_prefix (u ∷ front) us vs below = grind (arith, below_after_prefix front us vs)

-- Texts with equal code units are equal.
same_units : (s t : List ℕ) → IsText s → IsText t → units s ≡ units t → s ≡ t
unfolding encoding
same_units s t is_text other_is_text same =
    encoding_injective Cesu8 s t is_text other_is_text (ap (flat_map (form Cesu8)) same)

-- Text is written character by character, and a character that precedes another in UTF-16 is
-- written as smaller bytes, whatever follows. `Fits` is a condition on characters that this needs.
pub record KeepsOrder (Fits : ℕ → Type 0) (write : List ℕ → List ℕ) : Type 0 where
  pub nil : write [] ≡ []
  pub cons : (c : ℕ) (text : List ℕ) → write (c ∷ text) ≡ write (c ∷ []) ++ write text
  pub some : (d : ℕ) (ys : List ℕ) → IsBelow [] (write (d ∷ []) ++ ys)
  pub less : (c d : ℕ) (xs ys : List ℕ) → IsScalarValue c → IsScalarValue d → Fits c → Precedes c d →
      IsBelow (write (c ∷ []) ++ xs) (write (d ∷ []) ++ ys)

module _ (Fits : ℕ → Type 0) (write : List ℕ → List ℕ) (keeps : KeepsOrder Fits write) where
  -- If the code units of a text are below those of another, what is written is below too.
  written_below : (s t : List ℕ) → IsText s → IsText t → All Fits s → IsBelow (units s) (units t) → IsBelow (write s) (write t)
  written_below [] [] is_text other_is_text fits below = absurd below
  written_below [] (d ∷ t) is_text other_is_text fits below = rw (keeps.nil, keeps.cons d t) (keeps.some d (write t))
  written_below (c ∷ s) [] is_text other_is_text fits below = absurd (not_below_nothing c (units s) below)
  written_below (c ∷ s) (d ∷ t) is_text other_is_text fits below =
      grind (
        arith,
        cases_eq c d,
        keeps.cons c s,
        keeps.cons d t,
        precedes c d (units s) (units t),
        keeps.less c d (write s) (write t) is_text.0 other_is_text.0 (All-head Fits c s fits),
        below_after_prefix (units_of c) (units s) (units t),
        below_after (write (c ∷ [])) (write s) (write t),
        written_below s t is_text.1 other_is_text.1 (All-tail Fits c s fits),
      )

  -- What is written compares as the code units do.
  pub compares_by_units : (s t : List ℕ) → IsText s → IsText t → All Fits s → All Fits t →
      ComparesAs (write s) (write t) (units s) (units t)
  compares_by_units s t is_text other_is_text fits other_fits =
      compares_as (write s) (write t) (units s) (units t) (written_below s t is_text other_is_text fits)
      (λ same. ap write (same_units s t is_text other_is_text same)) (written_below t s other_is_text is_text other_fits)

-- Both encodings keep the order, if in MUTF-8 no character is U+0000.
encodings_keep_order : (f : Flavor) → KeepsOrder (λ c. f ≡ Mutf8 → c ≢ 0) (encoding f)
unfolding encoding form units_of
encodings_keep_order f = record {
  nil = encoding_nil f;
  cons = encoding_cons f;
  some = λ d ys. grind (arith, nat_tests);
  less = λ c d xs ys scalar other_scalar fits first. grind (arith, nat_tests);
}

-- In CESU-8, the encodings of all texts compare as their code units.
pub order_in_cesu8 : OrderInCesu8
order_in_cesu8 s t is_text other_is_text =
    compares_by_units _ (encoding Cesu8) (encodings_keep_order Cesu8) s t is_text other_is_text
    (λ _ _ _ mutf8. absurd (cc)) (λ _ _ _ mutf8. absurd (cc))

-- In MUTF-8, the encodings of texts without U+0000 compare as their code units.
pub order_in_mutf8 : OrderInMutf8
order_in_mutf8 s t is_text other_is_text no_null other_no_null =
    compares_by_units _ (encoding Mutf8) (encodings_keep_order Mutf8) s t is_text other_is_text
    (λ k c inside _. no_null k c inside) (λ k c inside _. other_no_null k c inside)

-- std's `cmp` of CESU-8 encodings is the order of the code units.
pub key_order : KeyOrder
key_order s t is_text other_is_text =
    same_answer (encoding Cesu8 s) (encoding Cesu8 t) (units s) (units t) (order_in_cesu8 s t is_text other_is_text)

-- The counterexample in MUTF-8: C0 80 is above 41.
pub null_out_of_order : NullOutOfOrder
unfolding units_of form encoding
null_out_of_order = (inl (omega arith), inl (omega arith))

-- The counterexample for scalar values: ED A0 80 ED B0 80 is below EF BF BF.
pub scalars_out_of_order : ScalarsOutOfOrder
unfolding units_of form encoding
scalars_out_of_order = (inl (omega arith), λ f. inl (omega arith))
