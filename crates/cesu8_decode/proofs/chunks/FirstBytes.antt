-- Some bytes show by their value alone that a character boundary is right before them: every byte
-- that cannot be the second or a later byte of an encoded character. `first_part` of
-- src/destinations/strings.rt splits its input before such a byte.
use Rattle.std.proofs.Common.{◌≡◌, ℕ, ◌+◌, ◌-◌, ◌<◌, ◌≤◌, ◌⊎◌, inl, inr, ⊎_elim, List, ap, ◌∙◌, subst, arith, length, take, drop, get_or}
use Rattle.std.proofs.lemmas.Bool.{cases_lt}
use Rattle.std.proofs.lemmas.List.{get_or-drop, take-append-drop, length-take-le}
use Rattle.cesu8_text.specs.Encoding.{Flavor}
use Rattle.cesu8_text.specs.Laws.{NoneCrosses}
use Rattle.cesu8_text.specs.Patterns.{IsContinuation}
use Rattle.cesu8_text.specs.Reading.{StandsAt, width}
use Rattle.cesu8_text.proofs.reading.Inside.{inner_at}

-- The byte can be a later byte of a character: a continuation byte, or ED (hexadecimal), which is
-- also the fourth byte of a surrogate pair.
abbrev pub MayBeLater : ℕ → Type 0
MayBeLater b = IsContinuation b ⊎ (b ≡ 0xED)

-- If a byte cannot be a later byte of a character, no character extends across the offset before
-- that byte.
pub none_crosses_before : (f : Flavor) (bytes : List ℕ) (n : ℕ) → n < length bytes → ¬ (MayBeLater (get_or bytes n 0)) →
    NoneCrosses f (take n bytes) (drop n bytes)
none_crosses_before f bytes n inside other i c stands begins =
    let long = length-take-le n bytes (omega (arith, inside)) in
    let there : StandsAt f bytes i c = subst (λ bs. StandsAt f bs i c) (take-append-drop n bytes) stands in
    ⊎_elim (λ (past : n - i < width f c).
    let place : i + (n - i) ≡ n = omega (arith, begins, long) in
    let here = get_or-drop i bytes (n - i) 0 ∙ ap (λ p. get_or bytes p 0) place in
    let inner = inner_at f (drop i bytes) c (n - i) there.0 there.1 (omega (arith, begins, long)) past in
    absurd (other (subst MayBeLater here (⊎_elim inl (λ low. inr low.0) inner))))
    (λ (ends : width f c ≤ n - i). omega (arith, ends, begins, long)) (cases_lt (n - i) (width f c))
