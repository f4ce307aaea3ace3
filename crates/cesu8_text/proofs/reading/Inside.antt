-- No encoded character begins inside another, because none begins with what can follow the first
-- byte of one: a continuation byte, or ED and the second byte of a low surrogate.
use Rattle.std.proofs.lemmas.Bool.Decides.{nat_tests}
use Rattle.std.proofs.lemmas.Grind.{common_steps}
use Rattle.std.proofs.Common.{◌≡◌, ℕ, suc, ◌<◌, ◌≤◌, ◌⊎◌, List, arith, drop, get_or}
use Rattle.cesu8_text.specs.Utf16.{units_of}
use Rattle.cesu8_text.specs.Encoding.{Flavor, form, encoding}
use Rattle.cesu8_text.specs.Reading.{BeginsWith, StandsAt, width}
use Rattle.cesu8_text.specs.Patterns.{IsContinuation}

-- A byte that follows the first of a character: a continuation byte, or the ED that begins a low
-- surrogate.
abbrev pub IsInner : List ℕ → ℕ → Type 0
IsInner bytes j = IsContinuation (get_or bytes j 0) ⊎ ((get_or bytes j 0 ≡ 0xED) × (0xB0 ≤ get_or bytes (suc j) 0))

-- No character begins with a byte of `IsInner`.
inner_begins_none : (f : Flavor) (bytes : List ℕ) (c : ℕ) (rest : List ℕ) → IsInner bytes 0 → BeginsWith f bytes c rest → ⊥
unfolding encoding form units_of
inner_begins_none f bytes c rest inner begins = grind (arith, nat_tests)

-- Each byte of a character after the first is one of `IsInner`.
pub inner_at : (f : Flavor) (bytes : List ℕ) (c j : ℕ) (rest : List ℕ) → BeginsWith f bytes c rest → 0 < j → j < width f c →
    IsInner bytes j
unfolding encoding form units_of
inner_at f bytes c j rest begins later inside = grind (arith, nat_tests)

-- If a character begins the bytes, none begins at a later offset of that character.
pub none_inside : (f : Flavor) (bytes : List ℕ) (c d j : ℕ) (rest : List ℕ) → BeginsWith f bytes c rest → StandsAt f bytes j d →
    0 < j → j < width f c → ⊥
none_inside f bytes c d j rest begins stands later inside =
    let inner = inner_at f bytes c j rest begins later inside in
    inner_begins_none f (drop j bytes) d stands.0 (grind (arith, common_steps, inner)) stands.1
