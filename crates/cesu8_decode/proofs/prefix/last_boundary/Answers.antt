-- In a set without surrogate pairs a character that is cut off begins in the last two bytes. If
-- there is one, the prefix ends before it (`cut_at`), and otherwise at `at` (`none_cut`).
use Rattle.std.proofs.Common.{◌≡◌, ℕ, ◌+◌, ◌-◌, ◌<◌, ◌≤◌, eqb, ⊎_elim, List, true, false, ◌∙◌, sym, ap, get_or, arith, refl}
use Rattle.std.proofs.lemmas.Bool.{agree_below_at, cases_eq, cases_lt, eqb-true, lt-leb}
use Rattle.cesu8_text.specs.Encoding.{Flavor}
use Rattle.cesu8_decode.specs.Following.{CharacterSet, FollowUpTo, has_changed, after_fillers, crosses_at}
use Rattle.cesu8_decode.specs.Prefixes.{IsLongestPrefix}
use Rattle.cesu8_decode.proofs.chunks.LongestPrefixes.{crosses_next, crosses_second, cut_at, prefix_at}
use Rattle.cesu8_decode.proofs.decoder.ErrorMasks.{after_the_fillers}
use Rattle.cesu8_decode.proofs.prefix.last_boundary.Goals as goal

-- The first four bytes of `after_fillers` are zeros.
filler : (bytes : List ℕ) (i : ℕ) → i < 4 → get_or (after_fillers bytes) i 0 ≡ 0
filler bytes i near = eqb-true _ _ (agree_below_at (λ i. eqb (get_or (after_fillers bytes) i 0) 0) (λ _. true) 4 i refl near)

-- After the four zeros are the bytes.
there : (bytes : List ℕ) (i j : ℕ) → i + 4 ≡ j → get_or (after_fillers bytes) j 0 ≡ get_or bytes i 0
there bytes i j here = ap (λ k. get_or (after_fillers bytes) k 0) (sym here) ∙ after_the_fillers bytes i

-- If neither of the last two bytes leads a character that is cut off, the prefix ends here.
none_cut : (s : CharacterSet) (f : Flavor) (bytes : List ℕ) (at : ℕ) → FollowUpTo s f bytes at → has_changed s ≡ false →
    get_or (after_fillers bytes) (at + 3) 0 < 0xC0 → get_or (after_fillers bytes) (at + 2) 0 < 0xE0 → IsLongestPrefix s f bytes at
none_cut s f bytes at up_to none last second =
    prefix_at s f bytes at at up_to (omega arith) (rw (lt-leb 0xC0 _ last, lt-leb 0xE0 _ second, none) refl) (λ k past inside. absurd (omega (arith, past, inside)))

-- No byte precedes `at`, so no character is cut off.
pub returns-then-at-eq0 : goal.returns-then-at-eq0
returns-then-at-eq0 g c =
    let s = g.S.CharacterSet.set in
    let bytes = c.args.bytes.now in
    let at = c.args.at in
    let zero = c.if-at-eq0.true in
    none_cut s g.F.Flavor.flavor bytes at c.requires (sym (ap (λ rule. rule.has_changed) c.rule.ensures) ∙ c.if-rule.false)
    (omega (arith, filler bytes (at + 3) (omega (arith, zero)))) (omega (arith, filler bytes (at + 2) (omega (arith, zero))))

-- The last byte is a lead byte (C0 or more), whose character is cut off after one byte.
pub returns-then-last-ge192 : goal.returns-then-last-ge192
returns-then-last-ge192 g c =
    let s = g.S.CharacterSet.set in
    let bytes = c.args.bytes.now in
    let at = c.args.at in
    let n = at - 1 in
    let high : 0xC0 ≤ get_or (after_fillers bytes) (n + 4) 0 = omega (arith, after_the_fillers bytes n, c.if-last-ge192.true) in
    cut_at s g.F.Flavor.flavor bytes at n (sym (ap (λ rule. rule.has_changed) c.rule.ensures) ∙ c.if-rule.false) c.requires (omega (arith, c.if-at-eq0.false)) high
    (λ k past inside. let here : k ≡ n + 1 = omega (arith, past, inside, c.if-at-eq0.false) in ap (crosses_at s (after_fillers bytes)) here ∙ crosses_next s bytes n high)

-- The second last byte leads a character of three bytes (E0 or more), which is cut off after two.
-- If only one byte precedes `at`, both tests load it, and the first one would have succeeded.
pub returns-then-second-ge224 : goal.returns-then-second-ge224
returns-then-second-ge224 g c =
    let s = g.S.CharacterSet.set in
    let bytes = c.args.bytes.now in
    let crosses = crosses_at s (after_fillers bytes) in
    let at = c.args.at in
    let n = at - 2 in
    let some : 2 ≤ at =
    ⊎_elim (λ (few : at < 2).
    let again : c.max.result - 2 ≡ at - 1 = omega (arith, few, c.max.ensures, c.if-at-eq0.false) in
    absurd (omega (arith, ap (λ i. get_or bytes i 0) again, c.if-last-ge192.false, c.if-second-ge224.true))) (λ more. more) (cases_lt at 2) in
    let here : c.max.result - 2 ≡ n = omega (arith, some, c.max.ensures) in
    let high : 0xE0 ≤ get_or (after_fillers bytes) (n + 4) 0 = omega (arith, after_the_fillers bytes n, ap (λ i. get_or bytes i 0) here, c.if-second-ge224.true) in
    cut_at s g.F.Flavor.flavor bytes at n (sym (ap (λ rule. rule.has_changed) c.rule.ensures) ∙ c.if-rule.false) c.requires (omega (arith, some)) (omega (arith, high))
    (λ k past inside. ⊎_elim (λ (here : k ≡ n + 1). ap crosses here ∙ crosses_next s bytes n (omega (arith, high)))
    (λ other. let here : k ≡ n + 2 = omega (arith, other, past, inside, some) in ap crosses here ∙ crosses_second s bytes n high) (cases_eq k (n + 1)))

-- Neither byte leads a character that is cut off.
pub returns-else-second-ge224 : goal.returns-else-second-ge224
returns-else-second-ge224 g c =
    let bytes = c.args.bytes.now in
    let at = c.args.at in
    let second : get_or (after_fillers bytes) (at + 2) 0 < 0xE0 =
    ⊎_elim (λ (few : at < 2). omega (arith, filler bytes (at + 2) (omega (arith, few))))
    (λ (more : 2 ≤ at). omega (arith, there bytes (c.max.result - 2) (at + 2) (omega (arith, more, c.max.ensures)), c.if-second-ge224.false)) (cases_lt at 2) in
    none_cut g.S.CharacterSet.set g.F.Flavor.flavor bytes at c.requires (sym (ap (λ rule. rule.has_changed) c.rule.ensures) ∙ c.if-rule.false)
    (omega (arith, there bytes (at - 1) (at + 3) (omega (arith, c.if-at-eq0.false)), c.if-last-ge192.false)) second
