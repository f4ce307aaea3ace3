-- `crosses_at` tests the four bytes that the function loads. The set without characters that need
-- conversion has no surrogate pairs, so the last two bytes decide alone.
use Rattle.std.proofs.Common.{◌≡◌, ◌+◌, ◌∙◌, true, false, leb, get_or, refl, sym, ap, add-zero, arith, true≢false}
use Rattle.std.proofs.lemmas.Bool.{lt-leb, not-true, not-false}
use Rattle.cesu8_decode.specs.Following.{CharacterSet, Encoded, Unchanged, has_changed, is_high_surrogate, after_fillers}
use Rattle.cesu8_decode.proofs.prefix.may_be_crossed.Goals as goal

-- The set with characters that need conversion is `Encoded`.
encoded_if : (s : CharacterSet) → has_changed s ≡ true → s ≡ Encoded
encoded_if Encoded meant = refl
encoded_if Unchanged meant = absurd (true≢false (sym meant))

pub returns-then-not-rule : goal.returns-then-not-rule
returns-then-not-rule g c =
    let window = after_fillers c.args.bytes.now in
    let at = c.args.at in
    let last : leb 0xC0 (get_or window (at + 3) 0) ≡ false = lt-leb 0xC0 _ (omega (arith, c.if-last-ge192.false, c.byte_before-last.ensures)) in
    let second_last : leb 0xE0 (get_or window (at + 2) 0) ≡ false = lt-leb 0xE0 _ (omega (arith, c.if-second_last-ge224.false, c.byte_before-second_last.ensures)) in
    let unmeant : has_changed g.S.CharacterSet.set ≡ false = ap (λ r. r.has_changed) (sym c.rule.ensures) ∙ not-true _ c.if-not-rule.true in
    rw (unmeant, last, second_last) refl

pub returns-else-begins_high_surrogate : goal.returns-else-begins_high_surrogate
returns-else-begins_high_surrogate g c =
    let window = after_fillers c.args.bytes.now in
    let at = c.args.at in
    let last : leb 0xC0 (get_or window (at + 3) 0) ≡ false = lt-leb 0xC0 _ (omega (arith, c.if-last-ge192.false, c.byte_before-last.ensures)) in
    let second_last : leb 0xE0 (get_or window (at + 2) 0) ≡ false = lt-leb 0xE0 _ (omega (arith, c.if-second_last-ge224.false, c.byte_before-second_last.ensures)) in
    let is_encoded : g.S.CharacterSet.set ≡ Encoded = encoded_if g.S.CharacterSet.set (ap (λ r. r.has_changed) (sym c.rule.ensures) ∙ not-false _ c.if-not-rule.false) in
    let no_high : is_high_surrogate Encoded (get_or window (at + 1) 0) (get_or window (at + 2) 0) ≡ false =
    (λ i. is_high_surrogate Encoded (sym c.byte_before-third_last.ensures i) (sym c.byte_before-second_last.ensures i)) ∙ sym c.begins_high_surrogate.ensures ∙ c.if-begins_high_surrogate.false in
    c.begins_high_surrogate-else-begins_high_surrogate.ensures
    ∙ (λ i. is_high_surrogate Encoded ((c.byte_before.ensures ∙ ap (λ k. get_or window k 0) (add-zero at)) i) (c.byte_before-third_last.ensures i))
    ∙ sym (rw (is_encoded, last, second_last, no_high) refl)
