-- The text is the unchanged prefix and then the text of the rest, so its length is the sum. If no
-- byte of the rest is ill-formed, its strict reading is its lossy one, which is no longer than the
-- rest. So neither `lossy_len` nor the sum overflows.
use Rattle.std.proofs.Common.{◌≡◌, ℕ, List, ◌<◌, ◌∙◌, sym, ap, arith, length, take, drop, length-drop, length-append}
use Rattle.std.proofs.lemmas.Bool.{eqb-true, eqb-false, both_ways}
use Rattle.std.proofs.lemmas.List.{take_rest, length-take-le}
use Rattle.cesu8_text.specs.Reading.{IsStrictReading, reading, lossy_length}
use Rattle.cesu8_text.specs.Slices.{ReadsAtLength}
use Rattle.cesu8_text.specs.Text.{utf8}
use Rattle.cesu8_text.proofs.reading.KeptTexts.{encoding_texts}
use Rattle.cesu8_bytes.specs.declared.strictness.Strictness.TheVariants.{Strict}
use Rattle.cesu8_decode.proofs.chunks.TextAfterPrefix.{unless_begun, none_before, only_after}
use Rattle.cesu8_decode.proofs.chunks.SliceReadings.{IsOnlyText, only_kept, of_length}
use Rattle.cesu8_decode.proofs.chunks.UnchangedPrefixes.{all_unchanged, unchanged_prefix_chunk}
use Rattle.cesu8_decode.proofs.lengths.decoded_len.Goals as goal
use Rattle.cesu8_decode.proofs.lengths.decoded_len.Goals.{then-not-begins_changed-via-then-not-begins_changed, then-not-begins_changed-via-else-not-begins_changed+then-is_ill_formed}

-- Nothing follows the unchanged prefix, so the bytes are their own text.
pub returns-then-is_empty-clause-some : goal.returns-then-is_empty-clause-some
returns-then-is_empty-clause-some g c =
    let f = g.F.Flavor.flavor in
    let bytes = c.args.bytes.now in
    let n = c.unchanged_prefix_by_call-prefix.result.len in
    let none : length (drop n bytes) ≡ 0 = eqb-true _ _ (sym (rw take_rest at c.is_empty.ensures) ∙ c.if-is_empty.true) in
    let all : n ≡ length bytes = omega (arith, none, length-drop n bytes, c.unchanged_prefix_by_call-prefix.ensures.len.within) in
    of_length (IsStrictReading f bytes) (λ len. n ≡ len) _ bytes
    (only_kept f bytes _ _ _ (encoding_texts f bytes) Strict ((all_unchanged f bytes n c.unchanged_prefix_by_call-prefix.ensures.len).0 all)) all

-- No character that needs conversion begins directly after the prefix, or a byte after it is
-- ill-formed. In both cases there is no strict reading: in the first, no character begins there.
pub returns-then-not-begins_changed-clause-none : goal.returns-then-not-begins_changed-clause-none
returns-then-not-begins_changed-clause-none g c =
    let f = g.F.Flavor.flavor in
    let bytes = c.args.bytes.now in
    let n = c.unchanged_prefix_by_call-prefix.result.len in
    let tells = rw take_rest at c.begins_changed.ensures in
    let more : n < length bytes =
    omega (arith, eqb-false _ _ (sym (rw take_rest at c.is_empty.ensures) ∙ c.if-is_empty.false), length-drop n bytes) in
    elim c.then-not-begins_changed.branch [
      | then-not-begins_changed-via-then-not-begins_changed w ↦
          unless_begun f bytes n c.unchanged_prefix_by_call-prefix.ensures.len
          (λ begun. both_ways c.begins_changed.result w.if-not-begins_changed.true (tells.1 begun)) more
      | then-not-begins_changed-via-else-not-begins_changed+then-is_ill_formed w ↦
          none_before f bytes (drop n bytes) (take n bytes) (unchanged_prefix_chunk f bytes n c.unchanged_prefix_by_call-prefix.ensures.len Strict)
          (rw take_rest at (w.is_ill_formed.ensures.ill_formed w.if-is_ill_formed.true))
    ]

-- A sum is the length of the only text.
of_sum : (IsReading : List ℕ → Type 0) (sum : ℕ) (text answer : List ℕ) → IsOnlyText IsReading text answer → sum ≡ length answer →
    ReadsAtLength IsReading (λ len. sum ≡ len)
of_sum IsReading sum text answer is same = of_length IsReading (λ len. sum ≡ len) text answer is same

-- No byte is ill-formed: the result is the sum.
pub returns-clause-some : goal.returns-clause-some
unfolding lossy_length
returns-clause-some g c =
    let f = g.F.Flavor.flavor in
    let bytes = c.args.bytes.now in
    let n = c.unchanged_prefix_by_call-prefix.result.len in
    let rest = drop n bytes in
    let whole = rw take_rest at (c.is_ill_formed.ensures.whole c.if-is_ill_formed.false) in
    of_sum (IsStrictReading f bytes) _ _ _
    (only_after f bytes rest (take n bytes) (unchanged_prefix_chunk f bytes n c.unchanged_prefix_by_call-prefix.ensures.len Strict) (reading f rest) whole)
    (grind (
      arith,
      ap (lossy_length f) (take_rest bytes n),
      length-append (take n bytes) (utf8 (reading f rest)),
      length-take-le n bytes c.unchanged_prefix_by_call-prefix.ensures.len.within,
    ))
