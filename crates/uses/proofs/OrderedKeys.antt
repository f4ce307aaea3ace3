-- Keys that are encodings, and their order, for `put_value` of src/key_store.rt.
use Rattle.std.proofs.Common.{◌≡◌, ◌≢◌, ℕ, true, false, List, Option, Ordering, refl, sym, ◌∙◌}
use Rattle.std.specs.Global.{Vec}
use Rattle.std.specs.BTreeMap.{BTreeMap, keys, IsOrdered, UpdatesBy}
use Rattle.std.specs.Cmp.Lexicographic.{slice_cmp, same_text, texts_ties}
use Rattle.std.specs.Map.{KeepsOthers}
use Rattle.std.specs.Ordering.{is_eq, nat_cmp}
use Rattle.std.proofs.lemmas.Bool.{false_from_ne_true}
use Rattle.std.proofs.lemmas.Map.Keys.{Less-from_sorted}
use Rattle.simd_cesu8.specs.Text.{IsText}
use Rattle.simd_cesu8.specs.Encoding.{Cesu8, encoding}
use Rattle.simd_cesu8.specs.Laws.{RoundTrip, KeyOrder}
use Rattle.uses.specs.KeyStore.{value_at, IsInUtf16Order}

-- How the store compares two keys.
abbrev key_cmp : Vec ℕ → Vec ℕ → Ordering
key_cmp key other = slice_cmp nat_cmp key.items other.items

-- Keys that compare as equal are equal.
same_from_equal : (xs ys : List ℕ) → is_eq (slice_cmp nat_cmp xs ys) ≡ true → xs ≡ ys
same_from_equal xs ys equal = same_text xs ys (sym (texts_ties xs ys ∙ equal))

-- Different keys do not compare as equal.
unequal_from_differ : (xs ys : List ℕ) → xs ≢ ys → is_eq (slice_cmp nat_cmp xs ys) ≡ false
unequal_from_differ xs ys differ =
    false_from_ne_true (is_eq (slice_cmp nat_cmp xs ys)) (λ equal. differ (same_from_equal xs ys equal))

-- A store whose keys ascend has them in the order of UTF-16.
pub in_utf16_order : KeyOrder → (store : BTreeMap (Vec ℕ) ℕ) → IsOrdered key_cmp store → IsInUtf16Order store
in_utf16_order order store ordered i j d before inside s t reads reads_other =
    sym (order s t reads.0 reads_other.0)
    ∙ rw (reads.1, reads_other.1) (Less-from_sorted key_cmp (keys store) i j d ordered before inside)

-- An update at the key of one text does not change the value of any other text: all keys that the
-- look-up of the other text finds are equal, and the key of the update is none of them.
pub others_unchanged : RoundTrip → (text other : List ℕ) → IsText text → IsText other → other ≢ text →
    (key : Vec ℕ) → key.items ≡ encoding Cesu8 text →
    (old new : BTreeMap (Vec ℕ) ℕ) (value : Option ℕ) →
    UpdatesBy key_cmp (key_cmp key) old new value → value_at new other ≡ value_at old other
unfolding KeepsOthers
others_unchanged round_trip text other is_text is_other differ key key_is old new value updates =
    let encoded = encoding Cesu8 other in
    updates.3 (λ k. is_eq (slice_cmp nat_cmp encoded k.items))
    (λ x y is_x. let same = same_from_equal encoded x.items is_x in rw same refl)
    (λ k is_k. unequal_from_differ encoded k.items (λ (is : encoded ≡ k.items).
    let same = same_from_equal key.items k.items is_k in
    differ ((round_trip Cesu8 other is_other).2 text is_text (is ∙ sym same ∙ key_is))))
