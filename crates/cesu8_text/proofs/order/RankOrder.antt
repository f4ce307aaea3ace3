-- Comparing strings by the ranks of their UTF-8 bytes gives the order of their UTF-16 code units.
use Rattle.std.proofs.Common.{◌≡◌, ℕ, List, map, refl, arith}
use Rattle.std.specs.Str.{chars, IsUtf8}
use Rattle.std.specs.Ordering.{nat_cmp}
use Rattle.std.specs.Cmp.Lexicographic.{slice_cmp}
use Rattle.std.proofs.lemmas.List.{map-append, append-nil}
use Rattle.std.proofs.lemmas.Bool.Decides.{nat_tests}
use Rattle.cesu8_text.specs.Text.{IsText, utf8_of, utf8}
use Rattle.cesu8_text.specs.Utf16.{units}
use Rattle.cesu8_text.specs.Order.{utf16_rank}
use Rattle.cesu8_text.proofs.StdUtf8.{IsUtf8Of_chars}
use Rattle.cesu8_text.proofs.order.UnitOrder.{KeepsOrder, compares_by_units}
use Rattle.cesu8_text.proofs.order.Below.{same_answer}

-- The ranks of the bytes of a text's UTF-8.
abbrev ranks : List ℕ → List ℕ
ranks text = map utf16_rank (utf8 text)

-- If one character precedes another in UTF-16, its ranks are below those of the other. This holds
-- for all characters: `Unit` excludes none.
ranks_keep_order : KeepsOrder (λ c. Unit {0}) ranks
unfolding utf8_of
ranks_keep_order = record {
  nil = refl;
  cons = λ c text. grind (arith, map-append, append-nil);
  some = λ d ys. grind (arith, nat_tests);
  less = λ c d xs ys scalar other_scalar fits first. grind (arith, nat_tests);
}

-- `cmp` of the ranks returns what `cmp` of the code units returns.
rank_order : (s t : List ℕ) → IsText s → IsText t → slice_cmp nat_cmp (ranks s) (ranks t) ≡ slice_cmp nat_cmp (units s) (units t)
rank_order s t is_text other_is_text =
    same_answer (ranks s) (ranks t) (units s) (units t)
    (compares_by_units (λ c. Unit {0}) ranks ranks_keep_order s t is_text other_is_text (λ _ _ _. tt) (λ _ _ _. tt))

-- `rank_order` for two strings in std.
pub rank_order_by_bytes : (text other bytes other_bytes : List ℕ) → bytes ≡ text → other_bytes ≡ other → IsUtf8 text → IsUtf8 other →
    slice_cmp nat_cmp (map utf16_rank bytes) (map utf16_rank other_bytes) ≡ slice_cmp nat_cmp (units (chars text)) (units (chars other))
rank_order_by_bytes text other bytes other_bytes same other_same is_utf8 other_is_utf8 = grind (arith, IsUtf8Of_chars, rank_order)
