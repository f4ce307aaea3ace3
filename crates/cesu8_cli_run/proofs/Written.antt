-- Slices that are written a piece at a time, for `write_whole`.
use Rattle.std.proofs.Common.{◌≡◌, ℕ, ◌-◌, List, ◌++◌, length, take, drop, sym, ap, ◌∙◌, append_assoc}
use Rattle.std.proofs.lemmas.List.{take_rest, take-append-drop}

-- A slice is the bytes that were written, the next n bytes, and the bytes after those.
pub whole_after : (whole written rest : List ℕ) (n : ℕ) → whole ≡ written ++ rest →
    whole ≡ (written ++ take n rest) ++ take (length rest - n) (drop n rest)
whole_after whole written rest n e =
    e ∙ sym (append_assoc written (take n rest) _ ∙ ap (λ bs. written ++ bs) (ap (λ bs. take n rest ++ bs) (take_rest rest n) ∙ take-append-drop n rest))
