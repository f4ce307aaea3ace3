-- Texts in a row.
use Rattle.std.specs.Prelude.{ℕ, List}
use Rattle.std.specs.List.{flat_map}
use Rattle.std.specs.Borrow.{Bor}
use Rattle.std.specs.Str.{chars}

-- The scalar values of the texts, joined.
abbrev pub joined : List (Bor (List ℕ)) → List ℕ
joined texts = flat_map (λ text. chars text.now) texts
