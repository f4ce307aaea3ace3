-- The encoding of joined texts, for `append_all` and `encoded_len` of src/many_texts.rt, and for
-- `fill_arena` of src/arena.rt.
use Rattle.std.proofs.Common.{◌≡◌, ℕ, ◌+◌, ◌<◌, List, [], ◌∷◌, ◌++◌, Bor, refl, length, get_or, take, arith}
use Rattle.std.specs.List.{flat_map}
use Rattle.std.specs.Str.{chars}
use Rattle.std.proofs.lemmas.Grind.{common_steps}
use Rattle.simd_cesu8.specs.Encoding.{Cesu8, encoding}
use Rattle.simd_cesu8.specs.Laws.{Concat}
use Rattle.uses.specs.Texts.{joined}

-- The encoding of one of the texts.
abbrev pub encoded : Bor (List ℕ) → List ℕ
encoded text = encoding Cesu8 (chars text.now)

-- The encoding of the joined texts is their encodings, joined.
pub encoding-joined : Concat → (texts : List (Bor (List ℕ))) →
    encoding Cesu8 (joined texts) ≡ flat_map encoded texts
unfolding encoding
encoding-joined concat [] = refl
encoding-joined concat (text ∷ texts) =
    rw (concat Cesu8 (chars text.now) (joined texts), encoding-joined concat texts) refl

-- With one more text, one more encoding follows the others. `d` is what `get_or` returns outside
-- the list, and `i` is inside.
pub encoded_more : (texts : List (Bor (List ℕ))) (i : ℕ) (d : Bor (List ℕ)) → i < length texts →
    flat_map encoded (take (i + 1) texts)
    ≡ flat_map encoded (take i texts) ++ encoded (get_or texts i d)
encoded_more texts i d inside = grind (arith, common_steps)
