-- What `fill_arena` of src/arena.rt promises. An arena is a slice to which it writes the encodings
-- of texts, one after the other.
use Rattle.std.specs.Prelude.{◌≡◌, ℕ, ◌+◌, ◌<◌, List, length, take, slice_index}
use Rattle.std.specs.Borrow.{Bor}
use Rattle.simd_cesu8.specs.Encoding.{Cesu8, encoding}
use Rattle.simd_cesu8.specs.Slices.{StandsAtFront}
use Rattle.uses.specs.Texts.{joined}

-- The encodings of the first texts, one after the other.
abbrev pub first_encoded : List (Bor (List ℕ)) → ℕ → List ℕ
first_encoded texts count = encoding Cesu8 (joined (take count texts))

-- The encodings of the first `count` texts are the first `used` bytes of the arena, and the bytes
-- after them are unchanged. `ends` has the offset at which each of these encodings ends.
pub record HoldsFirst (texts : List (Bor (List ℕ))) (count used : ℕ)
    (old new ends : List ℕ) : Type 0 where
  pub front : StandsAtFront (first_encoded texts count) used old new
  pub ends_are : (i : ℕ) → i < count → slice_index ends i ≡ length (first_encoded texts (i + 1))
