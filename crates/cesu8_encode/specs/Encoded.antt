-- What the functions that encode a string promise.
use Rattle.std.specs.Prelude.{◌≡◌, ℕ, ◌+◌, ◌≤◌, List, ◌++◌, Vec, length, take, Result, IfOk, OnOk, OnErr, IsOk, vec_len, vec_capacity}
use Rattle.std.specs.Str.{chars}
use Rattle.cesu8_text.specs.Encoding.{Flavor, encoding}

-- The encoding is written to the start of a slice, and its length is n.
pub record WritesEncoding (f : Flavor) (text old new : List ℕ) (n : ℕ) : Type 0 where
  pub bytes : take n new ≡ encoding f (chars text)
  pub end : n ≤ length new
  pub len : length new ≡ length old

-- The encoding is built in a new vector, with exactly the capacity that it needs.
pub record BuildsEncoding {A E : Type 0} (f : Flavor) (text : List ℕ) (result : Result (Vec ℕ A) E) : Type 0 where
  pub bytes : IfOk result (λ encoded. encoded.items ≡ encoding f (chars text))
  pub capacity : IfOk result (λ encoded. vec_capacity encoded ≡ length (encoding f (chars text)))

-- The encoding is appended to a buffer, whose capacity grows only if it is too small. After an
-- error the content and the capacity are unchanged.
pub record AppendsEncoding {A T E : Type 0} (f : Flavor) (text : List ℕ) (result : Result T E) (old new : Vec ℕ A) : Type 0 where
  pub ok : OnOk result (new.items ≡ old.items ++ encoding f (chars text))
  pub err : OnErr result (new.items ≡ old.items)
  pub err_capacity : OnErr result (vec_capacity new ≡ vec_capacity old)
  pub room : vec_len old + length (encoding f (chars text)) ≤ vec_capacity old → IsOk result
  pub stays : vec_len old + length (encoding f (chars text)) ≤ vec_capacity old → vec_capacity new ≡ vec_capacity old
  pub grows : vec_capacity old ≤ vec_capacity new
