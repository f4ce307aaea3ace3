-- What a conversion of a stream does to its reader and its writer. `r0`, `r1` and `r2` are what the
-- reader has left, and `w0`, `w1` and `w2` what the writer holds, at successive points. They are
-- `None` if that is not known. `old` and `new` are the writer, or a buffer, before and after.
use Rattle.std.specs.Prelude.{◌≡◌, ℕ, ◌+◌, ◌≤◌, Bool, true, false, List, ◌++◌, length, take, drop, Option, IfSome}
use Rattle.std.specs.Io.KnownBytes.{Appends, Consumes, IsAtEnd}
use Rattle.cesu8conv_run.specs.Conversion.{Converts, IsOutput, IsDamage, IsDamagedAhead}
use Rattle.cesu8conv_run.specs.declared.conversion.Conversion.{Conversion}
use Rattle.cesu8conv_run.specs.declared.convert.Piece.{Piece}
use Rattle.cesu8conv_run.specs.declared.convert.Round.{Round}
use Rattle.cesu8conv_run.specs.declared.fault.Fault.{Fault}
use Rattle.cesu8conv_run.specs.declared.fault.Fault.TheVariants.{Damage}

-- If the input is known, its output was appended to what was written before.
abbrev pub WritesOutput : Conversion → (input old new : Option (List ℕ)) → Type 0
WritesOutput c input old new =
    IfSome input (λ bytes. (output : List ℕ) × IsOutput c bytes output × Appends old new output)

-- The output for the first bytes of the input, up to the offset, was appended, and the bytes from
-- there on begin with damage.
pub record StopsAt (c : Conversion) (offset : ℕ) (bytes : List ℕ) (old new : Option (List ℕ)) : Type 0 where
  pub within : offset ≤ length bytes
  pub output : List ℕ
  pub is_output : IsOutput c (take offset bytes) output
  pub appended : Appends old new output
  pub damage : IsDamage c (drop offset bytes)

-- A beginning of the output was appended: some of what the first bytes of the input became. The
-- `rest` of that was not.
pub record WritesSome (c : Conversion) (bytes : List ℕ) (old new : Option (List ℕ)) : Type 0 where
  pub taken : List ℕ
  pub ahead : List ℕ
  pub output : List ℕ
  pub rest : List ℕ
  pub bytes_are : bytes ≡ taken ++ ahead
  pub converts : Converts c true taken ahead (output ++ rest)
  pub appended : Appends old new output

-- What was appended if a run stops at a fault.
abbrev pub StopsBy : Conversion → Fault → (input old new : Option (List ℕ)) → Type 0
StopsBy c (Damage offset ahead) input old new = IfSome input (λ bytes. StopsAt c offset bytes old new)
StopsBy c other input old new = IfSome input (λ bytes. WritesSome c bytes old new)

-- The stream so far: `offset` bytes of the input were taken, what they became was appended, and the
-- bytes `ahead` were read but not taken. If these are the last ones, the input is at its end.
pub record IsSoFar (c : Conversion) (is_last : Bool) (r0 r1 w0 w1 : Option (List ℕ)) (ahead : List ℕ) (offset : ℕ) : Type 0 where
  pub taken : List ℕ
  pub output : List ℕ
  pub counted : length taken ≡ offset
  pub consumed : Consumes r0 r1 (taken ++ ahead)
  pub ends : is_last ≡ true → IsAtEnd r1
  pub converts : Converts c is_last taken ahead output
  pub appended : Appends w0 w1 output

-- Bytes were read into the window after its unread ones, up to `end`. If none was read, the input
-- is at its end.
pub record ReadsMore (unread end : ℕ) (r1 r2 : Option (List ℕ)) (old new : List ℕ) : Type 0 where
  pub more : unread ≤ end
  pub within : end ≤ length new
  pub got : List ℕ
  pub consumed : Consumes r1 r2 got
  pub piece_is : take end new ≡ take unread old ++ got
  pub ends : end ≡ unread → IsAtEnd r2

-- The first `read` bytes of a piece of the input were taken, and what they became was appended.
pub record TakesPiece (c : Conversion) (bytes : List ℕ) (is_last : Bool) (read : ℕ) (old new : Option (List ℕ)) : Type 0 where
  pub within : read ≤ length bytes
  pub output : List ℕ
  pub converts : Converts c is_last (take read bytes) (drop read bytes) output
  pub appended : Appends old new output

-- The conversion of a piece came as far as it goes. If no damage begins there, and the piece is the
-- last one, all of it was taken.
pub record IsPiece (c : Conversion) (bytes : List ℕ) (is_last : Bool) (piece : Piece) (old new : Option (List ℕ)) : Type 0 where
  pub takes : TakesPiece c bytes is_last piece.read old new
  pub all : piece.is_damaged ≡ false → is_last ≡ true → piece.read ≡ length bytes
  pub damage : piece.is_damaged ≡ true → IsDamagedAhead c is_last (drop piece.read bytes)

-- After a round, the first `round.left` bytes of the window are ahead. At the end of the input,
-- there are none, unless they begin with damage.
pub record IsRound (c : Conversion) (r1 r2 w1 w2 : Option (List ℕ)) (unread window : List ℕ) (round : Round) : Type 0 where
  pub read_fits : round.read ≤ length window
  pub left_fits : round.left ≤ length window
  pub so_far : (r0 w0 : Option (List ℕ)) (offset : ℕ) → IsSoFar c false r0 r1 w0 w1 unread offset →
      IsSoFar c round.is_last r0 r2 w0 w2 (take round.left window) (offset + round.read)
  pub all : round.is_damaged ≡ false → round.is_last ≡ true → round.left ≡ 0
  pub damage : round.is_damaged ≡ true → IsDamagedAhead c round.is_last (take round.left window)

-- Some of what the first bytes of a piece became was appended, and the `rest` of that was not.
pub record BreaksPiece (c : Conversion) (bytes : List ℕ) (is_last : Bool) (old new : Option (List ℕ)) : Type 0 where
  pub read : ℕ
  pub output : List ℕ
  pub rest : List ℕ
  pub converts : Converts c is_last (take read bytes) (drop read bytes) (output ++ rest)
  pub appended : Appends old new output
