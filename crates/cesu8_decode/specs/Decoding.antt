-- What the functions that decode promise: what is written for a window, for all bytes, and by a
-- pass that stops and continues.
use Rattle.std.specs.Prelude.{◌≡◌, ℕ, ◌+◌, ◌*◌, ◌<◌, ◌≤◌, ◌==◌, if◌then◌else◌, Bool, true, false, List, [], ◌++◌, Vec, length, take, vec_capacity, Result, IfOk, OnErr}
use Rattle.cesu8_text.specs.Reading.{HasNoStrictReading, lossy_length}
use Rattle.cesu8_text.specs.Encoding.{Flavor}
use Rattle.cesu8_bytes.specs.declared.strictness.Strictness.{Strictness}
use Rattle.cesu8_bytes.specs.declared.strictness.Strictness.TheVariants.{Strict, Lossy}
use Rattle.cesu8_bytes.specs.declared.lanes.class.TheConstants.{LANES}
use Rattle.cesu8_decode.specs.declared.strategy.TheConstants.{SMALL_ARRAY, LARGE_ARRAY, LARGEST_ARRAY}
use Rattle.cesu8_decode.specs.declared.strategy.Strategy.{Strategy}
use Rattle.cesu8_decode.specs.declared.strategy.Strategy.TheVariants.{Short, SmallArray, LargeArray, LargestArray, Chunks}
use Rattle.cesu8_decode.specs.declared.pass.window.TheConstants.{WIDEST, ROOM}
use Rattle.cesu8_decode.specs.declared.pass.events.TheConstants.{STORED_AFTER}
use Rattle.cesu8_decode.specs.declared.pass.windows.Pass.{Pass}
use Rattle.cesu8_decode.specs.DecodedOffsets.{window_of, decoded, is_ill_formed_at, is_boundary_at}
use Rattle.cesu8_decode.specs.declared.lanes.windows.Window.{Window}
use Rattle.cesu8_bytes.specs.Puts.{WritesAt}
use Rattle.cesu8_bytes.specs.TextChunks.{IsReadSoFar}

-- The strategy fits the bytes: they are at most as many as its limit, and for chunks more than
-- every other limit.
abbrev pub Takes : Strategy → List ℕ → Type 0
Takes Short bytes = length bytes ≤ LANES
Takes SmallArray bytes = length bytes ≤ SMALL_ARRAY
Takes LargeArray bytes = length bytes ≤ LARGE_ARRAY
Takes LargestArray bytes = length bytes ≤ LARGEST_ARRAY
Takes Chunks bytes = LARGEST_ARRAY < length bytes

-- The most bytes that are written for n bytes: n in strict decoding, and a U+FFFD for each in lossy
-- decoding.
abbrev pub most_written : Strictness → ℕ → ℕ
most_written Strict n = n
most_written Lossy n = WIDEST * n

-- The space that n bytes need in a buffer: for their text, and `ROOM` more, without which the pass
-- stops.
abbrev pub room_for : Strictness → ℕ → ℕ
room_for which n = most_written which n + ROOM

-- The space that at most 64 bytes need: for their text, and for what is stored after it.
abbrev pub room_for_short : Strictness → ℕ
room_for_short which = most_written which LANES + STORED_AFTER

-- The most bytes that are written for a window: three for each byte if one of them is ill-formed.
abbrev pub most_of_window : Window → ℕ
most_of_window window = if window.ill_formed == 0 then LANES else WIDEST * LANES

-- The greatest length of the text of the bytes.
abbrev pub most_of_text : Flavor → Strictness → List ℕ → ℕ
most_of_text f Strict bytes = length bytes
most_of_text f Lossy bytes = lossy_length f bytes

-- The text of the bytes is written at the start of a slice, or strict decoding rejects a byte.
-- `IsReadSoFar` with [] for the rest says that all bytes are decoded: the last list is the one
-- before it, followed by their text.
pub record WritesReading {E : Type 0} (f : Flavor) (which : Strictness) (bytes : List ℕ) (result : Result ℕ E) (old new : List ℕ) : Type 0 where
  pub text : IfOk result (λ end. IsReadSoFar f which bytes [] [] (take end new))
  pub end : IfOk result (λ end. end ≤ most_written which (length bytes))
  pub none : OnErr result ((which ≡ Strict) × HasNoStrictReading f bytes)
  pub len : length new ≡ length old

-- The text of the bytes is written at the start of a slice, up to `end`.
pub record WritesText (f : Flavor) (which : Strictness) (bytes : List ℕ) (end : ℕ) (old new : List ℕ) : Type 0 where
  pub text : IsReadSoFar f which bytes [] [] (take end new)
  pub fits : end ≤ most_written which (length bytes)
  pub len : length new ≡ length old

-- The text of the bytes is appended to a vector, or strict decoding rejects a byte.
pub record AppendsReading {Z E : Type 0} (f : Flavor) (which : Strictness) (bytes : List ℕ) (before : Vec ℕ Z) (result : Result (Vec ℕ Z) E) : Type 0 where
  pub text : IfOk result (λ text. IsReadSoFar f which bytes [] before.items text.items)
  pub capacity : IfOk result (λ text. vec_capacity text ≡ vec_capacity before)
  pub none : OnErr result ((which ≡ Strict) × HasNoStrictReading f bytes)

-- The vector holds exactly the lossily decoded text, and its capacity is the length of the text.
pub record BuildsReading {Z E : Type 0} (f : Flavor) (bytes : List ℕ) (result : Result (Vec ℕ Z) E) : Type 0 where
  pub text : IfOk result (λ text. IsReadSoFar f Lossy bytes [] [] text.items)
  pub capacity : IfOk result (λ text. vec_capacity text ≡ length text.items)

-- `text` is `before` and then what is written for n bytes of a window from an offset on, or strict
-- decoding rejects one of these bytes.
pub record IsDecoded (f : Flavor) (which : Strictness) (window : List ℕ) (at n : ℕ) (before text : List ℕ) (is_rejected : Bool) : Type 0 where
  pub bytes : is_rejected ≡ false → text ≡ before ++ decoded f window at n
  pub refused : is_rejected ≡ true → (i : ℕ) × (at ≤ i) × (i < at + n) × (is_ill_formed_at f window i ≡ true)
  pub lossy : which ≡ Lossy → is_rejected ≡ false
  pub strict : which ≡ Strict → is_rejected ≡ false → (i : ℕ) → at ≤ i → i < at + n → is_ill_formed_at f window i ≡ false

-- What is written for n bytes of a window (`IsDecoded`) is written after the first `start` bytes of
-- a slice.
pub record WritesDecoded (f : Flavor) (which : Strictness) (window : List ℕ) (at n start : ℕ) (old new : List ℕ) (new_end : ℕ) (is_rejected : Bool) : Type 0 where
  pub text : IsDecoded f which window at n (take start old) (take new_end new) is_rejected
  pub end : new_end ≤ start + most_written which n
  pub len : length new ≡ length old

-- The text of a window is written at an offset of a slice.
abbrev pub WritesWindow : Flavor → List ℕ → ℕ → Window → ℕ → (old new : List ℕ) → ℕ → Type 0
WritesWindow f bytes at window start old new end = WritesAt (decoded f (window_of bytes) at window.len) start old new end

-- The pass has read some bytes and is at a character boundary.
pub record IsPass (f : Flavor) (bytes : List ℕ) (read : ℕ) : Type 0 where
  pub within : read ≤ length bytes
  pub boundary : is_boundary_at f (window_of bytes) read ≡ true

-- A pass can go on: it stands at a character boundary, has rejected nothing, and its text ends
-- within the first `most` bytes of the buffer.
pub record CanGoOn (f : Flavor) (bytes : List ℕ) (at : Pass) (most : ℕ) : Type 0 where
  pub pass : IsPass f bytes at.read
  pub fine : at.is_rejected ≡ false
  pub end : at.end ≤ most

-- The state of a pass that has read some bytes, and whose buffer is empty.
abbrev pub pass_from : ℕ → Pass
pass_from read = record { read = read; end = 0; is_rejected = false }

-- The pass has read more bytes, and their text is written after the text of the bytes that were
-- read before. In the field `text`, the variable `text` is what was written before this buffer was
-- used, and `start` is what precedes the text of the first byte. The field `end` bounds how many
-- bytes are written for those that were read.
pub record GoesOn (f : Flavor) (which : Strictness) (bytes : List ℕ) (before after : Pass) (old new : List ℕ) : Type 0 where
  pub pass : after.is_rejected ≡ false → IsPass f bytes after.read
  pub within : (before.read ≤ after.read) × (after.read ≤ length bytes)
  pub text : (start text : List ℕ) → IsDecoded f which (window_of bytes) 0 before.read start (text ++ take before.end old) false →
      IsDecoded f which (window_of bytes) 0 after.read start (text ++ take after.end new) after.is_rejected
  pub end : after.end + most_written which before.read ≤ before.end + most_written which after.read
  pub inside : after.end ≤ length new
  pub len : length new ≡ length old

-- What the pass writes next to some buffer, which is `old` before and `new` after that, is appended
-- to a vector.
pub record AppendsNext {Z : Type 0} (f : Flavor) (which : Strictness) (bytes : List ℕ) (read : ℕ) (after : Pass) (before out : Vec ℕ Z) : Type 0 where
  pub old : List ℕ
  pub new : List ℕ
  pub more : GoesOn f which bytes (pass_from read) after old new
  pub text : after.is_rejected ≡ false → out.items ≡ before.items ++ take after.end new
  pub capacity : vec_capacity out ≡ vec_capacity before
