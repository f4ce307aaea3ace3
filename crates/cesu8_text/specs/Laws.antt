-- The laws of both encodings. They speak of the definitions only, and not of the code. They are the
-- contracts of functions of `simd_cesu8::laws`, which callers use in their proofs.
use Rattle.std.specs.Prelude.{◌≡◌, ℕ, ◌+◌, ◌*◌, ◌<◌, ◌≤◌, ◌≢◌, ◌⊎◌, ◌↔◌, List, [], ◌∷◌, ◌++◌, length, All}
use Rattle.std.specs.Ordering.{MatchOrdering, nat_cmp}
use Rattle.std.specs.Cmp.Lexicographic.{slice_cmp}
use Rattle.std.specs.Str.{chars, IsUtf8}
use Rattle.cesu8_text.specs.Text.{IsText, utf8, IsUtf8Of}
use Rattle.cesu8_text.specs.Utf16.{units}
use Rattle.cesu8_text.specs.Encoding.{Flavor, Cesu8, Mutf8, encoding, NeedsEncoding}
use Rattle.cesu8_text.specs.Class.{IsUnchangedUtf8}
use Rattle.cesu8_text.specs.Reading.{IsStrictReading, HasNoStrictReading, StandsAt, width, IsMark, mark, reading}
use Rattle.cesu8_text.specs.Cutting.{Piece, IsCutting, IsGreedy, text_of, cost}
use Rattle.cesu8_text.specs.Order.{IsBelow, ExactlyOne, ComparesAs}

-- The strict reading of an encoded text is that text and no other, and texts with equal encodings
-- are equal.
abbrev pub RoundTrip : Type 0
RoundTrip = (f : Flavor) (text : List ℕ) → IsText text →
    IsStrictReading f (encoding f text) text
    × ((other : List ℕ) → IsStrictReading f (encoding f text) other → other ≡ text)
    × ((other : List ℕ) → IsText other → encoding f text ≡ encoding f other → text ≡ other)

-- The characters of a string are scalar values.
abbrev pub CharsAreText : Type 0
CharsAreText = (string : List ℕ) → IsUtf8 string → IsText (chars string)

-- The bytes of a string are the UTF-8 of its characters.
abbrev pub CharsInUtf8 : Type 0
CharsInUtf8 = (string : List ℕ) → IsUtf8 string → utf8 (chars string) ≡ string

-- Strings with equal characters have equal bytes.
abbrev pub SameBytes : Type 0
SameBytes = (string other : List ℕ) → IsUtf8 string → IsUtf8 other → chars string ≡ chars other → string ≡ other

-- The UTF-8 of a text is a valid string.
abbrev pub TextIsString : Type 0
TextIsString = (text : List ℕ) → IsText text → IsUtf8 (utf8 text)

-- Decoding the UTF-8 of a text as characters gives the text.
abbrev pub CharsOfUtf8 : Type 0
CharsOfUtf8 = (text : List ℕ) → IsText text → chars (utf8 text) ≡ text

-- If an encoded string is decoded strictly, the result is the string.
abbrev pub DecodedBack : Type 0
DecodedBack = (f : Flavor) (string bytes back : List ℕ) → IsUtf8 string → IsUtf8 back →
    bytes ≡ encoding f (chars string) → IsStrictReading f bytes (chars back) → back ≡ string

-- Strict decoding never rejects an encoded string.
abbrev pub NotRefused : Type 0
NotRefused = (f : Flavor) (string bytes : List ℕ) → IsUtf8 string →
    bytes ≡ encoding f (chars string) → ¬ (HasNoStrictReading f bytes)

-- Encoding a strict reading gives back the original bytes.
abbrev pub EncodedBack : Type 0
EncodedBack = (f : Flavor) (bytes string back : List ℕ) →
    IsStrictReading f bytes (chars string) → back ≡ encoding f (chars string) → back ≡ bytes

-- The encoding of a concatenation is the concatenation of the encodings.
abbrev pub Concat : Type 0
Concat = (f : Flavor) (s t : List ℕ) → encoding f (s ++ t) ≡ encoding f s ++ encoding f t

-- Bytes that are both UTF-8 and an encoding have the same text in both.
abbrev pub SameText : Type 0
SameText = (f : Flavor) (bytes text other : List ℕ) → IsUtf8Of text bytes → IsStrictReading f bytes other → text ≡ other

-- A text needs no encoding if and only if its encoding is its UTF-8.
abbrev pub Needs : Type 0
Needs = (f : Flavor) (text : List ℕ) → IsText text → (¬ (NeedsEncoding f text)) ↔ (encoding f text ≡ utf8 text)

-- A text needs no encoding if and only if its encoding is UTF-8 without a byte that changes.
abbrev pub UnchangedEncoding : Type 0
UnchangedEncoding = (f : Flavor) (text : List ℕ) → IsText text →
    (¬ (NeedsEncoding f text)) ↔ IsUnchangedUtf8 f (encoding f text)

-- A string needs no encoding if and only if none of its bytes changes.
abbrev pub UnchangedString : Type 0
UnchangedString = (f : Flavor) (string : List ℕ) → IsUtf8 string →
    (¬ (NeedsEncoding f (chars string))) ↔ IsUnchangedUtf8 f string

-- No byte of MUTF-8 is 0, and no byte of either encoding is F0 (hexadecimal) or more.
abbrev pub NoZero : Type 0
NoZero = (text : List ℕ) → IsText text →
    All (λ byte. byte ≢ 0) (encoding Mutf8 text) × ((f : Flavor) → All (λ byte. byte < 0xF0) (encoding f text))

-- An encoding is at most twice as long as the text's UTF-8.
abbrev pub EncodingBound : Type 0
EncodingBound = (f : Flavor) (text : List ℕ) → IsText text → length (encoding f text) ≤ 2 * length (utf8 text)

-- The UTF-8 of a strict reading is at most as long as the input.
abbrev pub StrictBound : Type 0
StrictBound = (f : Flavor) (bytes text : List ℕ) → IsStrictReading f bytes text → length (utf8 text) ≤ length bytes

-- The UTF-8 of the text of any cutting, greedy or not, is at most three times as long as the input.
abbrev pub CuttingBound : Type 0
CuttingBound = (f : Flavor) (bytes : List ℕ) (pieces : List Piece) → IsCutting f bytes pieces →
    length (utf8 (text_of pieces)) ≤ 3 * length bytes

-- The UTF-8 of the lossy reading is at most three times as long as the input.
abbrev pub LossyBound : Type 0
LossyBound = (f : Flavor) (bytes : List ℕ) → length (utf8 (reading f bytes)) ≤ 3 * length bytes

-- The four length bounds.
abbrev pub Bounds : Type 0
Bounds = EncodingBound × StrictBound × CuttingBound × LossyBound

-- Two encoded characters in the same bytes are at the same offset, or don't overlap.
abbrev pub NoOverlap : Type 0
NoOverlap = (f : Flavor) (bytes : List ℕ) (i j c d : ℕ) → StandsAt f bytes i c → StandsAt f bytes j d →
    ((i ≡ j) × (c ≡ d)) ⊎ ((i + width f c ≤ j) ⊎ (j + width f d ≤ i))

-- Each offset has exactly one mark, and the function `mark` computes it.
abbrev pub OneMark : Type 0
OneMark = (f : Flavor) (bytes : List ℕ) (i : ℕ) →
    IsMark f bytes i (mark f bytes i) × ((other : List ℕ) → IsMark f bytes i other → other ≡ mark f bytes i)

-- The text of every greedy cutting is the lossy reading.
abbrev pub Places : Type 0
Places = (f : Flavor) (bytes : List ℕ) (pieces : List Piece) → IsCutting f bytes pieces → IsGreedy f pieces →
    text_of pieces ≡ reading f bytes

-- Any list of bytes has a greedy cutting.
abbrev pub HasGreedyCutting : Type 0
HasGreedyCutting = (f : Flavor) (bytes : List ℕ) →
    (pieces : List Piece) × IsCutting f bytes pieces × IsGreedy f pieces

-- The greedy cutting replaces the fewest bytes: its text is the lossy reading, and every other
-- cutting of the same bytes costs more.
abbrev pub Fewest : Type 0
Fewest = (f : Flavor) (bytes : List ℕ) → (pieces : List Piece) ×
    IsCutting f bytes pieces × IsGreedy f pieces × (text_of pieces ≡ reading f bytes)
    × ((other : List Piece) → IsCutting f bytes other → (other ≡ pieces) ⊎ (cost pieces < cost other))

-- The lossy reading of any bytes consists of scalar values.
abbrev pub ReadingIsText : Type 0
ReadingIsText = (f : Flavor) (bytes : List ℕ) → IsText (reading f bytes)

-- The lossy reading of an encoded text is the text.
abbrev pub ReadingOfEncoding : Type 0
ReadingOfEncoding = (f : Flavor) (text : List ℕ) → IsText text → reading f (encoding f text) ≡ text

-- Encoding a lossy reading and decoding it again gives the same text.
abbrev pub ReadAgain : Type 0
ReadAgain = (f : Flavor) (bytes : List ℕ) → reading f (encoding f (reading f bytes)) ≡ reading f bytes

-- If bytes have a strict reading, their lossy reading is equal to it.
abbrev pub LossyIsStrict : Type 0
LossyIsStrict = (f : Flavor) (bytes text : List ℕ) → IsStrictReading f bytes text → reading f bytes ≡ text

-- If the lossy reading has no U+FFFD, it is the strict reading. (The input may also encode a
-- U+FFFD.)
abbrev pub NothingReplaced : Type 0
NothingReplaced = (f : Flavor) (bytes : List ℕ) → All (λ c. c ≢ 0xFFFD) (reading f bytes) →
    IsStrictReading f bytes (reading f bytes)

-- No encoded character begins in the first part and ends in the second.
abbrev pub NoneCrosses : Flavor → List ℕ → List ℕ → Type 0
NoneCrosses f front back =
    (i c : ℕ) → StandsAt f (front ++ back) i c → i < length front → i + width f c ≤ length front

-- The lossy reading of a ++ b is that of a followed by that of b if and only if no encoded
-- character begins in a and ends in b.
abbrev pub Split : Type 0
Split = (f : Flavor) (a b : List ℕ) →
    (reading f (a ++ b) ≡ reading f a ++ reading f b) ↔ NoneCrosses f a b

-- `Split` needs its condition: the two halves of a surrogate pair are ill-formed alone, and joined
-- they are U+1F496.
abbrev pub HalvesJoin : Type 0
HalvesJoin = (f : Flavor) →
    let high = 0xED ∷ 0xA0 ∷ 0xBD ∷ [] in
    let low = 0xED ∷ 0xB2 ∷ 0x96 ∷ [] in
    (reading f high ≡ 0xFFFD ∷ 0xFFFD ∷ 0xFFFD ∷ []) × (reading f low ≡ 0xFFFD ∷ 0xFFFD ∷ 0xFFFD ∷ [])
    × (reading f (high ++ low) ≡ 0x1F496 ∷ [])

-- Encoded text before and after some bytes does not change their lossy reading: it is s, then the
-- reading of w, then t.
abbrev pub Around : Type 0
Around = (f : Flavor) (s w t : List ℕ) → IsText s → IsText t →
    reading f (encoding f s ++ w ++ encoding f t) ≡ s ++ reading f w ++ t

-- A nonempty encoded text between two parts separates them: the lossy reading is that of a, then t,
-- then that of b.
abbrev pub Middle : Type 0
Middle = (f : Flavor) (a t b : List ℕ) → IsText t → t ≢ [] →
    reading f (a ++ encoding f t ++ b) ≡ reading f a ++ t ++ reading f b

-- For two lists exactly one holds: the first is below, they are equal, or the second is below.
abbrev pub Trichotomy : Type 0
Trichotomy = (xs ys : List ℕ) → ExactlyOne (IsBelow xs ys) (xs ≡ ys) (IsBelow ys xs)

-- `IsBelow` is transitive.
abbrev pub Transitivity : Type 0
Transitivity = (xs ys zs : List ℕ) → IsBelow xs ys → IsBelow ys zs → IsBelow xs zs

-- In std, `cmp` of two slices of numbers is dictionary order.
abbrev pub SliceOrder : Type 0
SliceOrder = (xs ys : List ℕ) →
    MatchOrdering (slice_cmp nat_cmp xs ys) (IsBelow xs ys) (xs ≡ ys) (IsBelow ys xs)

-- In CESU-8, encodings compare as the UTF-16 code units of their texts do.
abbrev pub OrderInCesu8 : Type 0
OrderInCesu8 = (s t : List ℕ) → IsText s → IsText t →
    ComparesAs (encoding Cesu8 s) (encoding Cesu8 t) (units s) (units t)

-- In std, `cmp` of two CESU-8 encodings returns what `cmp` of the code units returns.
abbrev pub KeyOrder : Type 0
KeyOrder = (s t : List ℕ) → IsText s → IsText t →
    slice_cmp nat_cmp (encoding Cesu8 s) (encoding Cesu8 t) ≡ slice_cmp nat_cmp (units s) (units t)

-- In MUTF-8, encodings compare as the code units do if neither text has U+0000.
abbrev pub OrderInMutf8 : Type 0
OrderInMutf8 = (s t : List ℕ) → IsText s → IsText t → All (λ c. c ≢ 0) s → All (λ c. c ≢ 0) t →
    ComparesAs (encoding Mutf8 s) (encoding Mutf8 t) (units s) (units t)

-- Without that condition they may not: U+0000 has a smaller code unit than "A", and a greater
-- encoding.
abbrev pub NullOutOfOrder : Type 0
NullOutOfOrder =
    IsBelow (units (0x0 ∷ [])) (units (0x41 ∷ []))
    × IsBelow (encoding Mutf8 (0x41 ∷ [])) (encoding Mutf8 (0x0 ∷ []))

-- The order is not that of scalar values: U+FFFF is below U+10000, but its encodings are above.
abbrev pub ScalarsOutOfOrder : Type 0
ScalarsOutOfOrder =
    IsBelow (0xFFFF ∷ []) (0x10000 ∷ [])
    × ((f : Flavor) → IsBelow (encoding f (0x10000 ∷ [])) (encoding f (0xFFFF ∷ [])))
