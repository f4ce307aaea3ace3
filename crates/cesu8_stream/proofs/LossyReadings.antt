-- What the loop of the lossy decoder (`decode_lossy` of src/lossy.rt) has read, step by step.
use borrow.Rule.Slice.PartMut.{put_mid}
use Rattle.std.proofs.Common.{◌≡◌, ℕ, ◌+◌, ◌-◌, ◌<◌, ◌≤◌, ◌⊎◌, ◌↔◌, List, [], ◌∷◌, ◌++◌, Bool, true, false, refl, sym, ap, ◌∙◌, subst, inl, inr, arith, length, take, drop, append-nil, append_assoc, length-append, length-drop}
use Rattle.std.proofs.lemmas.Grind.{common_steps}
use Rattle.std.proofs.lemmas.Bool.{cases_lt}
use Rattle.std.proofs.lemmas.List.{take_rest, take-append-drop}
use Rattle.simd_cesu8.specs.Text.{IsText, utf8_of, utf8}
use Rattle.simd_cesu8.specs.Encoding.{Flavor, encoding}
use Rattle.simd_cesu8.specs.Reading.{reading}
use Rattle.simd_cesu8.specs.Cutting.{Replaced}
use Rattle.simd_cesu8.specs.Laws.{Around, Split, Places}
use Rattle.cesu8_stream.specs.Written.{BeginsNone, IsPartial, Converts, NeverBegins, BeginsLonger}
use Rattle.cesu8_stream.specs.Streams.{ConvertsPiece}
use Rattle.cesu8_stream.specs.Lossy.{MayFollow, ReadsOn, StaysForNext, IsReplaced, NextIsLonger, is_damage, DecodesPiece}
use Rattle.cesu8_stream.specs.declared.progress.Progress.{Progress}
use Rattle.cesu8_stream.specs.declared.progress.State.{State}
use Rattle.cesu8_stream.specs.declared.progress.State.TheVariants.{InputEmpty, Incomplete, OutputFull, Malformed}
use Rattle.cesu8_stream.proofs.Characters.{utf8_few, encoding_empty}
use Rattle.cesu8_stream.proofs.Joined.{joined_text, joined_front, drop_more}
use Rattle.cesu8_stream.proofs.Pieces.{to_end}
use Rattle.cesu8_stream.proofs.First.{begins_longer}
use Rattle.cesu8_stream.proofs.Utf8.{utf8_appends}

-- An encoded text with more bytes after it is read as the text, and then as these bytes are read.
pub text_read : Around → (f : Flavor) (text more : List ℕ) → IsText text →
    reading f (encoding f text ++ more) ≡ text ++ reading f more
text_read around f text more is_text =
    let e = around f text more [] is_text tt in
    let whole = encoding f text ++ more in
    ap (reading f) (sym (append-nil whole) ∙ ap (λ bs. whole ++ bs) (sym (encoding_empty f)))
    ∙ e ∙ append-nil (text ++ reading f more)

-- If no character begins some bytes, they are read as U+FFFD for the first one, and then as the
-- others are read.
pub damage_read : Split → Places → (f : Flavor) (byte : ℕ) (more : List ℕ) → BeginsNone (encoding f) (byte ∷ more) →
    reading f (byte ∷ more) ≡ 0xFFFD ∷ reading f more
damage_read split places f byte more none =
    let alone : BeginsNone (encoding f) (byte ∷ []) = λ c b. none c (begins_longer (encoding f) (byte ∷ []) more c b) in
    let mark : 0xFFFD ∷ [] ≡ reading f (byte ∷ []) =
    places f (byte ∷ []) (Replaced byte ∷ []) ((tt, tt), refl)
    ((λ c rest b. alone c (record { scalar = b.scalar; rest = rest; bytes_are = b.bytes_are })), tt) in
    (split f (byte ∷ []) more).1 (λ i c stands low.
    let first : i ≡ 0 = omega arith in
    absurd (none c (record {
      scalar = stands.1.scalar;
      rest = stands.0;
      bytes_are = ap (λ k. drop k (byte ∷ more)) (sym first) ∙ stands.1.bytes_are;
    })))
    ∙ ap (λ bs. bs ++ reading f more) (sym mark)

-- What is known of a lossy reading, which is written as UTF-8.
pub record IsReading (from to reading : List ℕ → List ℕ) : Type 0 where
  pub to_utf8 : (text : List ℕ) → to text ≡ utf8 text
  pub text : (text more : List ℕ) → IsText text → reading (from text ++ more) ≡ text ++ reading more
  pub damage : (byte : ℕ) (more : List ℕ) → BeginsNone from (byte ∷ more) → reading (byte ∷ more) ≡ 0xFFFD ∷ reading more

-- What was converted was read: n bytes, for which w bytes were written.
pub converted_on : (from to reading : List ℕ → List ℕ) (is_last : Bool) (bytes old new : List ℕ) (n w : ℕ) →
    IsReading from to reading → Converts from to bytes n w old new → ReadsOn reading is_last bytes n w old new
converted_on from to reading is_last bytes old new n w facts moves = (
  moves.0,
  moves.1.0,
  rw (facts.to_utf8 moves.0) at moves.2,
  (λ more may.
      let whole : bytes ++ more ≡ from moves.0 ++ (drop n bytes ++ more) =
      ap (λ bs. bs ++ more) (sym (take-append-drop n bytes)) ∙ append_assoc (take n bytes) (drop n bytes) more
      ∙ ap (λ bs. bs ++ (drop n bytes ++ more)) (sym moves.1.1) in
      ap reading whole ∙ facts.text moves.0 (drop n bytes ++ more) moves.1.0),
)

-- Two steps in a row are one. The first reads m bytes and writes w, and the second n and v.
pub read_on : (reading : List ℕ → List ℕ) (is_last : Bool) (bytes old mid new : List ℕ) (m w n v : ℕ) →
    ReadsOn reading is_last bytes m w old mid → ReadsOn reading is_last (drop m bytes) n v (drop w mid) new →
    ReadsOn reading is_last bytes (m + n) (w + v) old (take w mid ++ new)
read_on reading is_last bytes old mid new m w n v first second = (
  first.0 ++ second.0,
  joined_text first.0 second.0 first.1 second.1,
  rw (utf8_appends first.0 second.0) (joined_front (utf8 first.0) (utf8 second.0) w v old mid new first.2 second.2),
  (λ more may.
      first.3 more may ∙ ap (λ bs. first.0 ++ bs) (second.3 more may)
      ∙ sym (append_assoc first.0 second.0 (reading (drop n (drop m bytes) ++ more)))
      ∙ ap (λ bs. (first.0 ++ second.0) ++ reading (bs ++ more)) (sym (drop_more m n bytes))),
)

-- U+FFFD in UTF-8.
mark : utf8 (0xFFFD ∷ []) ≡ 0xEF ∷ 0xBF ∷ 0xBD ∷ []
unfolding utf8_of
mark = refl

-- One byte is replaced.
pub replaced_on : (from to reading : List ℕ → List ℕ) (is_last : Bool) (bytes old new : List ℕ) → IsReading from to reading →
    IsReplaced from is_last bytes → ((more : List ℕ) → MayFollow is_last more → BeginsNone from (bytes ++ more)) →
    new ≡ 0xEF ∷ 0xBF ∷ 0xBD ∷ drop 3 old → ReadsOn reading is_last bytes 1 3 old new
replaced_on from to reading is_last [] old new facts replaced never written = absurd (replaced.nonempty refl)
replaced_on from to reading is_last (byte ∷ bytes) old new facts replaced never written = (
  0xFFFD ∷ [],
  (inr (omega arith, omega arith), tt),
  (rw mark refl, rw mark written),
  (λ more may. facts.damage byte (bytes ++ more) (never more may)),
)

-- The state is one of four.
which : (state : State) →
    (state ≡ InputEmpty) ⊎ ((state ≡ Incomplete) ⊎ ((state ≡ OutputFull) ⊎ (state ≡ Malformed)))
which InputEmpty = inl refl
which Incomplete = inr (inl refl)
which OutputFull = inr (inr (inl refl))
which Malformed = inr (inr (inr refl))

-- What the strict call, `convert_rest`, says of what it left.
pub record IsLeft (from : List ℕ → List ℕ) (rest : List ℕ) (room : ℕ) (state : State) : Type 0 where
  pub input_empty : (state ≡ InputEmpty) ↔ (rest ≡ [])
  pub incomplete : (state ≡ Incomplete) ↔ IsPartial from rest
  pub malformed : (state ≡ Malformed) ↔ NeverBegins from rest
  pub output_full : (state ≡ OutputFull) ↔ BeginsLonger from utf8 rest room

-- If the strict call left no damage, the lossy call returns the state of the strict call. The next
-- three lemmas say that this state is right for the lossy call too.
kept_incomplete : (from : List ℕ → List ℕ) (is_last : Bool) (rest : List ℕ) (room : ℕ) (state : State) →
    IsLeft from rest room state → is_damage state is_last ≡ false → (state ≡ Incomplete) ↔ StaysForNext from is_last rest
kept_incomplete from is_last rest room state left kept = (
  (λ s. (subst (λ st. is_damage st is_last ≡ false) s kept, left.incomplete.0 s)),
  (λ stays. left.incomplete.1 stays.1),
)

kept_malformed : (is_last : Bool) (state : State) → is_damage state is_last ≡ false → state ≡ Malformed → ⊥
kept_malformed is_last state kept s = absurd (let e = subst (λ st. is_damage st is_last ≡ false) s kept in cc)

kept_full : (from : List ℕ → List ℕ) (is_last : Bool) (rest : List ℕ) (room : ℕ) (state : State) →
    IsLeft from rest room state → is_damage state is_last ≡ false →
    (state ≡ OutputFull) ↔ NextIsLonger from is_last rest room
kept_full from is_last rest room state left kept = ((λ s. inl (left.output_full.0 s)), back)
  where
    by : IsReplaced from is_last rest →
        (state ≡ InputEmpty) ⊎ ((state ≡ Incomplete) ⊎ ((state ≡ OutputFull) ⊎ (state ≡ Malformed))) → state ≡ OutputFull
    by replaced (inl s) = absurd (replaced.nonempty (left.input_empty.0 s))
    by replaced (inr (inl s)) =
        absurd (replaced.none_stays ((kept_incomplete from is_last rest room state left kept).0 s))
    by replaced (inr (inr (inl s))) = s
    by replaced (inr (inr (inr s))) = absurd (kept_malformed is_last state kept s)

    back : NextIsLonger from is_last rest room → state ≡ OutputFull
    back (inl longer) = left.output_full.1 longer
    back (inr replaced) = by replaced.0 (which state)

-- If the strict call left damage, no character begins there, whatever may follow. So the byte there
-- is replaced (`is_replaced`).
pub never_follows : (from : List ℕ → List ℕ) (is_last : Bool) (rest : List ℕ) (room : ℕ) (state : State) →
    IsLeft from rest room state → is_damage state is_last ≡ true → (more : List ℕ) → MayFollow is_last more →
    BeginsNone from (rest ++ more)
never_follows from is_last rest room state left damage more may = by (which state)
  where
    by : (state ≡ InputEmpty) ⊎ ((state ≡ Incomplete) ⊎ ((state ≡ OutputFull) ⊎ (state ≡ Malformed))) →
        BeginsNone from (rest ++ more)
    by (inl s) = absurd (let e = subst (λ st. is_damage st is_last ≡ true) s damage in cc)
    by (inr (inl s)) =
        let none = may (subst (λ st. is_damage st is_last ≡ true) s damage) in
        let same : rest ++ more ≡ rest = ap (λ bs. rest ++ bs) none ∙ append-nil rest in
        subst (λ bs. BeginsNone from bs) (sym same) (left.incomplete.0 s).none_begins
    by (inr (inr (inl s))) = absurd (let e = subst (λ st. is_damage st is_last ≡ true) s damage in cc)
    by (inr (inr (inr s))) = left.malformed.0 s more

pub is_replaced : (from : List ℕ → List ℕ) (is_last : Bool) (rest : List ℕ) (room : ℕ) (state : State) →
    IsLeft from rest room state → is_damage state is_last ≡ true → IsReplaced from is_last rest
is_replaced from is_last rest room state left damage = record {
  nonempty = (λ empty.
      absurd (let e = subst (λ st. is_damage st is_last ≡ true) (left.input_empty.1 empty) damage in cc));
  none_begins = subst (λ bs. BeginsNone from bs) (append-nil rest)
      (never_follows from is_last rest room state left damage [] (λ _. refl));
  none_stays = (λ stays.
      absurd (let e = subst (λ st. is_damage st is_last ≡ true) (left.incomplete.1 stays.1) damage in
      let is_false = stays.0 in cc));
}

-- What a strict call on the rest says, in terms of the whole input.
pub left_by : (from to : List ℕ → List ℕ) (widest : ℕ) (bytes old buf new : List ℕ) (m w : ℕ) (found : Progress) →
    ((t : List ℕ) → to t ≡ utf8 t) → length buf ≡ length old →
    ConvertsPiece from to widest (drop m bytes) found (drop w buf) new →
    IsLeft from (drop (m + found.read) bytes) (length old - (w + found.written)) found.state
left_by from to widest bytes old buf new m w found to_utf8 same piece =
    let room : length (drop w buf) - found.written ≡ length old - (w + found.written) = grind (arith, common_steps) in
    let after = drop_more m found.read bytes in
    let inside = piece.within in
    record {
      input_empty = (
        (λ s. let all = piece.input_empty.0 s in none_left (found.read) (drop m bytes) after all),
        (λ none. piece.input_empty.1 (let e = ap length (sym after ∙ none) in grind (arith, common_steps))),
      );
      incomplete = rw after piece.incomplete;
      malformed = rw after piece.malformed;
      output_full = rw (after, sym room) (
        (λ s. let b = piece.output_full.0 s in (b.0, b.1, rw (sym (to_utf8 (b.0 ∷ []))) b.2)),
        (λ b. piece.output_full.1 (b.0, b.1, rw (to_utf8 (b.0 ∷ [])) b.2)),
      );
    }
  where
    none_left : (n : ℕ) (bs : List ℕ) → drop (m + found.read) bytes ≡ drop n bs → n ≡ length bs → drop (m + found.read) bytes ≡ []
    none_left n bs is all = is ∙ ap (λ k. drop k bs) all ∙ grind (arith, common_steps)

-- If a strict call on the rest follows what was read so far, `ReadsOn` holds for both together.
pub reads_by : (from to reading : List ℕ → List ℕ) (widest : ℕ) (is_last : Bool) (bytes old buf new : List ℕ) (m w : ℕ)
    (found : Progress) → IsReading from to reading → ReadsOn reading is_last bytes m w old buf →
    ConvertsPiece from to widest (drop m bytes) found (drop w buf) new →
    ReadsOn reading is_last bytes (m + found.read) (w + found.written) old (take w buf ++ new)
reads_by from to reading widest is_last bytes old buf new m w found facts reads piece =
    read_on reading is_last bytes old buf new m w found.read found.written reads
    (converted_on from to reading is_last (drop m bytes) (drop w buf) new found.read found.written facts piece.text)

-- What reads nothing writes nothing.
nothing_read : (reading : List ℕ → List ℕ) (is_last : Bool) (bytes old new : List ℕ) (n w : ℕ) → n ≡ 0 →
    ReadsOn reading is_last bytes n w old new → w ≡ 0
nothing_read reading is_last bytes old new n w zero reads =
    let e : reading (bytes ++ []) ≡ reads.0 ++ reading (bytes ++ []) =
    reads.3 [] (λ _. refl) ∙ ap (λ k. reads.0 ++ reading (drop k bytes ++ [])) zero in
    let n : length (reading (bytes ++ [])) ≡ length reads.0 + length (reading (bytes ++ [])) =
    ap length e ∙ length-append reads.0 (reading (bytes ++ [])) in
    by reads.0 (omega arith) (reads.2.0)
  where
    by : (text : List ℕ) → length text ≡ 0 → w ≡ length (utf8 text) → w ≡ 0
    by [] none is = is
    by (c ∷ text) none is = absurd (omega arith)

-- So with space for four bytes, a full buffer means that something was read.
progress : (from reading : List ℕ → List ℕ) (is_last : Bool) (bytes old new : List ℕ) (n w : ℕ) →
    ReadsOn reading is_last bytes n w old new → NextIsLonger from is_last (drop n bytes) (length old - w) → 4 ≤ length old →
    0 < n
progress from reading is_last bytes old new n w reads longer room = by (cases_lt 0 n) longer
  where
    by : (0 < n) ⊎ (n ≤ 0) → NextIsLonger from is_last (drop n bytes) (length old - w) → 0 < n
    by (inl some) longer = some
    by (inr none) (inl b) =
        let w_zero = nothing_read reading is_last bytes old new n w (omega arith) reads in
        let few = utf8_few b.0 in
        let long = b.2 in
        absurd (omega arith)
    by (inr none) (inr replaced) =
        let w_zero = nothing_read reading is_last bytes old new n w (omega arith) reads in
        let long = replaced.1 in
        absurd (omega arith)

-- A write from one place to the end keeps the length.
pub same_length : (w : ℕ) (buf new old : List ℕ) → length new ≡ length (drop w buf) → length buf ≡ length old →
    length (take w buf ++ new) ≡ length old
same_length w buf new old long same = grind (arith, common_steps)

-- How far an iteration of the loop came by a strict call on the rest: what was read, and what the
-- call left.
pub record IsFound (from reading : List ℕ → List ℕ) (is_last : Bool) (bytes old new : List ℕ) (n w : ℕ) (state : State) : Type 0 where
  pub within : n ≤ length bytes
  pub reads : ReadsOn reading is_last bytes n w old new
  pub left : IsLeft from (drop n bytes) (length old - w) state
  pub few : state ≡ Incomplete → length bytes ≤ n + 5
  pub same : length new ≡ length old

-- `IsFound` holds after the strict call of an iteration.
pub found_by : (from to reading : List ℕ → List ℕ) (widest : ℕ) (is_last : Bool) (bytes old buf new : List ℕ) (m w : ℕ)
    (found : Progress) → IsReading from to reading → m ≤ length bytes → length buf ≡ length old →
    ReadsOn reading is_last bytes m w old buf → length new ≡ length (take (length buf - w) (drop w buf)) →
    ConvertsPiece from to widest (take (length bytes - m) (drop m bytes)) found (take (length buf - w) (drop w buf)) new →
    IsFound from reading is_last bytes old (put_mid w (length buf - w) buf new) (m + found.read) (w + found.written) found.state
found_by from to reading widest is_last bytes old buf new m w found facts within same reads long call =
    let piece : ConvertsPiece from to widest (drop m bytes) found (drop w buf) new = rw (take_rest, take_rest) at call in
    let inside = piece.within in
    let rest : length (drop m bytes) ≡ length bytes - m = length-drop m bytes in
    rw (to_end w buf new) (record {
      within = omega arith;
      reads = reads_by from to reading widest is_last bytes old buf new m w found facts reads piece;
      left = left_by from to widest bytes old buf new m w found facts.to_utf8 same piece;
      few = (λ s. let few = piece.few_left s in omega arith);
      same = same_length w buf new old (rw take_rest at long) same;
    })

-- If the strict call left no damage, the lossy call ends with that state, and its contract holds.
pub stopped : (from reading : List ℕ → List ℕ) (is_last : Bool) (bytes old new : List ℕ) (n w : ℕ) (state : State) →
    IsFound from reading is_last bytes old new n w state → is_damage state is_last ≡ false →
    DecodesPiece from reading is_last bytes (record { read = n; written = w; state = state }) old new
stopped from reading is_last bytes old new n w state found kept =
    let rest = drop n bytes in
    let room = length old - w in
    let left = found.left in
    let within = found.within in
    let full = kept_full from is_last rest room state left kept in
    record {
      text = found.reads;
      within = within;
      input_empty = (
        (λ s. let none = ap length (left.input_empty.0 s) in grind (arith, common_steps)),
        (λ all. left.input_empty.1 (grind (arith, common_steps))),
      );
      incomplete = kept_incomplete from is_last rest room state left kept;
      output_full = full;
      malformed = kept_malformed is_last state kept;
      few_left = found.few;
      progress = (λ space s. progress from reading is_last bytes old new n w found.reads (full.0 s) space);
    }

-- If U+FFFD does not fit, the lossy call ends with `OutputFull`, and its contract holds.
pub filled : (from reading : List ℕ → List ℕ) (is_last : Bool) (bytes old buf after : List ℕ) (n w : ℕ) (state : State) →
    IsFound from reading is_last bytes old buf n w state → is_damage state is_last ≡ true →
    length (take (length buf - w) (drop w buf)) < 3 → after ≡ take (length buf - w) (drop w buf) →
    DecodesPiece from reading is_last bytes (record { read = n; written = w; state = OutputFull }) old (put_mid w (length buf - w) buf after)
filled from reading is_last bytes old buf after n w state found damage short unchanged =
    let rest = drop n bytes in
    let room = length old - w in
    let within = found.within in
    let replaced = is_replaced from is_last rest room state found.left damage in
    let few : length (drop w buf) < 3 = rw take_rest at short in
    let same = found.same in
    let left : length (drop w buf) ≡ length buf - w = length-drop w buf in
    let longer : NextIsLonger from is_last rest room = inr (replaced, omega arith) in
    let end : after ≡ drop w buf = rw take_rest at unchanged in
    let is : put_mid w (length buf - w) buf after ≡ buf =
    to_end w buf after ∙ ap (λ bs. take w buf ++ bs) end ∙ take-append-drop w buf in
    rw is (record {
      text = found.reads;
      within = within;
      input_empty = (
        (λ s. absurd (let e = s in cc)),
        (λ all. absurd (replaced.nonempty (let e : n ≡ length bytes = all in grind (arith, common_steps)))),
      );
      incomplete = ((λ s. absurd (let e = s in cc)), (λ stays. absurd (replaced.none_stays stays)));
      output_full = ((λ _. longer), (λ _. refl));
      malformed = (λ s. absurd (let e = s in cc));
      few_left = (λ s. absurd (let e = s in cc));
      progress = (λ space s. progress from reading is_last bytes old buf n w found.reads longer space);
    })

-- What is replaced has a byte.
pub one_left : (from : List ℕ → List ℕ) (is_last : Bool) (bytes : List ℕ) (n : ℕ) → IsReplaced from is_last (drop n bytes) →
    n + 1 ≤ length bytes
one_left from is_last bytes n replaced = by (cases_lt n (length bytes))
  where
    by : (n < length bytes) ⊎ (length bytes ≤ n) → n + 1 ≤ length bytes
    by (inl less) = omega arith
    by (inr all) = absurd (replaced.nonempty (grind (arith, common_steps)))

-- If U+FFFD was written, one byte more is read, and three more are written.
pub replaces : (from to reading : List ℕ → List ℕ) (is_last : Bool) (bytes old buf after : List ℕ) (n w : ℕ) (state : State) →
    IsReading from to reading → IsFound from reading is_last bytes old buf n w state → is_damage state is_last ≡ true →
    after ≡ 0xEF ∷ 0xBF ∷ 0xBD ∷ drop 3 (take (length buf - w) (drop w buf)) →
    (n + 1 ≤ length bytes) × ReadsOn reading is_last bytes (n + 1) (w + 3) old (put_mid w (length buf - w) buf after)
replaces from to reading is_last bytes old buf after n w state facts found damage written =
    let rest = drop n bytes in
    let room = length old - w in
    let replaced = is_replaced from is_last rest room state found.left damage in
    let never = never_follows from is_last rest room state found.left damage in
    let step = replaced_on from to reading is_last rest (drop w buf) after facts replaced never (rw take_rest at written) in (
      one_left from is_last bytes n replaced,
      rw (to_end w buf after) (read_on reading is_last bytes old buf after n w 1 3 found.reads step),
    )
