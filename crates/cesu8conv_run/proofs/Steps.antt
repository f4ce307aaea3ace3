-- Each kind of step keeps the promise `IsStep`: a call of `cesu8_stream`, UTF-8 that is passed
-- through, a step that reads nothing, and one that replaces a byte. "Mixed" text has each character
-- in the encoding or in UTF-8 (`IsMixed`). The proofs of `step.rt` cite these lemmas. `Around`,
-- `Places` and `HasGreedyCutting` are laws of `simd_cesu8`, which `step.rt` gets from calls of
-- `laws`.
use Rattle.std.proofs.Common.{◌≡◌, ◌≢◌, ℕ, ◌+◌, ◌<◌, ◌≤◌, Bool, true, false, List, [], ◌∷◌, ◌++◌, length, take, drop, refl, sym, ap, ◌∙◌, inl, inr, arith, length-take, length-append}
use Rattle.std.proofs.lemmas.List.{append-nil, take-append-drop, take-take, drop-take, drop_all, take_at}
use Rattle.std.specs.Str.{chars, IsUtf8}
use Rattle.simd_cesu8.specs.Text.{utf8, utf8_of}
use Rattle.simd_cesu8.specs.Encoding.{Flavor, encoding}
use Rattle.simd_cesu8.specs.Reading.{IsStrictReading, reading}
use Rattle.simd_cesu8.specs.Cutting as cutting
use Rattle.simd_cesu8.specs.Laws.{Around, Places, HasGreedyCutting}
use Rattle.simd_cesu8.specs.Slices.{StandsAtFront}
use Rattle.simd_cesu8.proofs.StdUtf8.{IsUtf8Of_chars}
use Rattle.cesu8_stream.specs.Written.{IsWritten, BeginsNone, NeverBegins, IsPartial}
use Rattle.cesu8_stream.specs.Streams.{ConvertsPiece}
use Rattle.cesu8_stream.specs.declared.progress.Progress.{Progress}
use Rattle.cesu8_stream.specs.declared.progress.State.{State}
use Rattle.cesu8_stream.specs.declared.progress.State.TheVariants as states
use Rattle.cesu8conv_run.specs.Conversion.{flavor_of, Part, Encoded, InUtf8, Replaced, IsPart, AreParts, IsMixed, MayFollow, IsTextOf, written_as, Converts, IsDamage, IsDamagedAhead}
use Rattle.cesu8conv_run.specs.Steps.{IsStep, next_after, IsAfter, Replaces}
use Rattle.cesu8conv_run.proofs.Joined.{converts-nil}
use Rattle.cesu8conv_run.specs.declared.conversion.FlavorWord.{FlavorWord}
use Rattle.cesu8conv_run.specs.declared.conversion.Conversion.{Conversion}
use Rattle.cesu8conv_run.specs.declared.conversion.Conversion.TheVariants.{Decode, Lossy, Mixed, MixedLossy}
use Rattle.cesu8conv_run.specs.declared.step.Step.{Step}
use Rattle.cesu8conv_run.specs.declared.step.Next.{Next}
use Rattle.cesu8conv_run.specs.declared.step.Next.TheVariants as next

-- The first m bytes and the n after them are the first m + n.
pub take_sum : (m n : ℕ) (xs : List ℕ) → take (m + n) xs ≡ take m xs ++ take n (drop m xs)
take_sum m n xs =
    let within : m ≤ m + n = omega arith in
    sym (take-append-drop m (take (m + n) xs)) ∙ ap (λ y. y ++ drop m (take (m + n) xs)) (take-take m (m + n) xs within)
    ∙ ap (λ y. take m xs ++ y) (drop-take m n xs)

-- The lossy reading of an encoded text and more is the text and the reading of the rest.
pub reading-of-encoded : Around → (f : Flavor) (bytes text rest : List ℕ) → IsStrictReading f bytes text →
    reading f (bytes ++ rest) ≡ text ++ reading f rest
unfolding encoding
reading-of-encoded around f bytes text rest h =
    ap (λ x. reading f (x ++ rest)) (sym h.1) ∙ ap (λ x. reading f x) (sym (append-nil (encoding f text ++ rest)))
    ∙ around f text rest [] h.0 tt ∙ append-nil (text ++ reading f rest)

-- A strict conversion is also a lossy one.
pub lossy-of-decoded : Around → (w : FlavorWord) (is_last : Bool) (a ahead x : List ℕ) → Converts (Decode w) is_last a ahead x →
    Converts (Lossy w) is_last a ahead x
lossy-of-decoded around w is_last a ahead x h = record {
  text = h.text;
  is_text = λ more follows. reading-of-encoded around (flavor_of w) a h.text (ahead ++ more) h.is_text;
  written_is = h.written_is;
}

-- An encoded text is mixed text with one part.
pub encoded-is-mixed : (replaces : Bool) (f : Flavor) (bytes text : List ℕ) → IsStrictReading f bytes text →
    IsMixed replaces f bytes text
encoded-is-mixed replaces f bytes text h = record {
  parts = Encoded text ∷ [];
  are_parts = (h.0, tt);
  bytes_are = append-nil (encoding f text) ∙ h.1;
  text_is = append-nil text;
}

-- UTF-8 is mixed text with one part.
pub utf8-is-mixed : (replaces : Bool) (f : Flavor) (bytes : List ℕ) → IsUtf8 bytes → IsMixed replaces f bytes (chars bytes)
utf8-is-mixed replaces f bytes h =
    let of = IsUtf8Of_chars bytes h in
    record {
      parts = InUtf8 (chars bytes) ∷ [];
      are_parts = (of.0, tt);
      bytes_are = append-nil (utf8 (chars bytes)) ∙ of.1;
      text_is = append-nil (chars bytes);
    }

-- A replaced byte is mixed text with one part.
pub replaced-is-mixed : (f : Flavor) (byte : ℕ) → IsMixed true f (byte ∷ []) (0xFFFD ∷ [])
replaced-is-mixed f byte = record {
  parts = Replaced byte ∷ [];
  are_parts = (tt, tt);
  bytes_are = refl;
  text_is = refl;
}

-- The strict conditions of a part imply those of mixed text in which bytes may be replaced.
pub part-may-be-replaced : (part : Part) → IsPart false part → IsPart true part
part-may-be-replaced (Encoded text) h = h
part-may-be-replaced (InUtf8 text) h = h
part-may-be-replaced (Replaced byte) h = tt

-- The strict conditions of all parts imply those of mixed text in which bytes may be replaced.
pub parts-may-be-replaced : (parts : List Part) → AreParts false parts → AreParts true parts
parts-may-be-replaced [] h = tt
parts-may-be-replaced (part ∷ parts) h = (part-may-be-replaced part h.0, parts-may-be-replaced parts h.1)

-- A strict conversion is also a conversion of mixed text.
pub mixed-of-decoded : (w : FlavorWord) (is_last : Bool) (a ahead x : List ℕ) → Converts (Decode w) is_last a ahead x →
    Converts (Mixed w) is_last a ahead x
mixed-of-decoded w is_last a ahead x h = record {
  text = h.text;
  is_text = encoded-is-mixed false (flavor_of w) a h.text h.is_text;
  written_is = h.written_is;
}

-- Mixed text without replaced bytes is also mixed text in which bytes may be replaced.
pub mixed-may-be-replaced : (f : Flavor) (bytes text : List ℕ) → IsMixed false f bytes text → IsMixed true f bytes text
mixed-may-be-replaced f bytes text h = record {
  parts = h.parts;
  are_parts = parts-may-be-replaced h.parts h.are_parts;
  bytes_are = h.bytes_are;
  text_is = h.text_is;
}

-- A conversion of mixed text is also one that may replace bytes.
pub mixed-lossy-of-mixed : (w : FlavorWord) (is_last : Bool) (a ahead x : List ℕ) → Converts (Mixed w) is_last a ahead x →
    Converts (MixedLossy w) is_last a ahead x
mixed-lossy-of-mixed w is_last a ahead x h = record {
  text = h.text;
  is_text = mixed-may-be-replaced (flavor_of w) a h.text h.is_text;
  written_is = h.written_is;
}

-- A step that decodes is a mixed step. Its damage is also damage of mixed text, since for that too
-- `IsDamage` says only that no character of the encoding begins there. That none of UTF-8 begins
-- there is not proved: `pass_step` tests it before it decodes.
pub mixed-step-of-decoded : (w : FlavorWord) (bytes : List ℕ) (is_last : Bool) (room : List ℕ) (step : Step) →
    IsStep (Decode w) bytes is_last room step → IsStep (Mixed w) bytes is_last room step
mixed-step-of-decoded w bytes is_last room step h = record {
  within = h.within;
  fits = h.fits;
  converts = mixed-of-decoded w is_last _ _ _ h.converts;
  all = h.all;
  left = h.left;
  damage = h.damage;
}

-- The first `len` bytes of the buffer are what was written.
pub written-front : (answer old new : List ℕ) (len : ℕ) → StandsAtFront answer len old new →
    (len ≤ length new) × (take len new ≡ answer)
written-front answer old new len h =
    let all : length new ≡ length answer + length (drop len old) = ap length h.1 ∙ length-append answer (drop len old) in
    (omega (arith, h.0, all), ap (λ y. take len y) h.1 ∙ take_at answer (drop len old) len (sym h.0))

-- At the end of the input, only a call that read all bytes asks for more.
pub all-were-read : (state : State) (is_last : Bool) → next_after state is_last ≡ next.Input → is_last ≡ true →
    state ≡ states.InputEmpty
all-were-read states.InputEmpty is_last e l = refl
all-were-read states.OutputFull is_last e l = cc
all-were-read states.Incomplete true e l = cc
all-were-read states.Incomplete false e l = cc
all-were-read states.Malformed is_last e l = cc

-- A call that read all bytes does not stop.
pub some-are-left : (state : State) (is_last : Bool) → next_after state is_last ≡ next.Stop → state ≢ states.InputEmpty
some-are-left states.InputEmpty is_last e = λ same. cc
some-are-left states.OutputFull is_last e = λ same. cc
some-are-left states.Incomplete is_last e = λ same. cc
some-are-left states.Malformed is_last e = λ same. cc

-- If a call stops, no character begins at the next byte, whatever follows.
pub none-begins-ahead : (from : List ℕ → List ℕ) (rest : List ℕ) (state : State) (is_last : Bool) →
    (state ≡ states.Incomplete → IsPartial from rest) → (state ≡ states.Malformed → NeverBegins from rest) →
    next_after state is_last ≡ next.Stop → (more : List ℕ) → MayFollow is_last more → BeginsNone from (rest ++ more)
none-begins-ahead from rest states.InputEmpty is_last partial never e more follows = cc
none-begins-ahead from rest states.OutputFull is_last partial never e more follows = cc
none-begins-ahead from rest states.Incomplete true partial never e more follows =
    rw (follows, append-nil rest) (partial refl).none_begins
none-begins-ahead from rest states.Incomplete false partial never e more follows = cc
none-begins-ahead from rest states.Malformed is_last partial never e more follows = never refl more

-- A call of `cesu8_stream` is a step of a conversion. `from` and `to` are its two ways of writing:
-- they map a text to the bytes that are read and to those that are written.
pub converted-step : (c : Conversion) (from to : List ℕ → List ℕ) (widest : ℕ) (bytes : List ℕ) (is_last : Bool) (old new : List ℕ)
    (p : Progress) (step : Step) →
    ((taken ahead text : List ℕ) → IsWritten from taken text → IsTextOf c is_last taken ahead text) →
    ((text : List ℕ) → to text ≡ written_as c text) → ((rest : List ℕ) → BeginsNone from rest → IsDamage c rest) →
    ConvertsPiece from to widest bytes p old new → IsAfter p is_last step → IsStep c bytes is_last new step
converted-step c from to widest bytes is_last old new p step text_of to_is damage_of h a =
    let front = written-front (to h.text.0) old new p.written h.text.2 in
    record {
      within = rw a.0 h.within;
      fits = rw a.1 front.0;
      converts = rw (a.0, a.1) (record {
        text = h.text.0;
        is_text = text_of _ _ h.text.0 h.text.1;
        written_is = front.1 ∙ to_is h.text.0;
      });
      all = λ n l.
          let empty : p.read ≡ length bytes = h.input_empty.0 (all-were-read p.state is_last (sym a.2 ∙ n) l) in
          rw a.0 (drop_all p.read bytes (omega arith));
      left = λ n.
          let some : p.read ≢ length bytes = λ e. some-are-left p.state is_last (sym a.2 ∙ n) (h.input_empty.1 e) in
          let within : p.read ≤ length bytes = h.within in
          rw a.0 (omega arith);
      damage = λ n. rw a.0 (λ more follows. damage_of _ (none-begins-ahead from (drop p.read bytes) p.state is_last h.incomplete.0
          h.malformed.0 (sym a.2 ∙ n) more follows));
    }

-- A call that decodes only a prefix of the bytes is a step of the mixed conversion.
pub front-step : (w : FlavorWord) (bytes : List ℕ) (is_last : Bool) (len widest : ℕ) (old new : List ℕ) (p : Progress) →
    ConvertsPiece (encoding (flavor_of w)) utf8 widest (take len bytes) p old new →
    IsStep (Mixed w) bytes is_last new (record { read = p.read; written = p.written; replaced = 0; next = next.Step })
front-step w bytes is_last len widest old new p h =
    let front = written-front (utf8 h.text.0) old new p.written h.text.2 in
    let within : p.read ≤ length (take len bytes) = h.within in
    let before : p.read ≤ len = omega (arith, length-take len bytes) in
    record {
      within = omega (arith, length-take len bytes);
      fits = front.0;
      converts = record {
        text = h.text.0;
        is_text = encoded-is-mixed false (flavor_of w) (take p.read bytes) h.text.0
            (h.text.1.0, h.text.1.1 ∙ take-take p.read len bytes before);
        written_is = front.1;
      };
      all = λ n l. cc;
      left = λ n. cc;
      damage = λ n. cc;
    }

-- Copying UTF-8 at the start of the bytes is a step of the mixed conversion.
pub passed-step : (w : FlavorWord) (bytes : List ℕ) (is_last : Bool) (room : List ℕ) (len : ℕ) → len ≤ length bytes →
    len ≤ length room → IsUtf8 (take len bytes) → take len room ≡ take len bytes →
    IsStep (Mixed w) bytes is_last room (record { read = len; written = len; replaced = 0; next = next.Step })
passed-step w bytes is_last room len within fits u same = record {
  within = within;
  fits = fits;
  converts = record {
    text = chars (take len bytes);
    is_text = utf8-is-mixed false (flavor_of w) (take len bytes) u;
    written_is = same ∙ sym (IsUtf8Of_chars (take len bytes) u).1;
  };
  all = λ n l. cc;
  left = λ n. cc;
  damage = λ n. cc;
}

-- A step that reads and writes nothing keeps the promise if it does not stop, and needs more input
-- only before the end.
pub nothing-step : (c : Conversion) (bytes : List ℕ) (is_last : Bool) (room : List ℕ) (step : Step) (after : Next) →
    step.read ≡ 0 → step.written ≡ 0 → step.next ≡ after → (after ≡ next.Input → is_last ≡ false) → after ≢ next.Stop →
    IsStep c bytes is_last room step
nothing-step c bytes is_last room step after r w n more never = record {
  within = omega arith;
  fits = omega arith;
  converts = rw (r, w) (converts-nil c is_last bytes);
  all = λ e l. let no : is_last ≡ false = more (sym n ∙ e) in cc;
  left = λ e. absurd (never (sym n ∙ e));
  damage = λ e. absurd (never (sym n ∙ e));
}

-- U+FFFD in UTF-8.
pub utf8-of-replacement : utf8 (0xFFFD ∷ []) ≡ 0xEF ∷ 0xBF ∷ 0xBD ∷ []
unfolding utf8_of
utf8-of-replacement = refl

-- The lossy reading of a byte at which no character begins, and more, is U+FFFD and the reading of
-- the rest.
pub reading-of-damage : Places → HasGreedyCutting → (f : Flavor) (byte : ℕ) (rest : List ℕ) →
    BeginsNone (encoding f) (byte ∷ rest) → reading f (byte ∷ rest) ≡ 0xFFFD ∷ reading f rest
reading-of-damage places has f byte rest none =
    let cut = has f rest in
    let same : cutting.bytes_of f cut.0 ≡ rest = cut.1.1 in
    sym (places f (byte ∷ rest) (cutting.Replaced byte ∷ cut.0) ((tt, cut.1.0), ap (λ x. byte ∷ x) same)
    (rw same (λ c more begins. none c (record { scalar = begins.scalar; rest = more; bytes_are = begins.bytes_are })), cut.2))
    ∙ ap (λ x. 0xFFFD ∷ x) (places f rest cut.0 cut.1 cut.2)

-- Replacing a damaged byte by U+FFFD is a lossy conversion of this byte.
pub lossy-replaces : Places → HasGreedyCutting → (w : FlavorWord) (is_last : Bool) (byte : ℕ) (rest : List ℕ) →
    IsDamagedAhead (Decode w) is_last (byte ∷ rest) →
    Converts (Lossy w) is_last (byte ∷ []) rest (0xEF ∷ 0xBF ∷ 0xBD ∷ [])
lossy-replaces places has w is_last byte rest damage = record {
  text = 0xFFFD ∷ [];
  is_text = λ more follows. reading-of-damage places has (flavor_of w) byte (rest ++ more) (damage more follows);
  written_is = sym utf8-of-replacement;
}

-- Replacing a damaged byte by U+FFFD is also a conversion of mixed text that may replace bytes.
pub mixed-replaces : (w : FlavorWord) (is_last : Bool) (byte : ℕ) (rest : List ℕ) →
    IsDamagedAhead (Mixed w) is_last (byte ∷ rest) →
    Converts (MixedLossy w) is_last (byte ∷ []) rest (0xEF ∷ 0xBF ∷ 0xBD ∷ [])
mixed-replaces w is_last byte rest damage = record {
  text = 0xFFFD ∷ [];
  is_text = replaced-is-mixed (flavor_of w) byte;
  written_is = sym utf8-of-replacement;
}

-- If the conversion `d` replaces each byte at which damage for `c` begins, it replaces the first of
-- any bytes that begin with damage for `c`.
pub first-replaced : (c d : Conversion) (bytes : List ℕ) (is_last : Bool) → ((byte : ℕ) (rest : List ℕ) →
    IsDamagedAhead c is_last (byte ∷ rest) → Converts d is_last (byte ∷ []) rest (0xEF ∷ 0xBF ∷ 0xBD ∷ [])) →
    0 < length bytes → IsDamagedAhead c is_last bytes →
    Converts d is_last (take 1 bytes) (drop 1 bytes) (0xEF ∷ 0xBF ∷ 0xBD ∷ [])
first-replaced c d [] is_last replaces some damage = absurd (omega arith)
first-replaced c d (byte ∷ rest) is_last replaces some damage = replaces byte rest damage

-- A step of a conversion `c` that stops at damage becomes one of the conversion `d` that replaces
-- it, by the function `replace` in step.rt.
pub replaced-step : (c d : Conversion) (bytes : List ℕ) (is_last : Bool) (old new : List ℕ) (step result : Step) →
    ((taken ahead x : List ℕ) → Converts c is_last taken ahead x → Converts d is_last taken ahead x) →
    ((byte : ℕ) (rest : List ℕ) → IsDamagedAhead c is_last (byte ∷ rest) →
    Converts d is_last (byte ∷ []) rest (0xEF ∷ 0xBF ∷ 0xBD ∷ [])) →
    IsStep c bytes is_last old step → Replaces step old new result → IsStep d bytes is_last new result
replaced-step c d bytes is_last old new step result converts replaces h r = elim r [
  | inl g ↦ record {
    within = rw g.read h.within;
    fits = rw (g.written, g.room) h.fits;
    converts = rw (g.read, g.written, g.room) (converts _ _ _ h.converts);
    all = λ n l. rw g.read (h.all (g.needs_input n) l);
    left = λ n. absurd (g.never_stops n);
    damage = λ n. absurd (g.never_stops n);
  }
  | inr e ↦
      let left : step.read < length bytes = h.left e.stops in
      let some : 0 < length bytes = omega arith in
      let damage : IsDamagedAhead c is_last bytes = rw e.nothing_read at (h.damage e.stops) in
      let is_next = e.next_is in
      record {
        within = rw e.one_read some;
        fits = rw e.three_written e.fits;
        converts = rw (e.one_read, e.three_written, e.replacement) (first-replaced c d bytes is_last replaces some damage);
        all = λ n l. cc;
        left = λ n. cc;
        damage = λ n. cc;
      }
]
