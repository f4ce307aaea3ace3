-- The conversion of a whole stream, one piece after the other. `r0`, `r1` and `r2` are what the
-- reader has left, and `w0`, `w1` and `w2` what the writer holds, at successive points. They are
-- `None` if that is not known. `taken` is the input that was converted so far. `ahead` and `piece`
-- are the bytes in the window that are not converted yet, of which there are `unread`. That the
-- encoding of a concatenation is the concatenation of the encodings (`Concat`) is a premise, which
-- the caller has from a law of `simd_cesu8`.
use Rattle.std.proofs.Common.{◌≡◌, ℕ, ◌+◌, ◌-◌, ◌≤◌, Bool, true, false, List, [], ◌++◌, length, take, drop, refl, sym, ap, ◌∙◌, append_assoc, arith, length-drop, length-append, Some, None}
use Rattle.std.specs.Prelude.{Option, IfSome}
use Rattle.std.specs.List.{copy_within}
use Rattle.std.specs.Io.KnownBytes.{Appends, Consumes, IsAtEnd}
use Rattle.std.proofs.KnownBytes.{Appends-nil, Appends-trans, Consumes-nil, Consumes-trans}
use Rattle.std.proofs.lemmas.List.{append-nil, take-append-drop, drop-take, take_at, drop_at, take_rest, length-take-le}
use Rattle.std.proofs.lemmas.List.Edits.{take-paste}
use Rattle.simd_cesu8.specs.Laws.{Concat}
use Rattle.cesu8conv_run.specs.Conversion.{Converts, MayFollow, IsDamagedAhead}
use Rattle.cesu8conv_run.specs.Stream.{WritesOutput, StopsAt, WritesSome, IsSoFar, ReadsMore, TakesPiece, BreaksPiece}
use Rattle.cesu8conv_run.proofs.Joined.{converts-append, converts-nil, converts-read, output-of-all, output-to-damage}
use Rattle.cesu8conv_run.specs.declared.conversion.Conversion.{Conversion}

-- If the whole is what was written and a rest, it is also what was written, the next n bytes of the
-- rest, and the bytes after these.
pub whole-after : (whole written rest : List ℕ) (n : ℕ) → whole ≡ written ++ rest →
    whole ≡ (written ++ take n rest) ++ take (length rest - n) (drop n rest)
whole-after whole written rest n e =
    e ∙ ap (λ bs. written ++ bs) (sym (ap (λ bs. take n rest ++ bs) (take_rest rest n) ∙ take-append-drop n rest))
    ∙ sym (append_assoc written (take n rest) (take (length rest - n) (drop n rest)))

-- Before the first round nothing was taken.
pub nothing-so-far : (c : Conversion) (r w : Option (List ℕ)) → IsSoFar c false r r w w [] 0
nothing-so-far c r w = record {
  taken = [];
  output = [];
  counted = refl;
  consumed = Consumes-nil r;
  ends = λ e. cc;
  converts = converts-nil c false [];
  appended = Appends-nil w;
}

-- After a read, the piece in the window is what was unread and what was read.
pub read-so-far : (c : Conversion) (is_last : Bool) (r0 r1 r2 w0 w1 : Option (List ℕ)) (old new : List ℕ) (unread end offset : ℕ) →
    ReadsMore unread end r1 r2 old new → (is_last ≡ true → end ≡ unread) →
    IsSoFar c false r0 r1 w0 w1 (take unread old) offset → IsSoFar c is_last r0 r2 w0 w1 (take end new) offset
read-so-far c is_last r0 r1 r2 w0 w1 old new unread end offset k none h = record {
  taken = h.taken;
  output = h.output;
  counted = h.counted;
  consumed = rw (k.piece_is, ← append_assoc h.taken (take unread old) k.got)
      (Consumes-trans r0 r1 r2 (h.taken ++ take unread old) k.got h.consumed k.consumed);
  ends = λ last. k.ends (none last);
  converts = rw k.piece_is (converts-read c is_last h.taken (take unread old) k.got h.output h.converts);
  appended = h.appended;
}

-- The input that was read consists of the bytes up to an offset of the piece, and those from there
-- on.
consumes-split : (r0 r1 : Option (List ℕ)) (taken piece : List ℕ) (read : ℕ) → Consumes r0 r1 (taken ++ piece) →
    Consumes r0 r1 ((taken ++ take read piece) ++ drop read piece)
consumes-split r0 r1 taken piece read h = rw (append_assoc taken (take read piece) (drop read piece), take-append-drop read piece) h

-- If a part of the piece is converted after what was converted so far, both are converted together.
piece-joined : Concat → (c : Conversion) (is_last : Bool) (taken piece output x : List ℕ) (read : ℕ) →
    Converts c is_last taken piece output → Converts c is_last (take read piece) (drop read piece) x →
    Converts c is_last (taken ++ take read piece) (drop read piece) (output ++ x)
piece-joined concat c is_last taken piece output x read before h =
    converts-append concat c is_last taken (take read piece) (drop read piece) output x
    (rw (take-append-drop read piece) before) h

-- After a step that takes `read` bytes of the piece, these are taken too.
pub piece-so-far : Concat → (c : Conversion) (is_last : Bool) (r0 r1 w0 w1 w2 : Option (List ℕ)) (piece : List ℕ) (offset read : ℕ) →
    TakesPiece c piece is_last read w1 w2 → IsSoFar c is_last r0 r1 w0 w1 piece offset →
    IsSoFar c is_last r0 r1 w0 w2 (drop read piece) (offset + read)
piece-so-far concat c is_last r0 r1 w0 w1 w2 piece offset read k h = record {
  taken = h.taken ++ take read piece;
  output = h.output ++ k.output;
  counted = length-append h.taken (take read piece) ∙ ap (λ n. n + length (take read piece)) h.counted
      ∙ ap (λ n. offset + n) (length-take-le read piece k.within);
  consumed = consumes-split r0 r1 h.taken piece read h.consumed;
  ends = h.ends;
  converts = piece-joined concat c is_last h.taken piece h.output k.output read h.converts k.converts;
  appended = Appends-trans w0 w1 w2 h.output k.output h.appended k.appended;
}

-- What was converted with `ahead` known to follow is also right with all of the rest known.
converts-known : (c : Conversion) (is_last : Bool) (a ahead rest x : List ℕ) → (is_last ≡ true → rest ≡ []) →
    Converts c is_last a ahead x → Converts c true a (ahead ++ rest) x
converts-known c true a ahead rest x ends h = rw (ends refl, append-nil ahead) h
converts-known c false a ahead rest x ends h = converts-read c true a ahead rest x h

-- After the last piece nothing follows, and after another one anything may.
may-follow : (is_last : Bool) (rest : List ℕ) → (is_last ≡ true → rest ≡ []) → MayFollow is_last rest
may-follow true rest ends = ends refl
may-follow false rest ends = tt

-- A run that stops somewhere wrote a beginning of the output.
writes-some : (c : Conversion) (is_last : Bool) (r0 r1 w0 w1 : Option (List ℕ)) (taken ahead output rest : List ℕ) →
    (is_last ≡ true → IsAtEnd r1) → Consumes r0 r1 (taken ++ ahead) → Converts c is_last taken ahead (output ++ rest) →
    Appends w0 w1 output → IfSome r0 (λ bytes. WritesSome c bytes w0 w1)
writes-some c is_last None r1 w0 w1 taken ahead output rest ends consumed h appended = tt
writes-some c is_last (Some bytes) None w0 w1 taken ahead output rest ends consumed h appended = absurd consumed
writes-some c is_last (Some bytes) (Some more) w0 w1 taken ahead output rest ends consumed h appended = record {
  taken = taken;
  ahead = ahead ++ more;
  output = output;
  rest = rest;
  bytes_are = consumed ∙ append_assoc taken ahead more;
  converts = converts-known c is_last taken ahead more (output ++ rest) ends h;
  appended = appended;
}

-- A run that stops between two pieces wrote all that the bytes taken so far became.
pub some-so-far : (c : Conversion) (is_last : Bool) (r0 r1 w0 w1 : Option (List ℕ)) (ahead : List ℕ) (offset : ℕ) →
    IsSoFar c is_last r0 r1 w0 w1 ahead offset → IfSome r0 (λ bytes. WritesSome c bytes w0 w1)
some-so-far c is_last r0 r1 w0 w1 ahead offset h =
    writes-some c is_last r0 r1 w0 w1 h.taken ahead h.output [] h.ends h.consumed (rw append-nil h.converts) h.appended

-- A write that fails leaves a beginning of the output.
pub broken-so-far : Concat → (c : Conversion) (is_last : Bool) (r0 r1 w0 w1 w2 : Option (List ℕ)) (piece : List ℕ) (offset : ℕ) →
    BreaksPiece c piece is_last w1 w2 → IsSoFar c is_last r0 r1 w0 w1 piece offset → IfSome r0 (λ bytes. WritesSome c bytes w0 w2)
broken-so-far concat c is_last r0 r1 w0 w1 w2 piece offset b h =
    writes-some c is_last r0 r1 w0 w2 (h.taken ++ take b.read piece) (drop b.read piece) (h.output ++ b.output) b.rest h.ends
    (consumes-split r0 r1 h.taken piece b.read h.consumed)
    (rw (append_assoc h.output b.output b.rest)
    (piece-joined concat c is_last h.taken piece h.output (b.output ++ b.rest) b.read h.converts b.converts))
    (Appends-trans w0 w1 w2 h.output b.output h.appended b.appended)

-- At the end of the input, if no byte is ahead, its output was written.
pub output-so-far : (c : Conversion) (is_last : Bool) (r0 r1 w0 w1 : Option (List ℕ)) (ahead : List ℕ) (offset : ℕ) →
    is_last ≡ true → ahead ≡ [] → IsSoFar c is_last r0 r1 w0 w1 ahead offset → WritesOutput c r0 w0 w1
output-so-far c is_last None r1 w0 w1 ahead offset last none h = tt
output-so-far c is_last (Some bytes) None w0 w1 ahead offset last none h = absurd h.consumed
output-so-far c is_last (Some bytes) (Some more) w0 w1 ahead offset last none h =
    let is : bytes ≡ h.taken =
    h.consumed ∙ ap (λ y. (h.taken ++ ahead) ++ y) (h.ends last) ∙ append-nil (h.taken ++ ahead)
    ∙ ap (λ y. h.taken ++ y) none ∙ append-nil h.taken in
    (h.output, rw is (output-of-all c is_last h.taken h.output (rw none at h.converts)), h.appended)

-- At damage, the output for the input up to it was written.
pub damage-so-far : (c : Conversion) (is_last : Bool) (r0 r1 w0 w1 : Option (List ℕ)) (ahead : List ℕ) (offset : ℕ) →
    IsDamagedAhead c is_last ahead → IsSoFar c is_last r0 r1 w0 w1 ahead offset → IfSome r0 (λ bytes. StopsAt c offset bytes w0 w1)
damage-so-far c is_last None r1 w0 w1 ahead offset damage h = tt
damage-so-far c is_last (Some bytes) None w0 w1 ahead offset damage h = absurd h.consumed
damage-so-far c is_last (Some bytes) (Some more) w0 w1 ahead offset damage h =
    let rest = ahead ++ more in
    let is : bytes ≡ h.taken ++ rest = h.consumed ∙ append_assoc h.taken ahead more in
    let all : length bytes ≡ length h.taken + length rest = ap length is ∙ length-append h.taken rest in
    let counted = h.counted in
    record {
      within = omega arith;
      output = h.output;
      is_output = rw (is, take_at h.taken rest offset h.counted)
          (output-to-damage c is_last h.taken ahead h.output h.converts damage);
      appended = h.appended;
      damage = rw (is, drop_at h.taken rest offset h.counted) (damage more (may-follow is_last more h.ends));
    }

-- If the unread bytes of a window are moved to its front, its first bytes are these.
pub moved-front : (window new : List ℕ) (read end : ℕ) → new ≡ copy_within window read end 0 → read ≤ end → end ≤ length window →
    take (end - read) new ≡ drop read (take end window)
moved-front window new read end moved within fits =
    let n = end - read in
    let some : n ≤ length (drop read window) = omega (arith, length-drop read window) in
    let sum : read + n ≡ end = omega arith in
    let zero : 0 + n ≡ n = omega arith in
    let none : 0 ≤ length window = omega arith in
    ap (take n) moved ∙ ap (λ m. take m (copy_within window read end 0)) (sym zero)
    ∙ take-paste window 0 (drop read window) n none some ∙ sym (drop-take read n window) ∙ ap (λ m. drop read (take m window)) sum
