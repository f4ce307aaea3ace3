-- There are two results: the input is borrowed because the mode keeps it (`returns-in_default`), or
-- the decoded text is owned (`returns`). The lemma `known_texts` says what a mode keeps and reads.
-- The UTF-8 of an owned text is never the input: otherwise the input would have been borrowed.
-- `exact` is the premise of `text_length`: the input has no other text than its lossy reading.
use Rattle.std.proofs.Common.{rules, ap, sym, subst}
use Rattle.std.specs.Str.{chars, IsUtf8}
use Rattle.std.specs.String.{string_bytes}
use Rattle.std.proofs.lemmas.Str.{IsUtf8-string_bytes}
use Rattle.cesu8_text.proofs.reading.Borrowing.{never_borrowed}
use Rattle.cesu8_text.proofs.reading.LossyBorrowing.{length_of_reading, changed_reading}
use Rattle.cesu8_decode.specs.Modes.{Keeps}
use Rattle.cesu8_decode.proofs.chunks.ModeTexts.{known_texts}
use Rattle.simd_cesu8.proofs.calls.decode_lossy_as.Goals as goal

pub known_text-requires : goal.known_text-requires
known_text-requires g c = (known_texts g.A.Accepts.mode g.F.Flavor.flavor c.args.bytes.now).is_utf8 c.in_default.ensures.kept

pub returns-in_default : goal.returns-in_default
returns-in_default g c =
    let f = g.F.Flavor.flavor in
    let bytes = c.args.bytes.now in
    let known = known_texts g.A.Accepts.mode f bytes in
    let kept = c.in_default.ensures.kept in
    let reads = (known.kept_lossily (chars c.known_text.result.now) kept).1 (ap chars c.known_text.ensures) in
    record {
      reading = reads;
      text_length = λ exact. length_of_reading f bytes c.known_text.result.now
          (subst IsUtf8 (sym c.known_text.ensures) (known.is_utf8 kept)) (exact (chars c.known_text.result.now) reads);
      borrowed = search rules;
      borrowed_where = search (rules, kept);
      succeeds = search rules;
      capacity = search rules;
    }

pub decode_lossy-requires : goal.decode_lossy-requires
decode_lossy-requires g c = c.in-Some.ensures.prefix

pub returns : goal.returns
returns g c =
    let f = g.F.Flavor.flavor in
    let bytes = c.args.bytes.now in
    let built = string_bytes c.in_ok-built.built in
    let is_utf8 = IsUtf8-string_bytes c.in_ok-built.built in
    let known = known_texts g.A.Accepts.mode f bytes in
    let not_kept : ¬ (Keeps g.A.Accepts.mode f bytes) =
    c.in-Some.ensures.other in
    record {
      reading = ((known.other not_kept).lossily (chars built)).1 c.in_ok-built.ensures.text;
      text_length = λ exact. length_of_reading f bytes built is_utf8 c.in_ok-built.ensures.text;
      borrowed = never_borrowed (changed_reading f bytes built (λ unchanged. not_kept (known.unchanged unchanged)) is_utf8 c.in_ok-built.ensures.text);
      borrowed_where = never_borrowed not_kept;
      succeeds = search rules;
      capacity = search rules;
    }
