-- There are three results: the input is borrowed because the mode keeps it (`returns-in_default`),
-- the decoded text is owned (`returns`), or decoding fails (`returns-in_err-built`). The lemma
-- `known_texts` says what a mode keeps and reads. The UTF-8 of an owned text is never the input:
-- otherwise the input would have been borrowed. If decoding fails, the input has no strict reading,
-- and so none in its mode either (`unread`), which does not keep it.
use Rattle.std.proofs.Common.{ℕ, List, rules, ap, sym}
use Rattle.std.specs.Str.{chars}
use Rattle.std.specs.String.{string_bytes}
use Rattle.std.proofs.lemmas.Str.{IsUtf8-string_bytes}
use Rattle.cesu8_text.specs.Reading.{HasNoStrictReading}
use Rattle.cesu8_text.proofs.order.Lawful.{lossy_is_strict_law}
use Rattle.cesu8_text.proofs.reading.Borrowing.{never_borrowed}
use Rattle.cesu8_text.proofs.reading.LossyBorrowing.{changed_reading}
use Rattle.simd_cesu8.specs.Fault.{IfInvalid}
use Rattle.simd_cesu8.specs.declared.error.DecodeFault.{DecodeFault}
use Rattle.simd_cesu8.specs.declared.error.DecodeFault.TheVariants.{Invalid, Memory}
use Rattle.cesu8_decode.specs.Modes.{Keeps, Reads}
use Rattle.cesu8_decode.proofs.chunks.ModeTexts.{known_texts}
use Rattle.simd_cesu8.proofs.calls.decode_as.Goals as goal

-- If an error `Invalid` means that P holds, and Q follows from P, then it means that Q holds.
IfInvalid-weaker : {P Q : Type 0} (fault : DecodeFault) → (P → Q) → IfInvalid fault P → IfInvalid fault Q
IfInvalid-weaker (Invalid error) follows invalid = follows invalid
IfInvalid-weaker (Memory error) follows memory = memory

pub known_text-requires : goal.known_text-requires
known_text-requires g c = (known_texts g.A.Accepts.mode g.F.Flavor.flavor c.args.bytes.now).is_utf8 c.in_default.ensures.kept

pub returns-in_default : goal.returns-in_default
returns-in_default g c =
    let kept = c.in_default.ensures.kept in
    record {
      text = ((known_texts g.A.Accepts.mode g.F.Flavor.flavor c.args.bytes.now).kept _ kept).1 (ap chars c.known_text.ensures);
      invalid = search rules;
      borrowed = search rules;
      borrowed_where = search (rules, kept);
      succeeds = search rules;
      capacity = search rules;
    }

pub decode_strict-requires : goal.decode_strict-requires
decode_strict-requires g c = c.in-Some.ensures.prefix

pub returns : goal.returns
returns g c =
    let f = g.F.Flavor.flavor in
    let bytes = c.args.bytes.now in
    let built = string_bytes c.in_ok-built.built in
    let known = known_texts g.A.Accepts.mode f bytes in
    let not_kept : ¬ (Keeps g.A.Accepts.mode f bytes) = c.in-Some.ensures.other in
    let reads = c.in_ok-built.ensures.text in
    record {
      text = ((known.other not_kept).strictly (chars built)).1 reads;
      invalid = search rules;
      borrowed = never_borrowed (changed_reading f bytes built (λ unchanged. not_kept (known.unchanged unchanged))
          (IsUtf8-string_bytes c.in_ok-built.built) (sym (lossy_is_strict_law f bytes (chars built) reads)));
      borrowed_where = never_borrowed not_kept;
      succeeds = search rules;
      capacity = search rules;
    }

pub returns-in_err-built : goal.returns-in_err-built
returns-in_err-built g c =
    let f = g.F.Flavor.flavor in
    let bytes = c.args.bytes.now in
    let known = known_texts g.A.Accepts.mode f bytes in
    let not_kept : ¬ (Keeps g.A.Accepts.mode f bytes) = c.in-Some.ensures.other in
    let unread : HasNoStrictReading f bytes → (text : List ℕ) → ¬ (Reads g.A.Accepts.mode f bytes text) =
    λ none text reads. none text (((known.other not_kept).strictly text).0 reads) in
    let invalid = IfInvalid-weaker c.in_err-built.field-0.0 unread c.in_err-built.ensures.invalid in
    record {
      text = search rules;
      invalid = search (rules, invalid);
      borrowed = search rules;
      borrowed_where = search rules;
      succeeds = λ kept. absurd (not_kept kept);
      capacity = search rules;
    }
