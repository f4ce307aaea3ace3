-- Each pass adds to the text of the bytes that were read before (`reads_on`), so after the last
-- byte the vector ends with the text of all of them. What is decoded so far never has more bytes
-- than the text of the input can have (`decoded_fits`), so the next chunk fits the capacity.
use Rattle.std.proofs.Common.{◌≡◌, ◌∙◌, false, true, refl, sym, subst, arith, take, length, length-append}
use Rattle.std.proofs.lemmas.List.{length-take-le}
use Rattle.cesu8_decode.specs.Decoding.{IsDecoded}
use Rattle.cesu8_decode.specs.DecodedOffsets.{window_of}
use Rattle.cesu8_decode.proofs.chunks.TextAfterPrefix.{none_appended}
use Rattle.cesu8_decode.proofs.decoder.WrittenWindows.{all_decoded, decoded_fits, none_decoded, none_rejected, refused_decoded, some_rejected}
use Rattle.cesu8_decode.proofs.decoder.Passes.{at_start, reads_on}
use Rattle.cesu8_decode.proofs.destinations.chunks.append_chunks.Goals as goal

pub loop-read-init : goal.loop-read-init
loop-read-init g c =
    let f = g.F.Flavor.flavor in
    let bytes = c.args.bytes.now in
    let start = c.args.before.items in
    record {
      pass = at_start f bytes;
      text = none_decoded f g.S.Reading.which (window_of bytes) start;
      capacity = refl;
    }

pub append_next-pass-requires-clause-fits : goal.append_next-pass-requires-clause-fits
append_next-pass-requires-clause-fits g c after old new fine more =
    let f = g.F.Flavor.flavor in
    let which = g.S.Reading.which in
    let bytes = c.args.bytes.now in
    let text = c.loop-read.text.items in
    let chunk = take after.end new in
    omega (
      arith,
      decoded_fits f which bytes _ _ _ (reads_on f which bytes _ _ _ _ _ _ false (rw c.strictness.ensures at more) refl fine c.loop-read.invariant.text) more.within.1,
      length-append text chunk,
      length-take-le after.end new more.inside,
      c.requires,
      c.loop-read.invariant.capacity,
      c.args.before.ok,
      c.loop-read.text.ok,
    )

pub returns-in_err-unless_rejected : goal.returns-in_err-unless_rejected
returns-in_err-unless_rejected g c =
    let f = g.F.Flavor.flavor in
    let which = g.S.Reading.which in
    let bytes = c.args.bytes.now in
    let more = rw c.strictness.ensures at c.append_next-pass.ensures.next.more in
    let refused = some_rejected which _ c.in_err-unless_rejected.ensures in
    none_appended f which bytes c.args.before _ c.from_residual.ensures.0
    (refused_decoded f which bytes _ _ _ (reads_on f which bytes _ _ _ _ _ _ true more refl refused c.loop-read.invariant.text) more.within.1)

pub loop-read-preserved : goal.loop-read-preserved
loop-read-preserved g c =
    let f = g.F.Flavor.flavor in
    let which = g.S.Reading.which in
    let bytes = c.args.bytes.now in
    let next = rw c.strictness.ensures at c.append_next-pass.ensures.next in
    let inv = c.loop-read.invariant in
    let fine = none_rejected f which _ _ _ _ _ _ (reads_on f which bytes _ _ _ _ _ _ _ next.more refl refl inv.text) c.in_ok-unless_rejected.ensures.0 in
    record {
      pass = next.more.pass fine;
      text = subst (λ text. IsDecoded f which (window_of bytes) 0 c.append_next-pass.result.read c.args.before.items text false) (sym (next.text fine))
          (reads_on f which bytes _ _ _ _ _ _ false next.more refl fine inv.text);
      capacity = next.capacity ∙ inv.capacity;
    }

pub returns : goal.returns
returns g c =
    let f = g.F.Flavor.flavor in
    let which = g.S.Reading.which in
    let bytes = c.args.bytes.now in
    let inv = c.loop-read.invariant in
    let all : c.loop-read.read ≡ length bytes = omega (arith, inv.pass.within, c.loop-read-test.false) in
    record { text = all_decoded f which bytes _ _ c.loop-read.read inv.text all; capacity = inv.capacity; none = tt }
