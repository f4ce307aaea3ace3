-- Each pass adds to the text of the bytes that were read before (`reads_on`), which is never longer
-- than the lossy reading (`decoded_fits`), so each chunk fits the slice.
use Rattle.std.proofs.Common.{◌≡◌, ℕ, ◌+◌, ◌≤◌, List, ◌++◌, ◌∙◌, [], false, refl, subst, arith, take, length, length-append}
use Rattle.std.proofs.lemmas.List.{length-take-le}
use Rattle.cesu8_text.specs.Encoding.{Flavor}
use Rattle.cesu8_text.specs.Reading.{lossy_length}
use Rattle.cesu8_bytes.specs.declared.strictness.Strictness.TheVariants.{Lossy}
use Rattle.cesu8_bytes.proofs.lists.Ends.{same_after}
use Rattle.cesu8_decode.specs.Decoding.{IsDecoded}
use Rattle.cesu8_decode.specs.DecodedOffsets.{window_of}
use Rattle.cesu8_decode.proofs.chunks.WrittenChunks.{all_written}
use Rattle.cesu8_decode.proofs.decoder.WrittenWindows.{all_decoded, decoded_fits, none_decoded}
use Rattle.cesu8_decode.proofs.decoder.Passes.{at_start, reads_on}
use Rattle.cesu8_decode.proofs.destinations.chunks.put_chunks.Goals as goal

pub loop-read-init : goal.loop-read-init
loop-read-init g c =
    let f = g.F.Flavor.flavor in
    let bytes = c.args.bytes.now in
    record {
      pass = at_start f bytes;
      text = none_decoded f Lossy (window_of bytes) [];
      inside = omega arith;
      behind = refl;
      len = refl;
    }

-- The next chunk fits after what was written so far.
fits : (f : Flavor) (bytes out chunk : List ℕ) (end n : ℕ) → IsDecoded f Lossy (window_of bytes) 0 n [] (take end out ++ chunk) false → n ≤ length bytes →
    lossy_length f bytes ≤ length out → end ≤ length out → end + length chunk ≤ length out
fits f bytes out chunk end n is inside room so_far =
    omega (arith, decoded_fits f Lossy bytes [] (take end out ++ chunk) n is inside, length-append (take end out) chunk, length-take-le end out so_far, room)

pub put-end-requires : goal.put-end-requires
put-end-requires g c =
    let f = g.F.Flavor.flavor in
    let bytes = c.args.bytes.now in
    let inv = c.loop-read.invariant in
    let more = c.write_windows-pass.ensures.more in
    let read = reads_on f Lossy bytes _ _ _ _ [] (take c.loop-read.end c.loop-read.out) _ more refl refl inv.text in
    fits f bytes c.loop-read.out _ c.loop-read.end _ (subst (IsDecoded f Lossy (window_of bytes) 0 _ [] _) (read.lossy refl) read) more.within.1
    (omega (arith, c.requires, inv.len)) inv.inside

pub loop-read-preserved : goal.loop-read-preserved
loop-read-preserved g c =
    let f = g.F.Flavor.flavor in
    let inv = c.loop-read.invariant in
    let more = c.write_windows-pass.ensures.more in
    let put = c.put-end.ensures in
    let read = reads_on f Lossy c.args.bytes.now _ _ _ _ [] (take c.loop-read.end c.loop-read.out) _ more refl refl inv.text in
    let fine = subst (IsDecoded f Lossy (window_of c.args.bytes.now) 0 _ [] _) (read.lossy refl) read in
    record {
      pass = more.pass (read.lossy refl);
      text = rw put.writes.bytes fine;
      inside = omega (
        arith,
        put.writes.end,
        put.writes.len,
        fits f c.args.bytes.now c.loop-read.out _ c.loop-read.end _ fine more.within.1 (omega (arith, c.requires, inv.len)) inv.inside,
      );
      behind = put.behind ∙ same_after _ _ c.loop-read.end c.put-end.result (omega (arith, put.writes.end)) inv.behind;
      len = put.writes.len ∙ inv.len;
    }

pub returns : goal.returns
returns g c =
    let f = g.F.Flavor.flavor in
    let bytes = c.args.bytes.now in
    let inv = c.loop-read.invariant in
    let all : c.loop-read.read ≡ length bytes = omega (arith, inv.pass.within, c.loop-read-test.false) in
    all_written f bytes _ _ c.loop-read.end (all_decoded f Lossy bytes _ _ c.loop-read.read inv.text all)
    inv.inside inv.behind
