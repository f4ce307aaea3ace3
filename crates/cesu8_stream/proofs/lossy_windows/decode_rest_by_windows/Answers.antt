-- Each window is a step, and two steps in a row are one (`read_on`).
use Rattle.std.proofs.Common.{refl, false, ◌≤◌, ◌-◌, ◌≡◌, length, length-drop, drop, arith}
use Rattle.std.proofs.lemmas.List.{take_rest}
use Rattle.cesu8_stream.proofs.Pieces.{to_end}
use Rattle.cesu8_stream.proofs.LossyReadings.{read_on}
use Rattle.cesu8_stream.proofs.LossyWindows.{nothing_read_on}
use Rattle.cesu8_stream.proofs.lossy_windows.decode_rest_by_windows.Goals as goal

pub loop-read-init : goal.loop-read-init
loop-read-init g c = record {
  within = omega arith;
  reads = nothing_read_on g.C.Decoding.reading c.args.bytes.now c.args.buf.now c.args.buf.now refl;
}

pub loop-read-preserved : goal.loop-read-preserved
loop-read-preserved g c =
    let bytes = c.args.bytes.now in
    let at = c.loop-read in
    let moved = c.decode_window-moved in
    let inside : moved.result.read ≤ length (drop at.read bytes) = rw take_rest at moved.ensures.within in
    let left : length (drop at.read bytes) ≡ length bytes - at.read = length-drop at.read bytes in
    let here = at.invariant.within in
    record {
      within = omega arith;
      reads = rw (to_end at.written at.buf moved.new.buf)
          (read_on g.C.Decoding.reading false bytes c.args.buf.now at.buf moved.new.buf at.read at.written moved.result.read
          moved.result.written at.invariant.reads (rw (take_rest, take_rest) at moved.ensures.reads));
    }

pub returns-then-moved-eq0-clause-reads : goal.returns-then-moved-eq0-clause-reads
returns-then-moved-eq0-clause-reads g c =
    let at = c.loop-read in
    let moved = c.decode_window-moved in
    rw (to_end at.written at.buf moved.new.buf)
    (read_on g.C.Decoding.reading false c.args.bytes.now c.args.buf.now at.buf moved.new.buf at.read at.written
    moved.result.read moved.result.written at.invariant.reads (rw (take_rest, take_rest) at moved.ensures.reads))
