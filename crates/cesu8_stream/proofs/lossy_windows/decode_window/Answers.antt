-- The lossy reading of the window is written, and no character crosses its end, whatever follows.
use Rattle.std.proofs.Common.{take}
use Rattle.cesu8_stream.proofs.LossyWindows.{window_read}
use Rattle.cesu8_stream.proofs.lossy_windows.decode_window.Goals as goal

pub returns-in-Some-clause-reads : goal.returns-in-Some-clause-reads
returns-in-Some-clause-reads g c =
    let reading = g.C.Decoding.reading in
    let bytes = c.args.bytes.now in
    let end = c.whole_characters-end.result in
    let front = take end bytes in
    window_read reading bytes c.args.buf.now c.write_lossy.new.buf end c.in-Some.written (c.lossy_laws.ensures.is_text front)
    (λ more. c.lossy_laws.ensures.parts front _ (c.is_cut.ensures c.if-is_cut.true more)) c.in-Some.ensures.some
