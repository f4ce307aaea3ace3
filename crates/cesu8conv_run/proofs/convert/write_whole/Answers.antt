-- After each write, the bytes that were written and the rest are together all bytes.
use Rattle.std.proofs.Common.{◌++◌, take}
use Rattle.std.proofs.KnownBytes.{Appends-trans}
use Rattle.cesu8conv_run.proofs.Streams.{whole-after}
use Rattle.cesu8conv_run.proofs.convert.write_whole.Goals as goal

pub loop-preserved : goal.loop-preserved
loop-preserved g c =
    let before = c.loop.invariant in
    let part = take c.in-Ok.count c.loop.rest.now in
    record {
      written = before.written ++ part;
      whole = whole-after c.args.bytes.now before.written c.loop.rest.now c.in-Ok.count before.whole;
      appended = Appends-trans _ _ _ before.written part before.appended c.in-Ok.ensures.bytes;
    }
