-- The bytes that were read are the first ones after the unread bytes (`filled-up`).
use Rattle.std.proofs.Common.{◌-◌, length, take, drop, arith}
use Rattle.cesu8conv_run.proofs.Pieces.{filled-up}
use Rattle.cesu8conv_run.proofs.convert.read_more.Goals as goal

pub returns : goal.returns
returns g c =
    let window = c.args.window.now in
    let unread = c.args.unread in
    let tail = c.read.new.buf in
    let post = drop (length window - unread) (drop unread window) in
    let read = c.in_ok-count.ensures in
    record {
      more = omega arith;
      within = omega arith;
      got = take c.in_ok-count.count tail;
      consumed = read.bytes.0;
      piece_is = filled-up window tail post unread c.in_ok-count.count (omega arith) read.bound.0;
      ends = λ none. read.bytes.1 (omega arith) (omega arith);
    }
