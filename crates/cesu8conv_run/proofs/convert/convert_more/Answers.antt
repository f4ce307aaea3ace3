-- The piece is the unread bytes and what was read after them. What is left of it is moved to the
-- front of the window. If nothing more was read, the piece is the last one. The variables r0 and w0
-- are the input and the output at the start of the run, and `offset` bytes were taken before.
use Rattle.std.proofs.Common.{◌≡◌, ◌-◌, ◌≤◌, ◌==◌, length, take, drop, arith, length-take}
use Rattle.std.proofs.lemmas.Bool.Decides.{nat_tests}
use Rattle.cesu8conv_run.proofs.Streams.{read-so-far, piece-so-far, some-so-far, broken-so-far, moved-front}
use Rattle.cesu8conv_run.proofs.convert.convert_more.Goals as goal

pub returns-in-Err-clause-err : goal.returns-in-Err-clause-err
returns-in-Err-clause-err g c = λ r0 w0 offset h. some-so-far c.args.conversion _ _ _ _ _ _ _ h

pub returns-in-Err-convert_piece-clause-err : goal.returns-in-Err-convert_piece-clause-err
returns-in-Err-convert_piece-clause-err g c = λ r0 w0 offset h.
    let is_last = c.in-Ok.end == c.args.unread in
    let window = c.read_more.new.window in
    broken-so-far c.concat.ensures c.args.conversion is_last r0 _ w0 _ _ (take c.in-Ok.end window) offset
    c.in-Err-convert_piece.ensures.err
    (read-so-far c.args.conversion is_last r0 _ _ w0 _ c.args.window.now window c.args.unread c.in-Ok.end offset c.in-Ok.ensures
    (λ last. grind (arith, nat_tests)) h)

pub returns-clause-ok : goal.returns-clause-ok
returns-clause-ok g c =
    let is_last = c.in-Ok.end == c.args.unread in
    let window = c.read_more.new.window in
    let end = c.in-Ok.end in
    let read = c.in-Ok-convert_piece.piece.read in
    let piece = c.in-Ok-convert_piece.ensures.ok in
    let fits : end ≤ length window = c.in-Ok.ensures.within in
    let within : read ≤ end = omega (arith, length-take end window, piece.takes.within) in
    let new = c.copy_within.new.self in
    let same : length new ≡ length window = c.copy_within.ensures.len in
    let front : take (end - read) new ≡ drop read (take end window) =
    moved-front window new read end c.copy_within.ensures.after within fits in
    record {
      read_fits = omega arith;
      left_fits = omega arith;
      so_far = λ r0 w0 offset h. rw front
          (piece-so-far c.concat.ensures c.args.conversion is_last r0 _ w0 _ _ (take end window) offset read piece.takes
          (read-so-far c.args.conversion is_last r0 _ _ w0 _ c.args.window.now window c.args.unread end offset c.in-Ok.ensures
          (λ last. grind (arith, nat_tests)) h));
      all = λ undamaged last.
          let all = piece.all undamaged last in
          omega (arith, length-take end window, all);
      damage = λ damaged. rw front (piece.damage damaged);
    }
