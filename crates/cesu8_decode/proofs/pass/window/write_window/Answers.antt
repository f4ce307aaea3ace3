-- Strict decoding rejects a window if a bit of the mask of ill-formed bytes is set. Any other window
-- is written. A window that a zero follows ends there, since no character has a zero after its first
-- byte.
use Rattle.std.proofs.Common.{rules, arith}
use Rattle.cesu8_decode.proofs.decoder.WrittenWindows.{writes_window, rejects_window, ends_at}
use Rattle.cesu8_decode.proofs.pass.window.write_window.Goals as goal

pub returns-then-matches-clause-written : goal.returns-then-matches-clause-written
returns-then-matches-clause-written g c = search (arith, rejects_window)

pub returns-then-matches-clause-last : goal.returns-then-matches-clause-last
returns-then-matches-clause-last g c = ends_at _ _ _ _ _ c.window_at-window.ensures.window.0 c.window_at-window.ensures.window.1

pub returns-clause-written : goal.returns-clause-written
returns-clause-written g c =
    writes_window _ c.args.strictness _ _ _ _ _ _ _ c.window_at-window.ensures.window.0 (search rules)
    (record { bytes = grind arith steps 1000000; end = grind arith steps 1000000; len = grind arith steps 1000000 })

pub returns-clause-last : goal.returns-clause-last
returns-clause-last g c = ends_at _ _ _ _ _ c.window_at-window.ensures.window.0 c.window_at-window.ensures.window.1
