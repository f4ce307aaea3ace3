-- Of the bytes that were appended, those from `at` on are cut off, and then `N` bytes from `at` on
-- are appended. So the bytes up to `at + N` are there once (`appended_again`).
use Rattle.cesu8_bytes.proofs.lists.Stored.{appended_again}
use Rattle.cesu8_bytes.proofs.writing.copies.append_at.Goals as goal

pub returns-clause-bytes : goal.returns-clause-bytes
returns-clause-bytes g c = λ before written start le was.
    rw (c.append_each.ensures.bytes, c.truncate.ensures.items, was, ← start)
    (appended_again before c.args.bytes.now c.args.at written g.row.N le)
