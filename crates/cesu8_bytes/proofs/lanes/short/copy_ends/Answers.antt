-- The vectors at both ends cover all bytes, so storing both copies all of them (`ends_stored`).
use Rattle.std.proofs.Common.{◌≡◌, ◌-◌, ◌++◌, length, take, drop, sym, subst}
use lib.Lanes.{put_chunk}
use Rattle.cesu8_bytes.proofs.lists.Stored.{ends_stored}
use Rattle.cesu8_bytes.proofs.lanes.short.copy_ends.Goals as goal

pub returns : goal.returns
returns g c =
    let bytes = c.args.bytes.now in
    subst (λ end. put_chunk (length bytes - g.row.N) (put_chunk 0 c.args.buf.now (take g.row.N bytes)) end ≡ bytes ++ drop (length bytes) c.args.buf.now)
    (sym c.end_vector-end.ensures)
    (ends_stored g.row.N bytes c.args.buf.now c.requires.lanes.1 c.requires.lanes.2 c.requires.room)
