-- The search found no byte that is a changed null or not ASCII, so all bytes are ASCII.
use Rattle.std.proofs.lemmas.Bool.{iff_false, not-true}
use Rattle.cesu8_bytes.proofs.lists.Ascii.{ascii_of_neither}
use Rattle.cesu8_bytes.proofs.fast_paths.is_short_unchanged_ascii.Goals as goal

pub returns-then-bytes-le-CHECKED_INLINE-clause-ascii : goal.returns-then-bytes-le-CHECKED_INLINE-clause-ascii
returns-then-bytes-le-CHECKED_INLINE-clause-ascii g c none =
    ascii_of_neither g.F.Null.Class.class c.args.bytes.now (λ any. iff_false c.any_in_bytes_or_call.ensures (not-true _ none) any)
