-- The search found no byte of 80 (hexadecimal) or more, so all bytes are ASCII.
use Rattle.std.proofs.lemmas.Bool.{iff_false, not-true}
use Rattle.cesu8_bytes.proofs.lists.Ascii.{ascii_of_none}
use Rattle.cesu8_bytes.proofs.fast_paths.is_short_ascii.Goals as goal

pub returns : goal.returns
returns c none = ascii_of_none c.args.bytes.now (λ any. iff_false c.any_in_bytes_or_call.ensures (not-true _ none) any)
