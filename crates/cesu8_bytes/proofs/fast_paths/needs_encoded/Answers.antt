-- The encoding changes a character if and only if it changes a byte of the UTF-8. The search finds
-- such a byte (`needs_by_search`).
use Rattle.cesu8_bytes.proofs.lists.Ascii.{needs_by_search}
use Rattle.cesu8_bytes.proofs.fast_paths.needs_encoded.Goals as goal

pub returns : goal.returns
returns g c =
    needs_by_search g.F.Flavor.flavor g.F.Null.Class.class g.met.F.Flavor.are_null c.args.value.now _ _ c.utf8.value
    c.as_bytes.ensures.value c.any_in_bytes_or_call.ensures
