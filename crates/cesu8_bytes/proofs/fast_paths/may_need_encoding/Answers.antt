-- If the encoding changes a character, some byte is a changed null, or F0 (hexadecimal) or more.
-- The search finds such a byte.
use Rattle.std.proofs.Common.{sym, subst, arith}
use Rattle.std.specs.List.{Any}
use Rattle.cesu8_text.specs.Class.{IsChangedByte}
use Rattle.cesu8_text.proofs.encoding.NeedsEncoding.{needs_by_bytes}
use Rattle.cesu8_bytes.proofs.lists.Ascii.{either_of_changed}
use Rattle.cesu8_bytes.proofs.fast_paths.may_need_encoding.Goals as goal

pub returns : goal.returns
returns g c needs =
    let f = g.F.Flavor.flavor in
    c.any_in_bytes.ensures.1 (either_of_changed f g.F.Null.Class.class g.met.F.Flavor.are_null 0xF0 (omega arith) _
    (subst (Any (IsChangedByte f)) (sym c.as_bytes.ensures.value) ((needs_by_bytes f c.args.value.now c.utf8.value).1 needs)))
