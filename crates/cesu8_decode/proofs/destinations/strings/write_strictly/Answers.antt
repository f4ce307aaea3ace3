-- If bytes have a strict reading, and their unchanged prefix is not all of them, the byte after it
-- leads a character that needs conversion. So if another byte is there, the error is right.
use Rattle.std.proofs.Common.{refl, ◌∙◌, ap, add-zero, get_or, drop}
use Rattle.std.proofs.lemmas.Bool.{both_ways}
use Rattle.std.proofs.lemmas.List.{get_or-drop}
use Rattle.cesu8_decode.proofs.chunks.TextAfterPrefix.{unless_begun}
use Rattle.cesu8_decode.proofs.destinations.strings.write_strictly.Goals as goal

pub returns-then-not-may_lead_changed : goal.returns-then-not-may_lead_changed
returns-then-not-may_lead_changed g c =
    let f = g.F.Flavor.flavor in
    let bytes = c.args.bytes.now in
    let n = c.args.prefix.len in
    record {
      text = tt;
      capacity = tt;
      none = (
        refl,
        unless_begun f bytes n c.requires.prefix.found.len
            (λ begun. both_ways c.may_lead_changed.result c.if-not-may_lead_changed.true
            (c.may_lead_changed.ensures f (drop n bytes) begun (get_or-drop n bytes 0 0 ∙ ap (λ k. get_or bytes k 0) (add-zero n)))) c.requires.prefix.more,
      );
    }
