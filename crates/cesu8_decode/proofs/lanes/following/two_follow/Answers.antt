-- If all bytes are unchanged ASCII, and so are the four before them, each can follow. Otherwise the
-- error masks of both blocks are combined by `|`, which marks a lane if one of them does. If no
-- lane is marked, neither block has an error.
use Rattle.std.proofs.Common.{◌≡◌, ◌+◌, ◌-◌, ◌∙◌, ap, arith, length, map, sym, subst}
use Rattle.std.proofs.lemmas.Bool.{eqb-true}
use lib.Lanes.{chunk}
use Rattle.cesu8_decode.specs.Following.{IsBlockAt}
use Rattle.cesu8_decode.proofs.decoder.LanesByIndex.{all_below}
use Rattle.cesu8_decode.proofs.decoder.ErrorMasks.{no_error, two_plain, none_of_two, in_both, marked_are, marked_at, marked_if_not_one}
use Rattle.cesu8_decode.proofs.lanes.following.two_follow.Goals as goal

pub returns-then-bits-eq0-2 : goal.returns-then-bits-eq0-2
returns-then-bits-eq0-2 g c _ =
    let f = g.F.Flavor.flavor in
    let bytes = c.args.bytes.now in
    let at = c.args.at - 4 in
    let here : c.args.at ≡ at + 4 = omega (arith, c.requires) in
    let there : c.args.at + 32 ≡ at + 32 + 4 = omega (arith, c.requires) in
    let first = marked_at f bytes at (omega (arith, c.requires)) _ (marked_are f _ _ c.nulls.ensures ∙ ap (λ k. map (marked_if_not_one f) (chunk k 32 bytes)) here) in
    let second = marked_at f bytes (at + 32) (omega (arith, c.requires)) _ (marked_are f _ _ c.nulls-2.ensures ∙ ap (λ k. map (marked_if_not_one f) (chunk k 32 bytes)) there) in
    let none = none_of_two _ _ (ap length first ∙ sym (ap length second)) (sym c.bits.ensures ∙ c.if-bits-eq0.true) in
    two_plain g.S.CharacterSet.set f bytes at _ _ first second
    (all_below bytes 0x80 at 4 (omega (arith, c.requires)) (sym c.bits-then-bits-eq0.ensures ∙ c.if-bits-eq0-2.true)) none.0 none.1

pub returns : goal.returns
returns g c holds =
    let s = g.S.CharacterSet.set in
    let f = g.F.Flavor.flavor in
    let bytes = c.args.bytes.now in
    let at = c.args.at - 4 in
    let behind : c.args.at + 32 - 4 ≡ at + 32 = omega (arith, c.requires) in
    let first = c.error_mask.ensures bytes at c.block_at-first.ensures in
    let second = c.error_mask-2.ensures bytes (at + 32) (subst (λ k. IsBlockAt s bytes k c.block_at-second.result) behind c.block_at-second.ensures) in
    let none = none_of_two c.error_mask.result c.error_mask-2.result (ap length first ∙ sym (ap length second)) (sym c.bits-2.ensures ∙ eqb-true _ 0 holds) in
    in_both s f bytes at (no_error s f bytes at 32 c.error_mask.result first none.0) (no_error s f bytes (at + 32) 32 c.error_mask-2.result second none.1)
