-- The unchanged prefix ends at the first event, which is the lowest bit of the three masks
-- together. If no byte is ill-formed, the other two masks mark the characters that need conversion,
-- and there is one unless the prefix is all bytes. If a byte is ill-formed, `changed` is 0, so
-- `changes` says nothing, and the bytes have no strict reading (`none`).
use Rattle.std.proofs.Common.{refl, arith, le_trans}
use Rattle.cesu8_decode.proofs.chunks.MaskPrefixes.{unchanged_by_masks, changes_by_masks, none_by_mask, some_change}
use Rattle.cesu8_decode.proofs.prefix.window.prefix_by_window.Goals as goal

pub returns-then-window-eq0 : goal.returns-then-window-eq0
returns-then-window-eq0 g c =
    let f = g.F.Flavor.flavor in
    let bytes = c.args.bytes.now in
    let window = c.window_of_padded-window.result in
    let is = c.window_of_padded-window.ensures.window in
    let len = unchanged_by_masks f bytes window (le_trans c.requires.few.0 c.requires.few.1) is.0 is.1 c.min.result c.min.ensures in record {
      len = len;
      changes = λ _ _. changes_by_masks f bytes window (le_trans c.requires.few.0 c.requires.few.1) is.0 is.1 c.if-window-eq0.true;
      none = λ _ none more. absurd (some_change f bytes window (le_trans c.requires.few.0 c.requires.few.1) is.0 is.1 c.if-window-eq0.true c.min.result c.min.ensures more none);
    }

pub returns-else-window-eq0 : goal.returns-else-window-eq0
returns-else-window-eq0 g c =
    let f = g.F.Flavor.flavor in
    let bytes = c.args.bytes.now in
    let window = c.window_of_padded-window.result in
    let is = c.window_of_padded-window.ensures.window in record {
      len = unchanged_by_masks f bytes window (le_trans c.requires.few.0 c.requires.few.1) is.0 is.1 c.min.result c.min.ensures;
      changes = λ _ some. absurd (some refl);
      none = λ _ _ _. none_by_mask f bytes window (le_trans c.requires.few.0 c.requires.few.1) is.0 is.1 (omega (arith, c.if-window-eq0.false));
    }
