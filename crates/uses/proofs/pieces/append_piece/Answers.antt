-- The piece is decoded to zeros appended to the text, which is then truncated after what was
-- written. The bytes that were not read move to the start of `bytes`. So no byte is lost, and none
-- is read twice. In both answers, `left` shows that just these bytes are left.
use Rattle.std.proofs.Common.{◌≡◌, ◌+◌, ◌∙◌, ◌++◌, ℕ, sym, ap, arith, length, take, length-take, length-drop}
use Rattle.uses.proofs.ReadPieces.{moved, left_says, written_inside, grown_prefix, written_after, rest_moved}
use Rattle.uses.proofs.pieces.append_piece.Goals as goal

-- `grown` is the text with the zeros, and `after` shows what is appended to the text. The long
-- `omega` proves that what was written ends within `grown`.
pub returns-clause-moves : goal.returns-clause-moves
returns-clause-moves c =
    let call = c.decode_strict-progress in
    let bytes = c.args.bytes.now.items in
    let before = c.args.text.now.items in
    let start = c.len-start.result in
    let grown = c.deref_mut.result.now in
    let piece = rw c.deref.ensures.value at call.ensures in
    let long : start ≡ length before = omega (arith, c.len-start.ensures, c.args.text.now.ok) in
    let size : c.len-2.result ≡ length bytes = omega (arith, c.len-2.ensures, c.args.bytes.now.ok) in
    let front : take start grown ≡ before =
    rw long (grown_prefix before grown (start + c.len.result) _ (omega arith) (c.deref_mut.ensures.value ∙ c.in_ok-resize.ensures.items)) in
    let inside = written_inside _ _ _ call.result piece in
    let left = c.truncate-2.ensures.items ∙ rest_moved bytes _ call.result.read _ _ c.copy_within.ensures.items
    (omega (arith, c.args.bytes.now.ok)) size piece.within in
    let after = c.truncate.ensures.items
    ∙ written_after start call.result.written _ (take start grown) call.new.buf _ _ (ap length front ∙ sym long) inside
    (omega (arith, inside, call.auto.buf, c.deref_mut.ensures, c.in_ok-resize.ensures.len, length-take {A = ℕ}, length-drop {A = ℕ}))
    ∙ ap (λ bs. bs ++ take call.result.written call.new.buf) front in
    moved bytes c.truncate-2.new.self.items before c.truncate.new.self.items _ _ call.result piece left after

-- The long `omega` proves that the buffer, which is the zeros, is as long as the bytes.
pub returns-clause-state : goal.returns-clause-state
returns-clause-state c =
    let call = c.decode_strict-progress in
    let bytes = c.args.bytes.now.items in
    let piece = rw c.deref.ensures.value at call.ensures in
    let size : c.len-2.result ≡ length bytes = omega (arith, c.len-2.ensures, c.args.bytes.now.ok) in
    let left = c.truncate-2.ensures.items ∙ rest_moved bytes _ call.result.read _ _ c.copy_within.ensures.items
    (omega (arith, c.args.bytes.now.ok)) size piece.within in
    left_says c.bounds.ensures c.concat.ensures bytes c.truncate-2.new.self.items _ _ call.result piece
    (omega (arith, c.in_ok-resize.ensures.len, c.deref_mut.ensures, c.len.ensures, c.args.bytes.now.ok, length-take {A = ℕ}, length-drop {A = ℕ}))
    left
