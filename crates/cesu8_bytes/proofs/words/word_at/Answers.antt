-- The eight bytes of the word are those that were loaded.
use Rattle.std.proofs.Common.{◌≡◌, ◌+◌, ◌-◌, refl, sym, arith, take, drop}
use lib.Lanes.{chunk}
use Rattle.std.proofs.lemmas.List.{take-append-drop}
use Rattle.std.proofs.lemmas.Nat.{le_bytes_8}
use Rattle.std.proofs.lemmas.Simd.{length-chunk}
use Rattle.cesu8_bytes.proofs.lists.Prefixes.{word_fits}
use Rattle.cesu8_bytes.proofs.words.word_at.Goals as goal

pub returns : goal.returns
returns c =
    let bytes = c.args.value.now in
    let at = c.args.offset in
    let eight : at + 8 - at ≡ 8 = omega arith in
    rw eight (le_bytes_8 (chunk at 8 bytes) _ (length-chunk at 8 bytes c.requires)
    (word_fits bytes (take at bytes) (drop at bytes) (chunk at 8 bytes) c.type_inv.value (sym (take-append-drop at bytes)) refl)
    c.from_le_bytes.ensures)
