-- Four bytes are stored in either case. All four are the UTF-8 of a pair, and the first alone, 00,
-- that of C0 80.
use Rattle.std.proofs.Common.{rules, ◌≡◌, ℕ, ◌+◌, ◌<◌, ◌≤◌, Bool, true, false, [], ◌∷◌, List, length, get_or, drop, ap, ◌∙◌, subst, arith, refl, w32}
use Rattle.std.specs.Int.{to_le_bytes}
use Rattle.std.proofs.lemmas.List.{take_rest}
use Rattle.std.proofs.lemmas.Nat.{le_bytes_4}
use Rattle.cesu8_text.specs.Encoding.{Flavor}
use Rattle.cesu8_bytes.specs.Pairs.{IsUtf8OfDigits, second_third_fifth_sixth}
use Rattle.cesu8_bytes.specs.Puts.{WritesAt}
use Rattle.cesu8_bytes.proofs.lists.Stored.{first_written}
use Rattle.cesu8_decode.specs.DecodedOffsets.{decoded, window_of, width_at}
use Rattle.cesu8_decode.specs.Masks.{is_null_at, is_pair_at}
use Rattle.cesu8_decode.proofs.decoder.EventsDecoded.{pair_begins, pair_at_decoded, pair_wide, null_at_decoded, null_wide}
use Rattle.cesu8_decode.proofs.pass.events.write_changed.Goals as goal

pub returns-clause-width : goal.returns-clause-width
returns-clause-width g c =
    let f = g.F.Flavor.flavor in
    let bytes = c.args.bytes.now in
    let at = c.args.at in
    let null : c.args.is_null ≡ true → 2 ≡ width_at f bytes at = λ is. null_wide f bytes at (omega (arith, c.requires.bytes)) (c.requires.null is) in
    let pair : c.args.is_null ≡ false → 6 ≡ width_at f bytes at = λ is. pair_wide f bytes at (omega (arith, c.requires.bytes)) (pair_begins f bytes at (c.requires.pair is)) in
    grind (arith, null, pair) steps 1000000

-- What is written in either case, by the three values that are chosen: `len` bytes are read, and
-- `written` of the four bytes of `utf8` count. `put` returns m, the end of all four.
changed_written : (f : Flavor) (bytes four stored old new : List ℕ) (at end m len utf8 written pair : ℕ) (is_null : Bool) → at + 8 ≤ length bytes → end + 4 ≤ length old →
    (is_null ≡ true → is_null_at f bytes at ≡ true) → (is_null ≡ false → is_pair_at f bytes at ≡ true) →
    (is_null ≡ true → (len ≡ 2) × (utf8 ≡ 0) × (written ≡ 1)) → (is_null ≡ false → (len ≡ 6) × (utf8 ≡ pair) × (written ≡ 4)) →
    IsUtf8OfDigits (second_third_fifth_sixth (drop at bytes)) four → length four ≡ 4 → to_le_bytes w32 pair ≡ four →
    stored ≡ to_le_bytes w32 utf8 → WritesAt stored end old new m → WritesAt (decoded f (window_of bytes) at len) end old new (end + written)
changed_written f bytes four stored old new at end m len utf8 written pair true inside room null other chosen also is_utf8 long same is writes =
    let values = chosen refl in
    rw (values.0, values.2, null_at_decoded f bytes at (omega (arith, inside)) (null refl))
    (first_written 1 end m (0 ∷ 0 ∷ 0 ∷ 0 ∷ []) old new (omega arith) (omega (arith, room))
    (subst (λ bs. WritesAt bs end old new m) (is ∙ ap (to_le_bytes w32) values.1) writes))
changed_written f bytes four stored old new at end m len utf8 written pair false inside room null other chosen also is_utf8 long same is writes =
    let values = also refl in
    let begins = pair_begins f bytes at (other refl) in
    let stored_four = is ∙ ap (to_le_bytes w32) values.1 ∙ same in
    let is_end : m ≡ end + 4 = omega (arith, writes.end, ap length stored_four, long) in
    rw (values.0, values.2, pair_at_decoded f bytes at (omega (arith, inside)) begins four is_utf8)
    (subst (λ bs. WritesAt bs end old new (end + 4)) stored_four (subst (WritesAt stored end old new) is_end writes))

pub returns-clause-written : goal.returns-clause-written
returns-clause-written g c =
    let four = c.utf8_of_pair.result in
    let long : length four ≡ 4 = search rules in
    let byte : (i : ℕ) → get_or four i 0 < 0x100 = λ i. search rules in
    changed_written g.F.Flavor.flavor c.args.bytes.now four _ _ _ c.args.at c.args.end _ _ _ _ _ c.args.is_null (omega (arith, c.requires.bytes)) (omega (arith, c.requires.room))
    c.requires.null c.requires.pair (λ null. grind arith steps 1000000) (λ pair. grind arith steps 1000000)
    (rw take_rest at c.utf8_of_pair.ensures) long (le_bytes_4 four _ long byte c.from_le_bytes-pair.ensures) c.to_le_bytes.ensures c.put.ensures.writes
