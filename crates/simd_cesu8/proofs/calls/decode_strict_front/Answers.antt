-- The contract is about `take len bytes`, and the code decodes the first `min(len, bytes.len())`
-- bytes: by `take_min` these are equal. The fast path borrows ASCII that is unchanged, which is its
-- own strict reading.
use Rattle.std.proofs.Common.{rules, take}
use Rattle.std.proofs.lemmas.List.{take_min}
use Rattle.std.proofs.lemmas.Str.{IsUtf8-from_ascii}
use Rattle.cesu8_text.proofs.reading.Borrowing.{unchanged_reading}
use Rattle.simd_cesu8.proofs.calls.decode_strict_front.Goals as goal

pub known_text-requires : goal.known_text-requires
known_text-requires g c =
    IsUtf8-from_ascii (take c.min-len.result c.args.bytes.now) (c.begins_with_unchanged_ascii.ensures.ascii c.if-begins_with_unchanged_ascii.true)

pub returns-then-begins_with_unchanged_ascii : goal.returns-then-begins_with_unchanged_ascii
returns-then-begins_with_unchanged_ascii g c =
    let first = take c.min-len.result c.args.bytes.now in
    let ascii = c.begins_with_unchanged_ascii.ensures in
    let found = c.if-begins_with_unchanged_ascii.true in
    rw (← take_min c.args.len c.args.bytes.now, ← c.min-len.ensures)
    (record {
      text = unchanged_reading g.F.Flavor.flavor first c.known_text.result.now c.known_text.ensures
          (IsUtf8-from_ascii first (ascii.ascii found), ascii.unchanged found);
      invalid = search rules;
      borrowed = search rules;
      borrowed_where = search rules;
      succeeds = search rules;
      capacity = search rules;
    })

pub returns : goal.returns
returns g c =
    rw (← take_min c.args.len c.args.bytes.now, ← c.min-len.ensures) c.decode_strict_by_call.ensures
