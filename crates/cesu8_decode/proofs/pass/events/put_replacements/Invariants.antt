-- Before each round all but `left` replacement characters are written. Each round writes ten more.
use Rattle.std.proofs.Common.{◌-◌, ◌≡◌, ◌+◌, ◌*◌, ◌≤◌, replicate}
use Rattle.cesu8_text.specs.Text.{utf8}
use Rattle.cesu8_bytes.specs.Puts.{WritesAt}
use Rattle.cesu8_decode.proofs.pass.events.put_replacements.Given as goal

abbrev pub invariant-loop-left : goal.invariant-loop-left
invariant-loop-left l = record {
  few : l.left ≤ l.count;
  end : l.end + 3 * l.left ≡ l.initial.end + 3 * l.count;
  written : WritesAt (utf8 (replicate (l.count - l.left) 0xFFFD)) l.initial.end l.initial.out l.out l.end;
}

abbrev pub decreases-loop-left : goal.decreases-loop-left
decreases-loop-left l = l.left
