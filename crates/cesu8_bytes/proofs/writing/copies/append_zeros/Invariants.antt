-- As many zeros are appended to `taken` as rounds were run, and its capacity is unchanged.
use Rattle.std.proofs.Common.{◌≡◌, ◌+◌, ◌++◌, replicate, vec_len, vec_capacity}
use Rattle.cesu8_bytes.proofs.writing.copies.append_zeros.Given as goal

abbrev pub invariant-loop : goal.invariant-loop
invariant-loop l = record {
  items : l.taken.items ≡ l.initial.taken.items ++ replicate l.counter 0;
  len : vec_len l.taken ≡ vec_len l.initial.taken + l.counter;
  capacity : vec_capacity l.taken ≡ vec_capacity l.initial.taken;
}
