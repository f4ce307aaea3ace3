-- The encodings of the texts so far were appended, and the capacity is still enough for all.
use Rattle.std.proofs.Common.{◌≡◌, ◌≤◌, ◌+◌, ◌++◌, length, take, vec_len, vec_capacity}
use Rattle.std.specs.List.{flat_map}
use Rattle.uses.proofs.JoinedTexts.{encoded}
use Rattle.uses.proofs.many_texts.append_all.Given as goal

abbrev pub invariant-loop-text : goal.invariant-loop-text
invariant-loop-text l = record {
  items : l.buf.items ≡ l.initial.buf.items ++ flat_map encoded (take l.text-index l.texts);
  room : vec_len l.initial.buf + length (flat_map encoded l.texts) ≤ vec_capacity l.buf;
}
