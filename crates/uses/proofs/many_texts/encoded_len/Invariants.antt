-- The total is the length of the encodings of the texts so far.
use Rattle.std.proofs.Common.{◌≡◌, length, take}
use Rattle.std.specs.List.{flat_map}
use Rattle.uses.proofs.JoinedTexts.{encoded}
use Rattle.uses.proofs.many_texts.encoded_len.Given as goal

abbrev pub invariant-loop-text : goal.invariant-loop-text
invariant-loop-text l = l.total ≡ length (flat_map encoded (take l.text-index l.texts))
