-- Each vector replaces what was appended from its offset on. The first begins at 0, each begins no
-- later than the one before it ends, and the last ends with the bytes.
use Rattle.std.proofs.Common.{◌≡◌, ◌++◌, ◌∙◌, ap, arith, length, append-nil, sym, rules}
use Rattle.std.proofs.lemmas.List.{take_all}
use Rattle.cesu8_bytes.proofs.writing.copies.append_four.Goals as goal

pub returns : goal.returns
returns g c =
    let before = c.args.out.now.items in
    let bytes = c.args.bytes.now in
    let start : length before ≡ c.len-start.result = search rules in
    let first = c.append_at.ensures.bytes before 0 start (omega arith) (sym (append-nil before)) in
    let second = c.append_at-2.ensures.bytes before _ start (omega arith) first in
    let third = c.append_at-3.ensures.bytes before _ start (omega arith) second in
    let fourth = c.append_at-4.ensures.bytes before _ start (omega arith) third in
    record {
      bytes = fourth ∙ ap (λ xs. before ++ xs) (take_all _ bytes (omega arith));
      len = search rules;
      capacity = search rules;
    }
