-- If `len` is at most 64, the vector appends the first 64 bytes, of which there are at least as many,
-- from offset 0 on. Truncating keeps the first `len` of them. If `len` is more, `append` promises what
-- is to be shown.
use Rattle.std.proofs.Common.{◌≡◌, ◌+◌, ◌++◌, ◌∙◌, ap, arith, length, take, append-nil, sym, rules}
use Rattle.std.proofs.Math.Seq.{take-append-add}
use Rattle.std.proofs.lemmas.List.{take-take, length-take-le}
use Rattle.cesu8_bytes.proofs.writing.copies.append_prefix.Goals as goal

pub returns : goal.returns
returns c =
    let before = c.args.out.now.items in
    let bytes = c.args.bytes.now in
    let len = c.args.len in
    let start : length before ≡ c.len-start.result = search rules in
    let vector = c.append_at.ensures.bytes before 0 start (omega arith) (ap (λ taken. taken.items) c.replace-taken.ensures.value ∙ sym (append-nil before)) in
    record {
      bytes = c.truncate.ensures.items ∙ ap (take (c.len-start.result + len)) vector
          ∙ ap (λ n. take (n + len) (before ++ take 64 bytes)) (sym start)
          ∙ take-append-add before (take 64 bytes) len
          ∙ ap (λ xs. before ++ xs) (take-take len 64 bytes (omega (arith, c.if-len-gt-LANES.false)));
      len = omega (arith, c.truncate.ensures.len, c.append_at.ensures.len, length-take-le len bytes c.requires.len);
      capacity = search rules;
    }
