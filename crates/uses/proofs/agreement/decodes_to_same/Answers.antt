-- By the law `inverse` the decoded string is the text. If the text needs no encoding, its encoding
-- is unchanged UTF-8, so `decode_strict` borrows it and cannot fail.
use Rattle.std.proofs.Common.{◌∙◌, rules}
use Rattle.std.specs.Str.{chars}
use Rattle.simd_cesu8.specs.Encoding.{Cesu8}
use Rattle.uses.proofs.agreement.decodes_to_same.Goals as goal

pub returns-in-Ok-clause-same : goal.returns-in-Ok-clause-same
returns-in-Ok-clause-same c =
    let same = c.inverse.ensures.decoded Cesu8 c.args.text.now _ c.as_str.result.now c.utf8.text c.as_str.utf8
    (c.as_bytes.ensures ∙ c.in_ok-encoded.ensures.encoding) (rw c.as_str.ensures c.in-Ok.ensures.text) in
    search (rules, same)

pub returns-in-Err-Memory-clause-succeeds : goal.returns-in-Err-Memory-clause-succeeds
returns-in-Err-Memory-clause-succeeds c usual =
    let text = c.args.text.now in
    let unchanged = (c.unchanged.ensures.encoding Cesu8 (chars text) (c.chars.ensures.text text c.utf8.text)).0 usual in
    c.in-Err-Memory.ensures.succeeds (rw (c.as_bytes.ensures, c.in_ok-encoded.ensures.encoding) unchanged)
