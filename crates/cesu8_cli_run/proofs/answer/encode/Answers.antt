-- `encode` matches on the flavor and calls the encoder for it. What that call promises for a fixed
-- flavor holds for `flavor_of` the argument. If the command promises to allocate nothing, the text
-- needs no encoding (`needs_none`). Then the call borrows it, and cannot fail for want of memory.
use Rattle.std.proofs.Common.{ap}
use Rattle.std.specs.Str.{chars}
use Rattle.simd_cesu8.specs.Encoding.{Cesu8, Mutf8}
use Rattle.cesu8_cli_run.specs.Command.{flavor_of}
use Rattle.cesu8_cli_run.proofs.Encoded.{encoded, needs_none}
use Rattle.cesu8_cli_run.proofs.answer.encode.Goals as goal

pub returns-in_ok-encode-in-Cesu8-clause-ok : goal.returns-in_ok-encode-in-Cesu8-clause-ok
returns-in_ok-encode-in-Cesu8-clause-ok c =
    encoded c.args.flavor Cesu8 c.args.input.now (chars c.in_ok-text.text.now) _ (ap flavor_of c.in-Cesu8.is)
    c.in_ok-text.ensures.ok c.in_ok-encode-in-Cesu8.ensures.encoding

pub returns-in_ok-encode-in-Mutf8-clause-ok : goal.returns-in_ok-encode-in-Mutf8-clause-ok
returns-in_ok-encode-in-Mutf8-clause-ok c =
    encoded c.args.flavor Mutf8 c.args.input.now (chars c.in_ok-text.text.now) _ (ap flavor_of c.in-Mutf8.is)
    c.in_ok-text.ensures.ok c.in_ok-encode-in-Mutf8.ensures.encoding

pub returns-in_err-encode-in-Cesu8-clause-memory : goal.returns-in_err-encode-in-Cesu8-clause-memory
returns-in_err-encode-in-Cesu8-clause-memory c none _ =
    cc (c.in_err-encode-in-Cesu8.ensures.succeeds
    (needs_none c.unchanged.ensures.string c.args.flavor Cesu8 c.args.input.now (chars c.in_ok-text.text.now)
    (ap flavor_of c.in-Cesu8.is) c.in_ok-text.ensures.ok none))

pub returns-in_err-encode-in-Mutf8-clause-memory : goal.returns-in_err-encode-in-Mutf8-clause-memory
returns-in_err-encode-in-Mutf8-clause-memory c none _ =
    cc (c.in_err-encode-in-Mutf8.ensures.succeeds
    (needs_none c.unchanged.ensures.string c.args.flavor Mutf8 c.args.input.now (chars c.in_ok-text.text.now)
    (ap flavor_of c.in-Mutf8.is) c.in_ok-text.ensures.ok none))
