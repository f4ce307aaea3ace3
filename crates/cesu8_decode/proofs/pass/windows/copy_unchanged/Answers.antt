-- Unchanged characters are their own text. So a copy of the longest prefix of such characters is
-- its text, and the pass goes on after it. The prefix is one of as many of the remaining bytes as the
-- buffer has space for (`c.min`), so its copy fits (`omega`).
use Rattle.std.proofs.Common.{◌+◌, ◌-◌, refl, sym, subst, arith, length, take, drop}
use Rattle.std.proofs.lemmas.List.{length-take, length-take-le, take_rest}
use Rattle.cesu8_decode.specs.Decoding.{GoesOn}
use Rattle.cesu8_decode.proofs.decoder.Passes.{pass_at, front_goes_on}
use Rattle.cesu8_decode.proofs.pass.windows.copy_unchanged.Goals as goal

pub returns-clause-more : goal.returns-clause-more
returns-clause-more g c which =
    let f = g.F.Flavor.flavor in
    let bytes = c.args.bytes.now in
    let before = c.args.before in
    let len = c.longest_prefix-len.result in
    let put = c.put.ensures in
    subst (λ refused. GoesOn f which bytes (record { read = before.read; end = before.end; is_rejected = refused }) (pass_at (before.read + len) c.put.result) c.args.out.now c.put.new.out)
    (sym c.requires.before.fine)
    (front_goes_on f which bytes _ c.min.result before.read before.end len c.put.result c.requires.before.pass refl (rw take_rest at c.longest_prefix-len.ensures) _ _ (rw take_rest at put)
    (omega (arith, put.writes.end, put.writes.len, length-take-le len _ c.longest_prefix-len.ensures.within, c.longest_prefix-len.ensures.within, length-take c.min.result (take (length bytes - before.read) (drop before.read bytes)), c.min.ensures, c.requires.before.end, c.requires.room)))
