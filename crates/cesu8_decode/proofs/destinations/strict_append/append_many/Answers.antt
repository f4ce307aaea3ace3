-- So far the text of the bytes before `rest` is appended. One proof for each return: the rest has
-- no strict reading, its text is appended by another function, or it is its own text.
use Rattle.std.proofs.Common.{◌∙◌, ◌++◌, refl, sym, ap, arith, drop, length-drop, rules}
use Rattle.std.proofs.lemmas.List.{take_all}
use Rattle.cesu8_bytes.specs.declared.strictness.Strictness.TheVariants.{Strict}
use Rattle.cesu8_decode.proofs.chunks.TextAfterPrefix.{appended_after, prefix_appended, none_appended}
use Rattle.cesu8_decode.proofs.chunks.LongestPrefixes.{none_cut_off}
use Rattle.cesu8_decode.proofs.chunks.ReadChunks.{more_read, none_left, nothing_read}
use Rattle.cesu8_decode.proofs.destinations.strict_append.append_many.Goals as goal

pub loop-len-init : goal.loop-len-init
loop-len-init g c = record {
  read = nothing_read g.F.Flavor.flavor Strict c.args.bytes.now c.args.before.items;
  prefix = c.requires.prefix;
  many = c.requires.many;
  room = c.requires.room;
  capacity = refl;
}

pub returns-in_err-rest : goal.returns-in_err-rest
returns-in_err-rest g c =
    let f = g.F.Flavor.flavor in
    let inv = c.loop-len.invariant in
    appended_after f c.args.bytes.now c.loop-len.rest.now c.args.before c.loop-len.text _ inv.read inv.capacity
    (none_appended f Strict c.loop-len.rest.now c.loop-len.text _ c.from_residual.ensures.0 (refl, c.in_err-rest.ensures.none))

pub returns-then-are_short : goal.returns-then-are_short
returns-then-are_short g c =
    let f = g.F.Flavor.flavor in
    let inv = c.loop-len.invariant in
    let step = c.in_ok-rest.ensures in
    appended_after f c.args.bytes.now c.in_ok-rest.rest.now c.args.before c.append_to_next.new.out c.append_last.result
    (more_read f Strict c.args.bytes.now _ _ _ _ _ inv.read step.read)
    (step.capacity ∙ inv.capacity)
    c.append_last.ensures

pub returns-then-may_be_crossed : goal.returns-then-may_be_crossed
returns-then-may_be_crossed g c =
    let f = g.F.Flavor.flavor in
    let inv = c.loop-len.invariant in
    let step = c.in_ok-rest.ensures in
    let rest = c.in_ok-rest.rest.now in
    appended_after f c.args.bytes.now rest c.args.before c.append_to_next.new.out _
    (more_read f Strict c.args.bytes.now _ _ _ _ _ inv.read step.read)
    (step.capacity ∙ inv.capacity)
    (record { text = tt; capacity = tt; none = (refl, none_cut_off f rest (sym c.may_be_crossed.ensures ∙ c.if-may_be_crossed.true)) })

pub returns-then-not-is_long : goal.returns-then-not-is_long
returns-then-not-is_long g c =
    let f = g.F.Flavor.flavor in
    let inv = c.loop-len.invariant in
    let step = c.in_ok-rest.ensures in
    appended_after f c.args.bytes.now c.in_ok-rest.rest.now c.args.before c.append_to_next.new.out c.append_chunks.result
    (more_read f Strict c.args.bytes.now _ _ _ _ _ inv.read step.read)
    (step.capacity ∙ inv.capacity)
    c.append_chunks.ensures

pub loop-len-preserved : goal.loop-len-preserved
loop-len-preserved g c =
    let inv = c.loop-len.invariant in
    let step = c.in_ok-rest.ensures in
    record {
      read = more_read g.F.Flavor.flavor Strict c.args.bytes.now _ _ _ _ _ inv.read step.read;
      prefix = c.longest_prefix-len.ensures;
      many = search rules;
      room = step.room;
      capacity = step.capacity ∙ inv.capacity;
    }

pub returns : goal.returns
returns g c =
    let f = g.F.Flavor.flavor in
    let inv = c.loop-len.invariant in
    let rest = c.loop-len.rest.now in
    let n = c.loop-len.len in
    let prefix = c.append.ensures.bytes ∙ ap (λ bs. c.loop-len.text.items ++ bs) (sym (take_all n rest (omega (arith, c.loop-len-test.false)))) in
    record {
      text = none_left f Strict c.args.bytes.now (drop n rest) _ _
          (prefix_appended f rest n inv.prefix c.args.bytes.now _ _ _ inv.read prefix)
          (omega (arith, length-drop n rest, c.loop-len-test.false));
      capacity = c.append.ensures.capacity ∙ inv.capacity;
      none = tt;
    }
