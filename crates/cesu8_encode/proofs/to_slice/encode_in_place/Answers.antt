-- The slice that is written to is as long as the encoding, so the encoding fills it. `needed` and
-- `unchanged` say something of an error only, and this return is `Ok`, so `tt` proves them.
use Rattle.std.proofs.Common.{◌∙◌, sym, ap, ℕ, arith, rules, drop, length, ◌++◌, ◌≤◌}
use Rattle.std.proofs.lemmas.List.{take_all, length-take}
use Rattle.cesu8_encode.proofs.to_slice.encode_in_place.Goals as goal

pub returns : goal.returns
returns g c =
    let whole : length c.write_blocks.new.out ≤ c.write_blocks.result =
    omega (arith, ap length c.write_blocks.ensures.bytes, length-take {A = ℕ}) in
    record {
      written = (
        c.encoded_len-len.ensures,
        ap (λ bytes. bytes ++ drop c.encoded_len-len.result c.args.buf.now)
            (sym (take_all c.write_blocks.result c.write_blocks.new.out whole) ∙ c.write_blocks.ensures.bytes),
      );
      fits = search rules;
      needed = tt;
      unchanged = tt;
    }
