-- The first part is decoded to an array, and the length of the text of the rest is counted. One
-- vector of both lengths is allocated, and gets the array's text and then that of the rest. No
-- character extends from the first part into the rest (`apart`), so the two texts make up the
-- reading.
use Rattle.std.proofs.Common.{◌≡◌, ◌+◌, ◌<◌, ◌^◌, ◌∙◌, sym, subst, ap, arith, [], ◌++◌, length, take, IfSome}
use Rattle.std.proofs.lemmas.List.{length-take-le}
use Rattle.std.specs.Option.{SomeIff}
use Rattle.cesu8_text.specs.Reading.{lossy_length}
use Rattle.cesu8_bytes.specs.TextChunks.{IsReadSoFar}
use Rattle.cesu8_bytes.specs.declared.strictness.Strictness.TheVariants.{Lossy}
use Rattle.cesu8_decode.proofs.chunks.Strings.{built_after}
use Rattle.cesu8_decode.proofs.destinations.strings.build_chunks.Goals as goal

pub returns : goal.returns
returns g c =
    let f = g.F.Flavor.flavor in
    let bytes = c.args.bytes.now in
    let first = c.first_part.result.0.now in
    let rest = c.first_part.result.1.now in
    let end = c.in-Ok.end in
    let chunk = take end c.write_all.new.out in
    let rest_len : c.in_ok-rest_len.rest_len ≡ lossy_length f rest =
    subst (λ r. IfSome r (λ len. len ≡ lossy_length f rest)) c.in_ok-rest_len.ensures.ok_part c.lossy_len.ensures.some in
    let sum = subst (λ r. SomeIff r (end + c.in_ok-rest_len.rest_len < 2 ^ 64) (end + c.in_ok-rest_len.rest_len)) c.in_ok-len.ensures.ok_part c.checked_add.ensures in
    let items : c.append_by_call.new.out.items ≡ chunk = c.append_by_call.ensures.bytes ∙ ap (λ old. old ++ chunk) c.in_ok-text.ensures.items in
    let long : length c.append_by_call.new.out.items ≡ end =
    ap length items ∙ length-take-le end c.write_all.new.out (omega (arith, c.in-Ok.ensures.end, c.write_all.auto.out, c.first_part.ensures.first)) in
    built_after f bytes first rest c.append_by_call.new.out _ c.first_part.ensures.parts (c.first_part.ensures.apart f)
    (subst (IsReadSoFar f Lossy first [] []) (sym items) c.in-Ok.ensures.text)
    (omega (arith, c.append_by_call.ensures.capacity, c.in_ok-text.ensures.exact, sum.1, rest_len, long)) c.in-Ok-append_chunks.ensures
