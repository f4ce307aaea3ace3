-- One proof for each return but `NoText`. If no byte is ill-formed, the lossy reading is the strict
-- one, which is never longer than the input. So in strict decoding a slice as long as the input is
-- long enough. In every other case the length of the slice is compared with the counted one.
use Rattle.std.proofs.Common.{◌≡◌, ◌<◌, ◌^◌, rules, arith}
use Rattle.cesu8_text.specs.Reading.{IsStrictReading, reading, lossy_length}
use Rattle.cesu8_bytes.specs.declared.strictness.Strictness.TheVariants.{Strict}
use Rattle.cesu8_decode.proofs.chunks.SliceReadings.{strict_no_longer, only_reading, answer_put, room_lacks, length_lacks}
use Rattle.cesu8_decode.proofs.destinations.slices.put_many.Goals as goal
use Rattle.cesu8_decode.proofs.destinations.slices.put_many.Goals.{in-Strict+else-is_ill_formed+else-bytes-buf, in_default}

pub put_chunks-requires : goal.put_chunks-requires
put_chunks-requires g c =
    omega (arith, strict_no_longer g.F.Flavor.flavor c.args.bytes.now (c.is_ill_formed.ensures.whole c.if-is_ill_formed.false))

pub returns-then-bytes-buf : goal.returns-then-bytes-buf
unfolding lossy_length
returns-then-bytes-buf g c =
    let f = g.F.Flavor.flavor in
    let bytes = c.args.bytes.now in
    let whole = c.is_ill_formed.ensures.whole c.if-is_ill_formed.false in
    let room = strict_no_longer f bytes whole in
    answer_put g.S.Reading.which _ _ _ c.args.buf.now (only_reading f g.S.Reading.which bytes (λ _. whole)) (omega (arith, room)) _ _
    (omega (arith, room)) c.put_chunks.ensures

pub returns-in-Some : goal.returns-in-Some
unfolding lossy_length
returns-in-Some g c =
    let f = g.F.Flavor.flavor in
    let bytes = c.args.bytes.now in
    let whole : g.S.Reading.which ≡ Strict → IsStrictReading f bytes (reading f bytes) = search rules in
    let len = c.in-Some.ensures.some in
    answer_put g.S.Reading.which _ _ _ c.args.buf.now (only_reading f g.S.Reading.which bytes whole) (omega (arith, len)) _ _
    (omega (arith, len)) c.put_chunks-in-Some.ensures

pub returns-in-Some-2 : goal.returns-in-Some-2
unfolding lossy_length
returns-in-Some-2 g c =
    let f = g.F.Flavor.flavor in
    let bytes = c.args.bytes.now in
    let whole : g.S.Reading.which ≡ Strict → IsStrictReading f bytes (reading f bytes) = search rules in
    let fits : c.in-Some.len < 2 ^ 64 = search rules in
    room_lacks g.S.Reading.which _ _ _ c.args.buf.now (only_reading f g.S.Reading.which bytes whole) (omega (arith, c.in-Some.ensures.some)) _
    c.in-Some.ensures.some (omega (arith, c.in-Some.ensures.some))

pub returns-in-None : goal.returns-in-None
returns-in-None g c =
    let f = g.F.Flavor.flavor in
    let bytes = c.args.bytes.now in
    let whole : g.S.Reading.which ≡ Strict → IsStrictReading f bytes (reading f bytes) = search rules in
    length_lacks f g.S.Reading.which bytes c.args.buf.now whole (omega arith) (omega arith) (omega (arith, c.in-None.ensures.none))
