-- An encoding is read as its text, so texts with equal encodings are equal (`encoding_injective`).
use Rattle.cesu8_text.proofs.order.Lawful.{round_trip_law}
use Rattle.simd_cesu8.proofs.laws.round_trip.Goals as goal

pub returns : goal.returns
returns c = round_trip_law
