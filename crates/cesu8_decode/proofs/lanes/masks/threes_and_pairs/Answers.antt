-- A lead byte from E0 to EF that precedes two continuation bytes begins a character of three bytes
-- if the second byte is in range. ED before A0 or more begins a surrogate instead. A high surrogate
-- begins a pair if a low one follows it. The two later returns have the same first mask, so the
-- proof that it is right stands twice.
use Rattle.std.proofs.Common.{eqb, refl, arith}
use Rattle.cesu8_decode.proofs.decoder.MaskBits.{class_bits, lanes_below}
use Rattle.cesu8_decode.proofs.decoder.ThreeMasks.{none_are, threes_are, no_pairs_are, pairs_are}
use Rattle.cesu8_decode.proofs.lanes.masks.threes_and_pairs.Goals as goal

pub returns-then-leads-eq0 : goal.returns-then-leads-eq0
returns-then-leads-eq0 g c =
    let are = none_are c.args.lanes c.if-leads-eq0.true c.requires.leads in
    record { threes = are.0; pairs = are.1 }

pub returns-then-surrogates-eq0-clause-threes : goal.returns-then-surrogates-eq0-clause-threes
returns-then-surrogates-eq0-clause-threes g c =
    let xs = c.args.lanes in
    threes_are xs (lanes_below xs c.fits-lanes.1) c.requires.leads c.requires.second c.bits_below-odd.ensures (omega arith) (omega arith)
    c.requires.wide (class_bits (λ b. eqb b 0xED) xs refl c.bits.ensures) (class_bits (λ b. eqb b 0xE0) xs refl c.bits-2.ensures) (omega arith) (omega arith)

pub returns-then-surrogates-eq0-clause-pairs : goal.returns-then-surrogates-eq0-clause-pairs
returns-then-surrogates-eq0-clause-pairs g c =
    let xs = c.args.lanes in
    no_pairs_are xs (lanes_below xs c.fits-lanes.1) c.requires.leads c.requires.second c.bits_below-odd.ensures (omega arith) (omega arith)
    c.requires.wide (class_bits (λ b. eqb b 0xED) xs refl c.bits.ensures) (class_bits (λ b. eqb b 0xE0) xs refl c.bits-2.ensures) (omega arith) (omega arith) c.if-surrogates-eq0.true

pub returns-clause-threes : goal.returns-clause-threes
returns-clause-threes g c =
    let xs = c.args.lanes in
    threes_are xs (lanes_below xs c.fits-lanes.1) c.requires.leads c.requires.second c.bits_below-odd.ensures (omega arith) (omega arith)
    c.requires.wide (class_bits (λ b. eqb b 0xED) xs refl c.bits.ensures) (class_bits (λ b. eqb b 0xE0) xs refl c.bits-2.ensures) (omega arith) (omega arith)

pub returns-clause-pairs : goal.returns-clause-pairs
returns-clause-pairs g c =
    let xs = c.args.lanes in
    pairs_are xs (lanes_below xs c.fits-lanes.1) c.requires.leads c.requires.second c.bits_below-odd.ensures (omega arith) (omega arith)
    c.requires.wide (class_bits (λ b. eqb b 0xED) xs refl c.bits.ensures) (class_bits (λ b. eqb b 0xE0) xs refl c.bits-2.ensures) (omega arith) (omega arith)
