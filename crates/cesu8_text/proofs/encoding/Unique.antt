-- Bytes begin with at most one encoded character, so if a prefix of an encoding is an encoding, the
-- rest is one too.
use Rattle.std.proofs.lemmas.Bool.Decides.{nat_tests}
use Rattle.std.proofs.Common.{◌≡◌, ℕ, ◌<◌, List, [], ◌∷◌, ◌++◌, sym, ap, ◌∙◌, arith, length, append_assoc, length-append}
use Rattle.std.proofs.lemmas.List.{append_cancel_left}
use Rattle.cesu8_text.specs.Text.{IsScalarValue, IsText}
use Rattle.cesu8_text.specs.Utf16.{units_of}
use Rattle.cesu8_text.specs.Encoding.{Flavor, form, encoding}
use Rattle.cesu8_text.specs.Reading.{NoneBegins, BeginsWith, IsStrictReading, HasNoStrictReading}
use Rattle.cesu8_text.proofs.encoding.Encodings.{encoding_nil, encoding_cons}
use Rattle.cesu8_text.proofs.encoding.Lengths.{length_of_character}

-- Two characters whose encodings begin the same bytes are equal.
same_first : (f : Flavor) (c d : ℕ) (r q : List ℕ) → IsScalarValue c → IsScalarValue d →
    encoding f (c ∷ []) ++ r ≡ encoding f (d ∷ []) ++ q → c ≡ d
unfolding encoding form units_of
same_first f c d r q scalar other_scalar same = grind (arith, nat_tests)

-- If bytes begin with c and also with d, these characters are equal, and so is what follows them.
pub same_character : (f : Flavor) (bytes : List ℕ) (c d : ℕ) (r q : List ℕ) → BeginsWith f bytes c r → BeginsWith f bytes d q →
    (c ≡ d) × (r ≡ q)
same_character f bytes c d r q begins other_begins =
    let whole = sym begins.bytes_are ∙ other_begins.bytes_are in
    let first = same_first f c d r q begins.scalar other_begins.scalar whole in
    (first, append_cancel_left (encoding f (d ∷ [])) r q (rw first at whole))

-- The bytes are the encoding of some text.
pub record Rest (f : Flavor) (rest : List ℕ) : Type 0 where
  pub text : List ℕ
  pub reading : IsStrictReading f rest text

-- If an encoding begins with the encoding of a text, what follows is an encoding.
pub after_text : (f : Flavor) (text whole rest : List ℕ) → IsText text → IsText whole →
    encoding f whole ≡ encoding f text ++ rest → Rest f rest
after_text f [] whole rest is_text whole_is_text same =
    record { text = whole; reading = (whole_is_text, rw (encoding_nil f) at same) }
after_text f (c ∷ text) [] rest is_text whole_is_text same =
    let nothing = ap length (sym (encoding_nil f) ∙ same) in
    grind (arith, length_of_character f c is_text.0, nothing, encoding_cons f c text, length-append)
after_text f (c ∷ text) (d ∷ whole) rest is_text whole_is_text same =
    after_text f text whole rest is_text.1 whole_is_text.1
    (grind (
      arith,
      same_character f (encoding f (d ∷ whole)) c d (encoding f text ++ rest) (encoding f whole),
      encoding_cons f c text,
      encoding_cons f d whole,
      append_assoc,
    ))

-- If there are bytes and no character begins them, they have no strict reading.
none_reads : (f : Flavor) (rest : List ℕ) → 0 < length rest → NoneBegins f rest → HasNoStrictReading f rest
none_reads f rest some none_begins [] reads = grind (arith, encoding_nil)
none_reads f rest some none_begins (c ∷ text) reads = grind (arith, encoding_cons)

-- Bytes that begin with an encoded text are no encoding if more bytes follow and these begin with
-- no character.
pub no_reading : (f : Flavor) (bytes text rest : List ℕ) → IsText text → bytes ≡ encoding f text ++ rest → 0 < length rest →
    NoneBegins f rest → HasNoStrictReading f bytes
no_reading f bytes text rest is_text bytes_are some none_begins whole reads =
    let found = after_text f text whole rest is_text reads.0 (reads.1 ∙ bytes_are) in
    none_reads f rest some none_begins found.text found.reading
