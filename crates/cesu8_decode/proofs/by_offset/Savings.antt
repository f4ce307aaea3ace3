-- The length of the lossy reading, as `lossy_len` counts it: three bytes for each byte, as if
-- U+FFFD replaced it, less what each offset saves (`saved`).
use Rattle.std.proofs.Common.{◌≡◌, ℕ, ◌+◌, ◌*◌, ◌^◌, ◌-◌, ◌<◌, ◌≤◌, ⊎_elim, List, [], ◌∷◌, ◌++◌, refl, ap, ◌∙◌, arith, length, length-append, Result, Ok, Err}
use Rattle.std.specs.Option.{IfSome, IfNone}
use Rattle.std.specs.Result.{OkIff, result_ok}
use Rattle.std.proofs.lemmas.Bool.{ne_eqb, cases_lt}
use Rattle.cesu8_text.specs.Text.{IsScalarValue, utf8_of, utf8}
use Rattle.cesu8_text.specs.Encoding.{Flavor, encoding}
use Rattle.cesu8_text.specs.Reading.{width, lossy_length}
use Rattle.cesu8_decode.specs.DecodedOffsets.{saved, total_saved}
use Rattle.cesu8_text.proofs.text.Shapes.{Shape, one, two, three, pair, shape, utf8_of_one, utf8_of_two, utf8_of_three, utf8_of_pair}
use Rattle.cesu8_text.proofs.encoding.Forms.{encoding_two, encoding_three, encoding_pair}
use Rattle.cesu8_text.proofs.reading.Decoding.{length_utf8_replaced}
use Rattle.cesu8_decode.proofs.by_offset.WidthTests.{ascii_forms}
use Rattle.cesu8_decode.proofs.by_offset.SavedTotals.{first_saves, replaced_saves}
use Rattle.cesu8_text.proofs.reading.Cuttings.{by_reading}

-- What a character saves, plus the length of its UTF-8, is three times the length of its encoding.
abbrev Saves : Flavor → ℕ → List ℕ → Type 0
Saves f c rest = total_saved f (encoding f (c ∷ []) ++ rest) + length (utf8_of c) ≡ 3 * width f c + total_saved f rest

-- For `Saves` it is enough to compute with n, the length of the UTF-8, and with what `saved`
-- returns for the length of the encoding and its first byte b.
by_lengths : (f : Flavor) (c b n : ℕ) (prefix rest : List ℕ) → IsScalarValue c → encoding f (c ∷ []) ≡ b ∷ prefix →
    length (utf8_of c) ≡ n → n + saved (length (b ∷ prefix)) b ≡ 3 * length (b ∷ prefix) → Saves f c rest
by_lengths f c b n prefix rest scalar same in_utf8 fits = omega (arith, first_saves f c b prefix rest scalar same, ap length same, in_utf8, fits)

character_saves : (f : Flavor) (c : ℕ) (rest : List ℕ) → IsScalarValue c → Shape c → Saves f c rest
character_saves f c rest scalar (one ascii) =
    let in_utf8 = ap length (utf8_of_one c ascii) in
    ⊎_elim (λ same. by_lengths f c c 1 [] rest scalar same in_utf8 refl)
    (λ null. by_lengths f c 0xC0 1 (0x80 ∷ []) rest scalar null.1 in_utf8 refl) (ascii_forms f c ascii)
character_saves f c rest scalar (two x y digits) =
    by_lengths f c (0xC0 + x) 2 ((0x80 + y) ∷ []) rest scalar (encoding_two f c x y digits) (ap length (utf8_of_two c x y digits))
    (rw (ne_eqb (0xC0 + x) 0xC0 (λ e. omega (arith, digits.low))) refl)
character_saves f c rest scalar (three x y z digits) =
    by_lengths f c (0xE0 + x) 3 ((0x80 + y) ∷ (0x80 + z) ∷ []) rest scalar (encoding_three f c x y z digits) (ap length (utf8_of_three c x y z digits)) refl
character_saves f c rest scalar (pair w x y z digits) =
    by_lengths f c 0xED 4 ((0xA0 + w) ∷ (0x80 + x) ∷ 0xED ∷ (0xB0 + y) ∷ (0x80 + z) ∷ []) rest scalar
    (encoding_pair f c w x y z digits) (ap length (utf8_of_pair c w x y z digits)) refl

-- The length of the lossy reading is three times that of the bytes, less what all offsets save.
pub lossy_length_by_savings : (f : Flavor) (bytes : List ℕ) → lossy_length f bytes + total_saved f bytes ≡ 3 * length bytes
unfolding lossy_length total_saved
lossy_length_by_savings f bytes =
    by_reading f (λ bytes text. length (utf8 text) + total_saved f bytes ≡ 3 * length bytes) refl
    (λ c rest text scalar same.
    omega (arith, same, character_saves f c rest scalar (shape c scalar), length-append (utf8_of c) (utf8 text), length-append (encoding f (c ∷ [])) rest))
    (λ b rest text none same. omega (arith, same, replaced_saves f b rest none, length_utf8_replaced text)) bytes

-- A conversion to `usize` gives the length if it fits. If it fails, the length does not fit.
pub length_given : {E : Type 0} (r : Result ℕ E) (n len : ℕ) → OkIff r (n < 2 ^ 64) n → n ≡ len →
    IfSome (result_ok r) (λ m. m ≡ len) × IfNone (result_ok r) (2 ^ 64 - 1 < len)
length_given (Ok m) n len given same = (given.1 ∙ same, tt)
length_given (Err e) n len given same = (tt, ⊎_elim (λ fits. absurd (given fits)) (λ (past : 2 ^ 64 ≤ n). omega arith) (cases_lt n (2 ^ 64)))
