-- Conversions of parts of the input, one after the other. `a` and `p` are consecutive parts, and
-- `rest` is the input after them that is known. `s` and `t` are the texts of the two parts, and `x`
-- and `y` what is written for them. `concat` is the law that the encoding of two texts, joined, is
-- their encodings, joined.
use Rattle.std.proofs.Common.{◌≡◌, ℕ, Bool, true, false, List, [], ◌∷◌, ◌++◌, refl, sym, ap, ◌∙◌, append_assoc}
use Rattle.std.proofs.lemmas.List.{append-nil}
use Rattle.std.proofs.lemmas.List.Concat.{flat_map-append}
use Rattle.std.specs.List.{flat_map}
use Rattle.simd_cesu8.specs.Text.{IsText, utf8, utf8_of}
use Rattle.simd_cesu8.specs.Encoding.{Flavor, encoding}
use Rattle.simd_cesu8.specs.Reading.{reading}
use Rattle.simd_cesu8.specs.Laws.{Concat}
use Rattle.cesu8conv_run.specs.Conversion.{flavor_of, Part, bytes_of_part, text_of_part, AreParts, IsMixed, MayFollow, IsTextOf, written_as, Converts, IsOutput, IsDamagedAhead}
use Rattle.cesu8conv_run.specs.declared.conversion.Conversion.{Conversion}
use Rattle.cesu8conv_run.specs.declared.conversion.Conversion.TheVariants.{Encode, Decode, Lossy, Mixed, MixedLossy}

-- Two texts, joined, are a text.
pub IsText-append : (s t : List ℕ) → IsText s → IsText t → IsText (s ++ t)
IsText-append [] t h k = k
IsText-append (c ∷ s) t h k = (h.0, IsText-append s t h.1 k)

-- The UTF-8 of two texts, joined, is that of both.
pub utf8-append : (s t : List ℕ) → utf8 (s ++ t) ≡ utf8 s ++ utf8 t
utf8-append s t = flat_map-append utf8_of s t

pub AreParts-append : (replaces : Bool) (ps qs : List Part) → AreParts replaces ps → AreParts replaces qs →
    AreParts replaces (ps ++ qs)
AreParts-append replaces [] qs h k = k
AreParts-append replaces (p ∷ ps) qs h k = (h.0, AreParts-append replaces ps qs h.1 k)

-- Mixed bytes, joined, are mixed.
pub IsMixed-append : (replaces : Bool) (f : Flavor) (a b s t : List ℕ) → IsMixed replaces f a s →
    IsMixed replaces f b t → IsMixed replaces f (a ++ b) (s ++ t)
IsMixed-append replaces f a b s t p q = record {
  parts = p.parts ++ q.parts;
  are_parts = AreParts-append replaces p.parts q.parts p.are_parts q.are_parts;
  bytes_are = flat_map-append (bytes_of_part f) p.parts q.parts ∙ ap (λ x. x ++ flat_map (bytes_of_part f) q.parts) p.bytes_are
      ∙ ap (λ x. a ++ x) q.bytes_are;
  text_is = flat_map-append text_of_part p.parts q.parts ∙ ap (λ x. x ++ flat_map text_of_part q.parts) p.text_is
      ∙ ap (λ x. s ++ x) q.text_is;
}

-- Each conversion writes two texts, joined, as one after the other.
pub written-append : Concat → (c : Conversion) (s t : List ℕ) → written_as c (s ++ t) ≡ written_as c s ++ written_as c t
written-append concat (Encode word) s t = concat (flavor_of word) s t
written-append concat (Decode word) s t = utf8-append s t
written-append concat (Lossy word) s t = utf8-append s t
written-append concat (Mixed word) s t = utf8-append s t
written-append concat (MixedLossy word) s t = utf8-append s t

-- The texts of two parts of the input, joined, are the text of both parts together.
pub text-append : Concat → (c : Conversion) (is_last : Bool) (a p rest s t : List ℕ) →
    IsTextOf c is_last a (p ++ rest) s → IsTextOf c is_last p rest t → IsTextOf c is_last (a ++ p) rest (s ++ t)
text-append concat (Encode word) is_last a p rest s t h k =
    (IsText-append s t h.0 k.0, utf8-append s t ∙ ap (λ x. x ++ utf8 t) h.1 ∙ ap (λ x. a ++ x) k.1)
text-append concat (Decode word) is_last a p rest s t h k = (
  IsText-append s t h.0 k.0,
  concat (flavor_of word) s t ∙ ap (λ x. x ++ encoding (flavor_of word) t) h.1 ∙ ap (λ x. a ++ x) k.1,
)
text-append concat (Lossy word) is_last a p rest s t h k = λ more follows.
    let f = flavor_of word in
    ap (λ x. reading f x) (append_assoc a p (rest ++ more) ∙ ap (λ x. a ++ x) (sym (append_assoc p rest more)))
    ∙ h more follows ∙ ap (λ x. s ++ reading f x) (append_assoc p rest more) ∙ ap (λ x. s ++ x) (k more follows)
    ∙ sym (append_assoc s t (reading f (rest ++ more)))
text-append concat (Mixed word) is_last a p rest s t h k = IsMixed-append false (flavor_of word) a p s t h k
text-append concat (MixedLossy word) is_last a p rest s t h k = IsMixed-append true (flavor_of word) a p s t h k

-- What two parts of the input became, joined, is what both parts together became.
pub converts-append : Concat → (c : Conversion) (is_last : Bool) (a p rest x y : List ℕ) →
    Converts c is_last a (p ++ rest) x → Converts c is_last p rest y → Converts c is_last (a ++ p) rest (x ++ y)
converts-append concat c is_last a p rest x y h k = record {
  text = h.text ++ k.text;
  is_text = text-append concat c is_last a p rest h.text k.text h.is_text k.is_text;
  written_is = ap (λ z. z ++ y) h.written_is ∙ ap (λ z. written_as c h.text ++ z) k.written_is
      ∙ sym (written-append concat c h.text k.text);
}

-- The empty part of the input has the empty text, and becomes no bytes.
pub text-nil : (c : Conversion) (is_last : Bool) (ahead : List ℕ) → IsTextOf c is_last [] ahead []
unfolding encoding
text-nil (Encode word) is_last ahead = (tt, refl)
text-nil (Decode word) is_last ahead = (tt, refl)
text-nil (Lossy word) is_last ahead = λ more follows. refl
text-nil (Mixed word) is_last ahead = record { parts = []; are_parts = tt; bytes_are = refl; text_is = refl }
text-nil (MixedLossy word) is_last ahead = record { parts = []; are_parts = tt; bytes_are = refl; text_is = refl }

pub written-nil : (c : Conversion) → [] ≡ written_as c []
unfolding encoding
written-nil (Encode word) = refl
written-nil (Decode word) = refl
written-nil (Lossy word) = refl
written-nil (Mixed word) = refl
written-nil (MixedLossy word) = refl

pub converts-nil : (c : Conversion) (is_last : Bool) (ahead : List ℕ) → Converts c is_last [] ahead []
converts-nil c is_last ahead = record {
  text = [];
  is_text = text-nil c is_last ahead;
  written_is = written-nil c;
}

-- A text that is right whatever follows is still right after more input is read, and if that is the
-- last.
pub text-read : (c : Conversion) (is_last : Bool) (a ahead more s : List ℕ) → IsTextOf c false a ahead s →
    IsTextOf c is_last a (ahead ++ more) s
text-read (Encode word) is_last a ahead more s h = h
text-read (Decode word) is_last a ahead more s h = h
text-read (Lossy word) is_last a ahead more s h = λ after follows.
    let f = flavor_of word in
    let e : (ahead ++ more) ++ after ≡ ahead ++ (more ++ after) = append_assoc ahead more after in
    ap (λ x. reading f (a ++ x)) e ∙ h (more ++ after) tt ∙ ap (λ x. s ++ reading f x) (sym e)
text-read (Mixed word) is_last a ahead more s h = h
text-read (MixedLossy word) is_last a ahead more s h = h

pub converts-read : (c : Conversion) (is_last : Bool) (a ahead more x : List ℕ) → Converts c false a ahead x →
    Converts c is_last a (ahead ++ more) x
converts-read c is_last a ahead more x h = record {
  text = h.text;
  is_text = text-read c is_last a ahead more h.text h.is_text;
  written_is = h.written_is;
}

-- The input may always end here.
pub may-end : (is_last : Bool) → MayFollow is_last []
may-end true = refl
may-end false = tt

-- The lossy reading of no bytes is empty.
pub reading-nil : (f : Flavor) → reading f [] ≡ []
unfolding reading
reading-nil f = refl

-- If a lossy conversion took all of the input `a`, its text is the lossy reading of `a`.
pub reading-of-all : (f : Flavor) (is_last : Bool) (a text : List ℕ) →
    ((more : List ℕ) → MayFollow is_last more → reading f (a ++ ([] ++ more)) ≡ text ++ reading f ([] ++ more)) →
    text ≡ reading f a
reading-of-all f is_last a text h =
    sym (append-nil text) ∙ ap (λ y. text ++ y) (sym (reading-nil f)) ∙ sym (h [] (may-end is_last)) ∙ ap (λ y. reading f y) (append-nil a)

-- If no bytes are ahead, what was taken is the input, and what was written is its output.
pub output-of-all : (c : Conversion) (is_last : Bool) (a x : List ℕ) → Converts c is_last a [] x → IsOutput c a x
output-of-all (Encode word) is_last a x h = (h.text, h.is_text, h.written_is)
output-of-all (Decode word) is_last a x h = (h.text, h.is_text, h.written_is)
output-of-all (Lossy word) is_last a x h =
    h.written_is ∙ ap utf8 (reading-of-all (flavor_of word) is_last a h.text h.is_text)
output-of-all (Mixed word) is_last a x h = (h.text, h.is_text, h.written_is)
output-of-all (MixedLossy word) is_last a x h = (h.text, h.is_text, h.written_is)

-- If damage is ahead, what was written is the output for what was taken. For the lossy conversions
-- nothing is damage.
pub output-to-damage : (c : Conversion) (is_last : Bool) (a ahead x : List ℕ) → Converts c is_last a ahead x →
    IsDamagedAhead c is_last ahead → IsOutput c a x
output-to-damage (Encode word) is_last a ahead x h damage = (h.text, h.is_text, h.written_is)
output-to-damage (Decode word) is_last a ahead x h damage = (h.text, h.is_text, h.written_is)
output-to-damage (Lossy word) is_last a ahead x h damage = absurd (damage [] (may-end is_last))
output-to-damage (Mixed word) is_last a ahead x h damage = (h.text, h.is_text, h.written_is)
output-to-damage (MixedLossy word) is_last a ahead x h damage = absurd (damage [] (may-end is_last))
