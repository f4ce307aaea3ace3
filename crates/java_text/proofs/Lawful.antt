-- The laws of the form of a Java string: two bytes that count the bytes of its MUTF-8, and then
-- these. `specs/Laws.antt` has their statements, and the functions of `laws.rt` promise them.
use Rattle.std.proofs.Common.{◌≡◌, ℕ, List, [], ◌∷◌, ◌++◌, refl, sym, ap, ◌∙◌, subst, arith, append-nil, append_assoc}
use Rattle.std.specs.List.{flat_map}
use Rattle.std.proofs.lemmas.Grind.{flat_map-append}
use Rattle.simd_cesu8.specs.Text.{IsText}
use Rattle.java_text.specs.Form.{HasForm, java_form, BeginsWithForm}
use Rattle.java_text.specs.Laws.{FormIsCut, OneForm, NoFormBeginsAnother, HaveForms, AreReadInTurn, Sequence, EmptyHasNone, OneMore, RestIsRead, NoneFollows, Bounds}
use Rattle.java_text.proofs.Forms.{count_in_form, counted_in_form, rest_in_form, none_begins_truncated}

-- If bytes begin with a form, no byte is missing, and the parts that the count gives are the length
-- of the MUTF-8, the MUTF-8 and the rest.
pub form_is_cut_law : FormIsCut
form_is_cut_law bytes text rest form = (
  (λ truncated. none_begins_truncated bytes truncated text rest form),
  count_in_form bytes text rest form,
  (form.scalars, sym (counted_in_form bytes text rest form)),
  sym (rest_in_form bytes text rest form),
)

-- No form begins another, since bytes begin with at most one form.
pub no_form_begins_another_law : OneForm → NoFormBeginsAnother
no_form_begins_another_law one_form text other rest s f t g e =
    let same = one_form (java_form text) text [] (record { scalars = s; fits = f; bytes_are = sym (append-nil (java_form text)) })
    other rest (record { scalars = t; fits = g; bytes_are = e }) in
    (sym same.0, same.1)

-- A form has two bytes more than the MUTF-8 of its text.
pub bounds_law : Bounds
unfolding java_form
bounds_law text f = (omega arith, omega arith, omega arith)

-- No form begins the empty input.
pub empty_has_none_law : EmptyHasNone
unfolding java_form
empty_has_none_law text rest form = absurd (let e = form.bytes_are in cc)

-- If each of some texts has a form, and one more has, all of them have.
have_forms_more : (texts : List (List ℕ)) (text : List ℕ) → HaveForms texts → IsText text → HasForm text →
    HaveForms (texts ++ text ∷ [])
have_forms_more [] text have is_text fits = (is_text, fits, tt)
have_forms_more (first ∷ texts) text have is_text fits =
    (have.0, have.1, have_forms_more texts text have.2 is_text fits)

-- If a form begins the rest, the bytes begin with one form more.
pub one_more_law : OneMore
one_more_law bytes texts rest text after so_far form =
    let done = flat_map java_form texts in
    let forms : flat_map java_form (texts ++ text ∷ []) ≡ done ++ java_form text =
    simp (flat_map-append, append-nil) in
    record {
      have_forms = have_forms_more texts text so_far.have_forms form.scalars form.fits;
      bytes_are = so_far.bytes_are ∙ rw (forms, form.bytes_are) (sym (append_assoc done (java_form text) after));
    }

-- Bytes that begin with some forms begin with the first of them.
first_begins : (text : List ℕ) (texts : List (List ℕ)) (rest : List ℕ) → HaveForms (text ∷ texts) →
    BeginsWithForm (flat_map java_form (text ∷ texts) ++ rest) text (flat_map java_form texts ++ rest)
first_begins text texts rest have = record {
  scalars = have.0;
  fits = have.1;
  bytes_are = append_assoc (java_form text) (flat_map java_form texts) rest;
}

-- Forms are read as their texts, and then the rest as its texts.
read_after : (texts more : List (List ℕ)) (rest : List ℕ) → HaveForms texts → AreReadInTurn rest more →
    AreReadInTurn (flat_map java_form texts ++ rest) (texts ++ more)
read_after [] more rest have read = read
read_after (text ∷ texts) more rest have read =
    (flat_map java_form texts ++ rest, first_begins text texts rest have, read_after texts more rest have.2 read)

-- Whatever the bytes are read as begins with the texts of these forms.
only_these : OneForm → (texts all : List (List ℕ)) (rest : List ℕ) → HaveForms texts →
    AreReadInTurn (flat_map java_form texts ++ rest) all →
    (more : List (List ℕ)) × (all ≡ texts ++ more) × AreReadInTurn rest more
only_these one_form [] all rest have read = (all, refl, read)
only_these one_form (text ∷ texts) [] rest have read =
    absurd (empty_has_none_law _ _ (subst (λ bs. BeginsWithForm bs text (flat_map java_form texts ++ rest)) read
    (first_begins text texts rest have)))
only_these one_form (text ∷ texts) (other ∷ others) rest have read =
    let same = one_form _ _ _ (first_begins text texts rest have) other read.0 read.1 in
    let found = only_these one_form texts others rest have.2 (subst (λ bs. AreReadInTurn bs others) same.1 read.2) in
    (found.0, ap (λ t. t ∷ others) same.0 ∙ ap (λ ts. text ∷ ts) found.1, found.2)

-- Bytes that begin with some forms are read as their texts, and then as the rest is read.
pub rest_is_read_law : OneForm → RestIsRead
rest_is_read_law one_form bytes texts rest so_far all = (
  (λ read. only_these one_form texts all rest so_far.have_forms (subst (λ bs. AreReadInTurn bs all) so_far.bytes_are read)),
  (λ found. rw (so_far.bytes_are, found.1) (read_after texts found.0 rest so_far.have_forms found.2)),
)

-- If no form begins the rest, the bytes are read as these texts alone.
pub none_follows_law : OneForm → NoneFollows
none_follows_law one_form bytes texts rest so_far none all =
    let follows = rest_is_read_law one_form bytes texts rest so_far all in (
      (λ read. let found = follows.0 read in by found.0 found.1 found.2),
      (λ ends. follows.1 ([], ends.0 ∙ sym (append-nil texts), ends.1)),
    )
  where
    by : (more : List (List ℕ)) → all ≡ texts ++ more → AreReadInTurn rest more → (all ≡ texts) × (rest ≡ [])
    by [] same read = (same ∙ append-nil texts, read)
    by (first ∷ more) same read = absurd (none first read.0 read.1)

-- Consecutive forms are read as their texts, and as no others.
pub sequence_law : OneForm → Sequence
sequence_law one_form texts have =
    let ends = none_follows_law one_form (flat_map java_form texts) texts []
    (record { have_forms = have; bytes_are = sym (append-nil (flat_map java_form texts)) }) empty_has_none_law in
    ((ends texts).1 (refl, refl), (λ others read. ((ends others).0 read).0))
