-- The unchanged prefix is UTF-8 in which nothing needs conversion. It is all of the bytes exactly
-- if they are such UTF-8. Otherwise a character that needs conversion follows it, or no character
-- does.
use Rattle.std.proofs.Common.{◌≡◌, ℕ, ◌<◌, ◌↔◌, List, [], ◌∷◌, ◌++◌, refl, sym, ap, ◌∙◌, subst, arith, add-zero, length, get_or, take, drop, length-drop}
use Rattle.std.specs.Str.{chars, IsUtf8}
use Rattle.std.proofs.lemmas.Bool.Decides.{nat_tests}
use Rattle.std.proofs.lemmas.List.{get_or-drop}
use Rattle.std.proofs.lemmas.Str.{IsUtf8-drop, IsCharBoundary-from_take}
use Rattle.cesu8_text.specs.Class.{IsChangedByte, IsUnchangedUtf8}
use Rattle.cesu8_text.specs.Encoding.{Flavor, IsEncodedOtherwise, NeedsEncoding}
use Rattle.cesu8_text.specs.Reading.{BeginsWith, NoneBegins, HasNoStrictReading}
use Rattle.cesu8_text.specs.Text.{IsScalarValue, IsText, utf8_of, utf8}
use Rattle.cesu8_text.proofs.StdUtf8.{IsUtf8Of_chars, IsUtf8_utf8, chars_utf8}
use Rattle.cesu8_text.proofs.encoding.Lengths.{change}
use Rattle.cesu8_text.proofs.encoding.NeedsEncoding.{encoding_same, needs_by_bytes}
use Rattle.cesu8_text.proofs.encoding.Unique.{no_reading}
use Rattle.cesu8_text.proofs.reading.Borrowing.{unchanged_reading}
use Rattle.cesu8_bytes.specs.declared.strictness.Strictness.{Strictness}
use Rattle.cesu8_decode.specs.Following.{Encoded, Unchanged}
use Rattle.cesu8_decode.specs.Prefixes.{AreWhole, IsLongestPrefix, IsUnchangedPrefix, IsPrefixUnlessKept}
use Rattle.cesu8_decode.specs.declared.prefix.window.UnchangedPrefix.{UnchangedPrefix}
use Rattle.cesu8_decode.proofs.by_offset.IllFormed.{IsChunk, chunk_of_text}
use Rattle.cesu8_decode.proofs.chunks.WholeBytes.{none_outside}
use Rattle.cesu8_decode.proofs.chunks.LongestPrefixes.{all_as_prefix, prefix_of_all, more_after, bytes_are, none_after}

-- ---- bytes

-- UTF-8 in which nothing needs conversion is whole unchanged characters.
unchanged_whole : (f : Flavor) (bytes : List ℕ) → IsUnchangedUtf8 f bytes → AreWhole Unchanged f bytes
unchanged_whole f bytes unchanged = record {
  text = chars bytes;
  reads = unchanged_reading f bytes bytes refl unchanged;
  inside = λ needs. unchanged.1 ((needs_by_bytes f bytes unchanged.0).1 needs);
}

-- UTF-8 in which nothing needs conversion is its own valid prefix.
pub unchanged_prefix : (f : Flavor) (bytes : List ℕ) → IsUnchangedUtf8 f bytes → IsLongestPrefix Encoded f bytes (length bytes)
unchanged_prefix f bytes unchanged =
    all_as_prefix Encoded f bytes (record { text = chars bytes; reads = unchanged_reading f bytes bytes refl unchanged; inside = none_outside _ (λ c none. none) (chars bytes) })

-- Whole unchanged characters are the UTF-8 of their text.
pub in_utf8 : (f : Flavor) (bytes : List ℕ) → (whole : AreWhole Unchanged f bytes) → utf8 whole.text ≡ bytes
in_utf8 f bytes whole = sym (encoding_same f whole.text whole.reads.0 whole.inside) ∙ whole.reads.1

-- Whole unchanged characters are UTF-8 in which nothing needs conversion.
whole_unchanged : (f : Flavor) (bytes : List ℕ) → AreWhole Unchanged f bytes → IsUnchangedUtf8 f bytes
whole_unchanged f bytes whole =
    let is = in_utf8 f bytes whole in
    let is_utf8 = subst IsUtf8 is (IsUtf8_utf8 whole.text whole.reads.0) in
    let text : chars bytes ≡ whole.text = ap chars (sym is) ∙ chars_utf8 whole.text whole.reads.0 in
    (is_utf8, λ changes. whole.inside (subst (NeedsEncoding f) text ((needs_by_bytes f bytes is_utf8).0 changes)))

-- ---- characters

-- The UTF-8 of a character that needs conversion begins with a byte that does.
first_changed : (f : Flavor) (c : ℕ) (rest : List ℕ) → IsScalarValue c → IsEncodedOtherwise f c → IsChangedByte f (get_or (utf8_of c ++ rest) 0 0)
unfolding utf8_of
first_changed f c rest scalar needs = grind (arith, nat_tests)

-- ---- prefixes

-- The unchanged prefix is UTF-8 in which nothing needs conversion.
module _ (f : Flavor) (bytes : List ℕ) (n : ℕ) (prefix : IsLongestPrefix Unchanged f bytes n) where
  pub prefix_unchanged : IsUnchangedUtf8 f (take n bytes)
  prefix_unchanged = whole_unchanged f (take n bytes) prefix.whole

  -- The unchanged prefix is all bytes exactly if they are UTF-8 in which nothing needs conversion.
  pub all_unchanged : (n ≡ length bytes) ↔ IsUnchangedUtf8 f bytes
  all_unchanged = grind (arith, nat_tests, prefix_of_all, whole_unchanged, unchanged_whole)

  -- If all bytes are UTF-8, the bytes after the prefix are UTF-8 too.
  rest_utf8 : IsUtf8 bytes → IsUtf8 (drop n bytes)
  rest_utf8 is_utf8 = IsUtf8-drop bytes n is_utf8 (IsCharBoundary-from_take bytes n is_utf8 prefix.within prefix_unchanged.0)

  -- If the bytes after the prefix are the UTF-8 of a text, its first character needs conversion.
  by_text : (text : List ℕ) → IsText text → utf8 text ≡ drop n bytes → n < length bytes → IsChangedByte f (get_or (drop n bytes) 0 0)
  by_text [] is_text are more = absurd (omega (arith, ap length are, length-drop n bytes))
  by_text (c ∷ text) is_text are more =
      grind (arith, are, change f c is_text.0, none_after Unchanged f bytes n prefix c (utf8 text), first_changed f c (utf8 text) is_text.0)

  -- If all bytes are UTF-8, the bytes after the prefix begin with a byte that needs conversion.
  pub changed_after : n < length bytes → IsUtf8 bytes → IsChangedByte f (get_or bytes n 0)
  changed_after more is_utf8 =
      let rest = IsUtf8Of_chars (drop n bytes) (rest_utf8 is_utf8) in
      subst (IsChangedByte f) (get_or-drop n bytes 0 0 ∙ ap (λ k. get_or bytes k 0) (add-zero n)) (by_text (chars (drop n bytes)) rest.0 rest.1 more)

  -- The prefix is a chunk of the text.
  pub unchanged_prefix_chunk : (which : Strictness) → IsChunk f which bytes (drop n bytes) (take n bytes)
  unchanged_prefix_chunk which =
      subst (IsChunk f which bytes (drop n bytes)) (in_utf8 f (take n bytes) prefix.whole)
      (chunk_of_text f which bytes prefix.whole.text (drop n bytes) prefix.whole.reads.0 (bytes_are Unchanged f bytes n prefix))

  -- No unchanged character begins after the prefix. So if no character that needs conversion begins
  -- there, none does at all.
  module _ (no_change : (c : ℕ) (rest : List ℕ) → IsEncodedOtherwise f c → ¬ (BeginsWith f (drop n bytes) c rest)) where
    pub none_unless_changed : NoneBegins f (drop n bytes)
    none_unless_changed c rest begins =
        grind (arith, change f c begins.scalar, begins, none_after Unchanged f bytes n prefix c rest, no_change c rest)

    -- If no character begins after the prefix, and bytes are left, there is no strict reading.
    pub no_strict_reading : n < length bytes → HasNoStrictReading f bytes
    no_strict_reading more =
        no_reading f bytes prefix.whole.text (drop n bytes) prefix.whole.reads.0 (bytes_are Unchanged f bytes n prefix)
        (omega (arith, length-drop n bytes)) none_unless_changed

-- ---- input that is returned unchanged

-- `are_kept` says when a call returns its input unchanged. `IsPrefixUnlessKept` holds of the
-- unchanged prefix if that is all of the bytes exactly when `are_kept` holds.
pub found_unless_kept : (f : Flavor) (are_kept : Type 0) (bytes : List ℕ) (prefix : UnchangedPrefix) → IsUnchangedPrefix f bytes prefix →
    (IsUnchangedUtf8 f bytes → are_kept) → (are_kept → prefix.len ≡ length bytes) → IsPrefixUnlessKept f are_kept bytes prefix
found_unless_kept f are_kept bytes prefix found stays only = record {
  kept = (λ all. stays ((all_unchanged f bytes prefix.len found.len).0 all), only);
  prefix = λ other. record { found = found; more = more_after Unchanged f bytes prefix.len found.len other };
}

-- If the call returns its input, `IsPrefixUnlessKept` holds of any prefix that is all of the bytes.
pub all_kept : (f : Flavor) (are_kept : Type 0) (bytes : List ℕ) (prefix : UnchangedPrefix) → prefix.len ≡ length bytes → are_kept →
    IsPrefixUnlessKept f are_kept bytes prefix
all_kept f are_kept bytes prefix all is = record { kept = (λ _. is, λ _. all); prefix = λ other. absurd (other all) }
