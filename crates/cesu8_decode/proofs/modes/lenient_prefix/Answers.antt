-- If the bytes are UTF-8 and the prefix is not all of them, the byte after it begins a character
-- that the encoding writes otherwise (`changed_after`): it is 00 or leads four bytes. So if
-- another byte is there, the bytes are not UTF-8.
use Rattle.std.proofs.Common.{◌≡◌, ◌≤◌, ◌⊎◌, ⊎_elim, ℕ, arith, subst, sym}
use Rattle.std.specs.Str.{IsUtf8}
use Rattle.std.proofs.lemmas.Bool.Decides.{nat_tests}
use Rattle.std.proofs.lemmas.Bool.{both_ways}
use Rattle.cesu8_text.specs.Class.{IsChangedByte}
use Rattle.cesu8_text.specs.Encoding.{Flavor, Cesu8, Mutf8}
use Rattle.cesu8_decode.specs.Following.{Unchanged}
use Rattle.cesu8_decode.specs.Prefixes.{IsPrefixUnlessKept}
use Rattle.cesu8_decode.proofs.chunks.LongestPrefixes.{more_after}
use Rattle.cesu8_decode.proofs.chunks.UnchangedPrefixes.{all_kept, changed_after, found_unless_kept, prefix_unchanged}
use Rattle.cesu8_decode.proofs.modes.lenient_prefix.Goals as goal
use Rattle.cesu8_decode.proofs.modes.lenient_prefix.Goals.{then-prefix-bytes-via-then-prefix-bytes, then-prefix-bytes-via-else-prefix-bytes+then-not-matches, in_default, in_default-2, in-0, in-0-2}

-- A byte of UTF-8 that the encoding writes otherwise is 00 or the lead byte of four bytes.
changed_is : (f : Flavor) (b : ℕ) → IsChangedByte f b → (b ≡ 0) ⊎ ((0xF0 ≤ b) × (b ≤ 0xF7))
changed_is Cesu8 b is = grind (arith, nat_tests)
changed_is Mutf8 b is = grind (arith, nat_tests)

pub returns-then-prefix-bytes : goal.returns-then-prefix-bytes
returns-then-prefix-bytes g c =
    let f = g.F.Flavor.flavor in
    let bytes = c.args.bytes.now in
    let prefix = c.args.prefix.len in
    found_unless_kept f _ bytes _ c.requires (λ stays. stays.0) (elim c.then-prefix-bytes.branch [
      | then-prefix-bytes-via-then-prefix-bytes w ↦ λ _. w.if-prefix-bytes.true
      | then-prefix-bytes-via-else-prefix-bytes+then-not-matches w ↦ λ is_utf8.
          let more = more_after Unchanged f bytes prefix c.requires.len w.if-prefix-bytes.false in
          let is = changed_is f _ (changed_after f bytes prefix c.requires.len more is_utf8) in
          elim w.match-matches.branch [
            | in_default v ↦ absurd (omega (arith, is, v.in_default))
            | in_default-2 v ↦ absurd (omega (arith, is, v.in_default))
            | in-0 v ↦ absurd (both_ways _ w.if-not-matches.true v.matches-is)
            | in-0-2 v ↦ absurd (both_ways _ w.if-not-matches.true v.matches-is)
          ]
    ])

pub all_if_utf8-requires : goal.all_if_utf8-requires
all_if_utf8-requires g c =
    let len = c.requires.len in
    (len.within, (prefix_unchanged g.F.Flavor.flavor c.args.bytes.now _ len).0)

pub returns : goal.returns
returns g c =
    let f = g.F.Flavor.flavor in
    let bytes = c.args.bytes.now in
    let found = c.requires in
    ⊎_elim (λ all. all_kept f _ bytes c.all_if_utf8.result all.0 all.1)
    (λ other. subst (IsPrefixUnlessKept f (IsUtf8 bytes) bytes) (sym other.0) (found_unless_kept f _ bytes _ found (λ stays. stays.0) (λ is_utf8. absurd (other.1 is_utf8))))
    c.all_if_utf8.ensures
