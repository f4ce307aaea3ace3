-- After skipped ASCII, or after a first block without an error, all bytes up to there can follow
-- each other. The four zeros before the first block stand for the bytes that the input does not
-- have.
use Rattle.std.proofs.Common.{List, ℕ, ◌≡◌, ◌+◌, ◌<◌, ◌≤◌, ◌∙◌, false, take, get_or, length, ap, sym, subst, arith}
use Rattle.std.proofs.lemmas.Bool.{leb-false, or_parts}
use Rattle.std.proofs.lemmas.List.{length-take-le}
use Rattle.cesu8_text.specs.Encoding.{Flavor}
use Rattle.cesu8_decode.specs.Following.{CharacterSet, AllFollow, FirstFollow, FollowUpTo, after_fillers, follows_at}
use Rattle.cesu8_decode.proofs.decoder.ErrorMasks.{ones_follow, first_of_prefix, stop_in_prefix}
use Rattle.cesu8_decode.proofs.prefix.following_many.Goals as goal
use Rattle.cesu8_decode.proofs.prefix.following_many.Goals.{then-run-eq0+else-len-ne-BLOCK, else-run-eq0}

-- What holds for the first block after four zeros holds for the first bytes.
in_block : (s : CharacterSet) (f : Flavor) (bytes : List ℕ) (n : ℕ) → 32 ≤ length bytes → n ≤ 32 →
    AllFollow s f (after_fillers (take 32 bytes)) 0 n → (n < 32 → follows_at s f (after_fillers (take 32 bytes)) (0 + n) ≡ false) → FollowUpTo s f (take 32 bytes) n
in_block s f bytes n long inside follow stops =
    let whole = length-take-le 32 bytes long in
    let here : 0 + n ≡ n = omega arith in
    record {
      first = record { within = omega (arith, whole); follow = λ k before. follow k (omega arith) (omega (arith, before)) };
      stops = λ more. subst (λ k. follows_at s f (after_fillers (take 32 bytes)) k ≡ false) here (stops (omega (arith, more, whole)));
    }

-- If the first block has an error, the first byte in it that cannot follow is returned.
pub returns-then-len-ne-BLOCK : goal.returns-then-len-ne-BLOCK
returns-then-len-ne-BLOCK g c =
    let s = g.S.CharacterSet.set in
    let f = g.F.Flavor.flavor in
    let bytes = c.args.bytes.now in
    let window = after_fillers (take 32 bytes) in
    let is = c.block_after.ensures s in
    let len = c.following_len-len.ensures in
    let within = len.within window 0 is in
    stop_in_prefix s f bytes 32 c.following_len-len.result (omega (arith, c.requires)) (omega (arith, c.if-len-ne-BLOCK.true, within))
    (in_block s f bytes _ (omega (arith, c.requires)) within (len.follow window 0 is) (len.stops window 0 is))

-- Otherwise `following_from` starts after the first block or after the skipped ASCII, and the bytes
-- before its start can follow each other. The start is `run.max(BLOCK)`, as groups that are skipped
-- are not shorter than a block.
pub following_from-requires-clause-first : goal.following_from-requires-clause-first
following_from-requires-clause-first g c =
    let s = g.S.CharacterSet.set in
    let f = g.F.Flavor.flavor in
    let bytes = c.args.bytes.now in
    let run = c.run_of_groups-run.ensures in
    elim c.if-run-eq0.branch [
      | then-run-eq0+else-len-ne-BLOCK w ↦
          let window = after_fillers (take 32 bytes) in
          let is = w.block_after.ensures s in
          let len = w.following_len-len.ensures in
          let within = len.within window 0 is in
          let few = in_block s f bytes _ (omega (arith, c.requires)) within (len.follow window 0 is) (len.stops window 0 is) in
          let start : w.following_len-len.result ≡ c.max.result = omega (arith, c.max.ensures, w.if-run-eq0.true, w.if-len-ne-BLOCK.false) in
          subst (FirstFollow s f bytes) start (first_of_prefix s f bytes 32 w.following_len-len.result (omega (arith, c.requires)) few.first)
      | else-run-eq0 w ↦
          let start : c.run_of_groups-run.result ≡ c.max.result = omega (arith, c.max.ensures, run.within, w.if-run-eq0.false) in
          subst (FirstFollow s f bytes) start (ones_follow s f bytes c.run_of_groups-run.result run.within.0 (λ i before.
          let none = or_parts _ _ (run.run i before) in
          (leb-false 0x80 _ none.1, sym (ap (λ class. class (get_or bytes i 0)) g.met.F.Flavor.are_null) ∙ none.0)))
    ]
