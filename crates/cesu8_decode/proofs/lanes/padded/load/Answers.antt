-- The last block that is stored has the last bytes, with zeros after them. What follows it in the
-- source was zeros before the call. So the source is all of the bytes, with zeros after them.
use Rattle.std.proofs.Common.{◌≡◌, ℕ, List, ◌+◌, ◌-◌, ◌<◌, ◌≤◌, ◌++◌, ◌∙◌, ⊎_elim, refl, sym, ap, arith, length, take, drop, replicate, append_assoc, length-append, length-drop, take-append-drop}
use Rattle.std.proofs.lemmas.Bool.{both_ways, cases_lt}
use Rattle.std.proofs.lemmas.List.{drop-drop, drop-replicate, length-replicate, length-take-le, replicate-append-replicate, take_rest}
use Rattle.cesu8_bytes.specs.Puts.{PutsAt}
use Rattle.cesu8_decode.proofs.lanes.padded.load.Goals as goal

-- After a block is stored, zeros are left after it.
zeros_after : (source : List ℕ) (at n : ℕ) → drop at source ≡ replicate (n - at) 0 → drop (at + 32) source ≡ replicate (n - (at + 32)) 0
zeros_after source at n zeros =
    let here : n - at - 32 ≡ n - (at + 32) = omega arith in
    sym (drop-drop 32 at source) ∙ ap (drop 32) zeros ∙ drop-replicate 32 (n - at) 0 ∙ ap (λ m. replicate m 0) here

-- The last block is stored at offset `at` of a source of n bytes, after the bytes before it.
filled : (bytes source block new : List ℕ) (at end n : ℕ) → at ≤ length bytes → length bytes ≤ at + 32 → at + 32 ≤ n →
    take at source ≡ take at bytes → drop at source ≡ replicate (n - at) 0 →
    block ≡ drop at bytes ++ replicate (32 - length (drop at bytes)) 0 → PutsAt block at source new end →
    new ≡ bytes ++ replicate (n - length bytes) 0
filled bytes source block new at end n low high room copied zeros is put =
    let rest = drop at bytes in
    let own = replicate {A = ℕ} (32 - length rest) 0 in
    let others = replicate {A = ℕ} (n - (at + 32)) 0 in
    let end_is : end ≡ at + 32 =
    omega (arith, put.writes.end, ap length is, length-append rest own, length-replicate {A = ℕ} (32 - length rest) 0, length-drop at bytes) in
    let first : take (at + 32) new ≡ take at bytes ++ (rest ++ own) =
    ap (λ m. take m new) (sym end_is) ∙ put.writes.bytes ∙ (λ i. copied i ++ is i) in
    let behind : drop (at + 32) new ≡ others =
    ap (λ m. drop m new) (sym end_is) ∙ put.behind ∙ ap (λ m. drop m source) end_is ∙ zeros_after source at n zeros in
    let all : 32 - length rest + (n - (at + 32)) ≡ n - length bytes = omega (arith, length-drop at bytes) in
    sym (take-append-drop (at + 32) new) ∙ (λ i. first i ++ behind i)
    ∙ append_assoc (take at bytes) (rest ++ own) others ∙ ap (λ bs. take at bytes ++ bs) (append_assoc rest own others)
    ∙ sym (append_assoc (take at bytes) rest (own ++ others))
    ∙ (λ i. take-append-drop at bytes i ++ replicate-append-replicate (32 - length rest) (n - (at + 32)) 0 i) ∙ ap (λ m. bytes ++ replicate m 0) all

-- Before anything is stored, the source has zeros from offset 0 on.
from_the_start : (source : List ℕ) → source ≡ replicate (length source) 0 → drop 0 source ≡ replicate (length source - 0) 0
from_the_start source zeros =
    let none : length source ≡ length source - 0 = omega arith in
    zeros ∙ ap (λ n. replicate n 0) none

pub returns-then-is_one_block : goal.returns-then-is_one_block
returns-then-is_one_block c =
    filled c.args.bytes.now c.args.source.now c.padded_half.result _ 0 _ (length c.args.source.now) (omega arith)
    (omega (arith, c.is_one_block.ensures.0 c.if-is_one_block.true)) (omega (arith, c.requires.room)) refl (from_the_start _ c.requires.zeros)
    c.padded_half.ensures c.put_lanes.ensures

pub returns : goal.returns
returns c =
    let bytes = c.args.bytes.now in
    let source = c.args.source.now in
    let put = c.put_lanes-2.ensures in
    let many : 32 ≤ length bytes =
    ⊎_elim (λ (few : length bytes < 32). absurd (both_ways _ c.if-is_one_block.false (c.is_one_block.ensures.1 (omega (arith, few))))) (λ (long : 32 ≤ length bytes). long)
    (cases_lt (length bytes) 32) in
    let next : c.put_lanes-2.result ≡ 32 = omega (arith, put.writes.end, length-take-le 32 bytes many) in
    filled bytes c.put_lanes-2.new.out c.padded_half-2.result _ 32 _ (length source) many (omega (arith, c.requires.bytes)) (omega (arith, c.requires.room))
    (ap (λ n. take n c.put_lanes-2.new.out) (sym next) ∙ put.writes.bytes)
    (ap (λ n. drop n c.put_lanes-2.new.out) (sym next) ∙ put.behind ∙ ap (λ n. drop n source) next ∙ zeros_after source 0 (length source) (from_the_start source c.requires.zeros))
    (rw take_rest at c.padded_half-2.ensures) c.put_lanes-3.ensures
