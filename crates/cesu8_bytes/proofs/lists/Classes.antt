-- Vectors whose lanes mark the bytes of a class: what each comparison computes, and what a mask
-- says. The comparisons are those of `marks` in `src/lanes/class.rt`.
use Rattle.std.proofs.Common.{◌≡◌, ℕ, Bool, false, not, cond, ◌||◌, ◌&&◌, ◌%◌, ◌^◌, ◌≤◌, ◌<◌, List, map, length, replicate, eqb, leb, ltb, refl, ap, ◌∙◌, arith, bit_and, bit_or, w8, Fits}
use Rattle.std.specs.Prelude.{ℤ}
use Rattle.std.proofs.lemmas.Bool.{agree_below_at}
use Rattle.std.proofs.lemmas.List.{length-map}
use Rattle.std.proofs.lemmas.Simd.{length-replicate, map-map, mask_l-mod, splat_is_map, zip2_of_maps, zip2_splat, zip2_splat_left, Each1-all, Each1-weaker}
use lib.Lanes.{zip2, sel_l, mask_l, top, Each1}
use mir.Val.{to_z, of_z}
use Rattle.cesu8_text.specs.Class.{is_four}
use Rattle.cesu8_bytes.specs.Kernels.{lane}
use Rattle.cesu8_bytes.proofs.lists.Lanes.{ones, equal, below, map_agree, chosen_of}

-- The lanes of the mask of a class.
abbrev pub marks_of : (ℕ → Bool) → List ℕ → List ℤ
marks_of class bytes = map (λ b. lane (class b)) bytes

-- As a signed number, a lane of all ones is -1, and a lane of 0 is 0.
lane_of_ones : (t : Bool) → to_z w8 (ones t) ≡ lane t
lane_of_ones t = grind arith

-- Lanes that are all ones if the byte is in the class, and otherwise 0, are the mask of the class.
marked : (class : ℕ → Bool) (bytes lanes : List ℕ) → lanes ≡ map (λ b. ones (class b)) bytes → map (to_z w8) lanes ≡ marks_of class bytes
marked class bytes lanes are =
    ap (map (to_z w8)) are ∙ map-map (to_z w8) (λ b. ones (class b)) bytes
    ∙ map_agree _ _ bytes (Each1-all (λ b. to_z w8 (ones (class b)) ≡ lane (class b)) (λ b. lane_of_ones (class b)) bytes)

-- A mask with no lane set is the mask of the empty class.
pub no_marks : (n : ℕ) (bytes : List ℕ) → length bytes ≡ n →
    map (to_z w8) (zip2 (λ a b. ones (not (eqb a b))) (replicate n 0) (replicate n 0)) ≡ marks_of (λ _. false) bytes
no_marks n bytes long =
    marked (λ _. false) bytes _ (zip2_splat (λ a b. ones (not (eqb a b))) (replicate n 0) n 0 (length-replicate n 0)
    ∙ ap (map (λ a. ones (not (eqb a 0)))) (splat_is_map bytes n 0 long)
    ∙ map-map (λ a. ones (not (eqb a 0))) (λ _. 0) bytes)

-- A comparison for equality gives the mask of one byte.
pub equal_marks : (byte n : ℕ) (bytes : List ℕ) → length bytes ≡ n →
    map (to_z w8) (zip2 equal bytes (replicate n byte)) ≡ marks_of (λ b. eqb b byte) bytes
equal_marks byte n bytes long = marked (λ b. eqb b byte) bytes _ (zip2_splat equal bytes n byte long)

-- A comparison by `≤` gives the mask of the bytes at or above a number.
pub least_marks : (least n : ℕ) (bytes : List ℕ) → length bytes ≡ n →
    map (to_z w8) (zip2 (λ a b. ones (leb a b)) (replicate n least) bytes) ≡ marks_of (leb least) bytes
least_marks least n bytes long = marked (leb least) bytes _ (zip2_splat_left (λ a b. ones (leb a b)) least n bytes long)

-- A byte is F0 to F7 (hexadecimal) if and only if its upper five bits are those of F0.
-- `agree_below_at` computes that for all 256 bytes.
pub four_by_bits : (b : ℕ) → b < 0x100 → eqb (bit_and b 0xF8) 0xF0 ≡ is_four b
four_by_bits b h = agree_below_at (λ b. eqb (bit_and b 0xF8) 0xF0) is_four 0x100 b refl h

-- A byte is a continuation byte if and only if its upper two bits are those of 80 (hexadecimal).
pub continues_by_bits : (b : ℕ) → b < 0x100 → eqb (bit_and b 0xC0) 0x80 ≡ (leb 0x80 b && ltb b 0xC0)
continues_by_bits b h = agree_below_at (λ b. eqb (bit_and b 0xC0) 0x80) (λ b. leb 0x80 b && ltb b 0xC0) 0x100 b refl h

-- A comparison of some bits gives the mask of the class that these bits decide.
pub masked_marks : (class : ℕ → Bool) (bits byte : ℕ) → ((b : ℕ) → b < 0x100 → eqb (bit_and b bits) byte ≡ class b) →
    (n : ℕ) (bytes : List ℕ) → length bytes ≡ n → Each1 (Fits w8) bytes →
    map (to_z w8) (zip2 equal (zip2 bit_and bytes (replicate n bits)) (replicate n byte)) ≡ marks_of class bytes
masked_marks class bits byte by_bits n bytes long fits =
    let masked = zip2_splat bit_and bytes n bits long in
    marked class bytes _ (
    zip2_splat equal _ n byte (ap length masked ∙ length-map bytes (λ b. bit_and b bits) ∙ long)
    ∙ ap (map (λ b. equal b byte)) masked
    ∙ map-map (λ b. equal b byte) (λ b. bit_and b bits) bytes
    ∙ map_agree _ _ bytes (Each1-weaker (Fits w8) _ (λ b h. ap ones (by_bits b h.fits)) bytes fits)
    )

-- Joining two lanes by bits joins their tests.
either_ones : (s t : Bool) → bit_or (of_z w8 (lane s)) (of_z w8 (lane t)) ≡ ones (s || t)
either_ones s t = grind arith

-- The union of two masks is the mask of the union of their classes.
pub either_marks : (p q : ℕ → Bool) (bytes : List ℕ) (ps qs : List ℤ) → ps ≡ marks_of p bytes → qs ≡ marks_of q bytes →
    map (to_z w8) (zip2 bit_or (map (of_z w8) ps) (map (of_z w8) qs)) ≡ marks_of (λ b. p b || q b) bytes
either_marks p q bytes ps qs of_p of_q =
    marked (λ b. p b || q b) bytes _ (
    zip2_of_maps bit_or (λ b. of_z w8 (lane (p b))) (λ b. of_z w8 (lane (q b))) bytes
    (ap (map (of_z w8)) of_p ∙ map-map (of_z w8) (λ b. lane (p b)) bytes)
    (ap (map (of_z w8)) of_q ∙ map-map (of_z w8) (λ b. lane (q b)) bytes)
    ∙ map_agree _ _ bytes (Each1-all (λ b. bit_or (of_z w8 (lane (p b))) (of_z w8 (lane (q b))) ≡ ones (p b || q b)) (λ b. either_ones (p b) (q b)) bytes)
    )

-- Joining three lanes by bits, as in `range_marks`, joins their tests.
range_ones : (s t u : Bool) → bit_or (ones s) (bit_and (ones t) (ones u)) ≡ ones (s || (t && u))
range_ones s t u = grind arith

-- Three comparisons give the mask of the bytes that are below x, or from y up to below z.
pub range_marks : (x y z n : ℕ) (bytes : List ℕ) → length bytes ≡ n →
    map (to_z w8) (zip2 bit_or (zip2 below bytes (replicate n x))
    (zip2 bit_and (zip2 (λ a b. ones (leb a b)) (replicate n y) bytes) (zip2 below bytes (replicate n z))))
    ≡ marks_of (λ b. ltb b x || (leb y b && ltb b z)) bytes
range_marks x y z n bytes long =
    marked (λ b. ltb b x || (leb y b && ltb b z)) bytes _ (
    zip2_of_maps bit_or (λ b. ones (ltb b x)) (λ b. bit_and (ones (leb y b)) (ones (ltb b z))) bytes
    (zip2_splat below bytes n x long)
    (zip2_of_maps bit_and (λ b. ones (leb y b)) (λ b. ones (ltb b z)) bytes
    (zip2_splat_left (λ a b. ones (leb a b)) y n bytes long) (zip2_splat below bytes n z long))
    ∙ map_agree _ _ bytes (Each1-all (λ b. bit_or (ones (ltb b x)) (bit_and (ones (leb y b)) (ones (ltb b z))) ≡ ones (ltb b x || (leb y b && ltb b z)))
    (λ b. range_ones (ltb b x) (leb y b) (ltb b z)) bytes)
    )

-- The highest bit of a lane is its test.
top_of_lane : (t : Bool) → top 7 (of_z w8 (lane t)) ≡ t
top_of_lane t = grind arith

-- The highest bits of a mask are the tests of the bytes.
tops_of_marks : (p : ℕ → Bool) (bytes : List ℕ) (marks : List ℤ) → marks ≡ marks_of p bytes →
    map (top 7) (map (of_z w8) marks) ≡ map p bytes
tops_of_marks p bytes marks are = grind (arith, Each1-all, map-map, map_agree, top_of_lane)

-- The bits that a mask is converted to are the tests of the bytes.
pub bits_of_marks : (p : ℕ → Bool) (n : ℕ) (bytes : List ℕ) (marks : List ℤ) → marks ≡ marks_of p bytes → length bytes ≡ n → n ≤ 64 →
    mask_l (map (top 7) (map (of_z w8) marks)) % 2 ^ 64 ≡ mask_l (map p bytes)
bits_of_marks p n bytes marks are long small =
    ap (λ ts. mask_l ts % 2 ^ 64) (tops_of_marks p bytes marks are)
    ∙ mask_l-mod (map p bytes) 64 (omega (arith, length-map bytes p))

-- A mask selects one number for the bytes that pass the test, and the other for all others.
pub chosen_by_marks : (p : ℕ → Bool) (n some other : ℕ) (bytes : List ℕ) (marks : List ℤ) → marks ≡ marks_of p bytes → length bytes ≡ n →
    sel_l (map (top 7) (map (of_z w8) marks)) (replicate n some) (replicate n other) ≡ map (λ b. cond (p b) some other) bytes
chosen_by_marks p n some other bytes marks are long =
    ap (λ ts. sel_l ts (replicate n some) (replicate n other)) (tops_of_marks p bytes marks are)
    ∙ chosen_of p n some other bytes long
