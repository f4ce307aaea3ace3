-- What the vector operations of `encode_block` (src/blocks.rt) compute, lane by lane.
use Rattle.std.proofs.lemmas.Grind.{common_steps}
use Rattle.std.proofs.Common.{◌≡◌, ℕ, ◌+◌, ◌*◌, ◌/◌, ◌%◌, ◌^◌, ◌<◌, Bool, true, false, cond, ◌||◌, ◌&&◌, List, [], ◌∷◌, map, length, replicate, eqb, bit_and, bit_or, refl, sym, ap, ◌∙◌, subst, arith, w8, Fits}
use Rattle.std.specs.List.{flat_map}
use Rattle.std.proofs.lemmas.Bool.{true≢false}
use Rattle.std.proofs.lemmas.Bool.Decides.{nat_tests}
use Rattle.std.proofs.lemmas.List.{length-map}
use Rattle.std.proofs.lemmas.Simd.{bitmask_splat}
use Rattle.std.proofs.lemmas.Nat.{or_lt, and_le_r}
use lib.Lanes.{zip2, sel_l, mask_l, top, Each2}
use Rattle.cesu8_text.specs.Encoding.{Flavor, Cesu8, Mutf8}
use Rattle.cesu8_text.specs.Class.{is_at_least_f0, is_null}
use Rattle.cesu8_bytes.specs.Kernels.{mask}
use Rattle.cesu8_encode.specs.EncodedOffsets.{six_bits, packed}
use Rattle.cesu8_bytes.proofs.lists.Lanes.{equal}

-- A byte shifted left.
abbrev shl : ℕ → ℕ → ℕ
shl a b = a * 2 ^ b % 2 ^ 8

-- A byte shifted right.
abbrev shr : ℕ → ℕ → ℕ
shr a b = a / 2 ^ b

-- The six bits of each byte and its next (`six_bits` of specs/EncodedOffsets.antt), by shifts and
-- masks of vectors.
abbrev pub six_bit_lanes : ℕ → List ℕ → List ℕ → List ℕ
six_bit_lanes n bytes next =
    zip2 bit_or (zip2 bit_and (zip2 shl bytes (replicate n 2)) (replicate n 0x3C)) (zip2 bit_and (zip2 shr next (replicate n 4)) (replicate n 3))

-- `six_bit_lanes` has the six bits of each byte, for any number of lanes.
six_bits_of : (bytes next : List ℕ) → length next ≡ length bytes → six_bit_lanes (length bytes) bytes next ≡ zip2 six_bits bytes next
six_bits_of [] [] e = refl
six_bits_of [] (n ∷ next) e = absurd (omega arith)
six_bits_of (b ∷ bytes) [] e = absurd (omega arith)
six_bits_of (b ∷ bytes) (n ∷ next) e = ap (λ l. six_bits b n ∷ l) (six_bits_of bytes next (omega arith))

-- Shifts and masks compute the six bits of each byte.
pub six_bits_are : (bytes next : List ℕ) → length bytes ≡ 32 → length next ≡ 32 → six_bit_lanes 32 bytes next ≡ zip2 six_bits bytes next
six_bits_are bytes next long long_next =
    subst (λ n. six_bit_lanes n bytes next ≡ zip2 six_bits bytes next) long (six_bits_of bytes next (long_next ∙ sym long))

-- ---- the bytes that are written, at offsets vs

-- What the six bits are added to: 80, or 9F for a lead byte.
abbrev pub high_starts : ℕ → List ℕ → List ℕ
high_starts n lead = zip2 bit_or (replicate n 0x80) (zip2 bit_and lead (replicate n 0x1F))

-- The vector of the last bytes that are written. `sel_l` chooses by a lane's highest bit (`top 7`).
abbrev pub second_vector : ℕ → List ℕ → List ℕ → List ℕ → List ℕ → List ℕ → List ℕ → List ℕ
second_vector n lead before two_before null bytes six =
    sel_l (map (top 7) (zip2 equal (zip2 bit_or lead before) (replicate n 0)))
    (zip2 bit_or (zip2 bit_or bytes (zip2 bit_and two_before (replicate n 0x30))) (zip2 bit_and null (replicate n 0x80)))
    (zip2 (λ a b. a + b) six (high_starts n lead))

-- The last byte that is written, from four tests, the byte and the six bits: `changed` of
-- specs/EncodedOffsets.antt. The six bits of a lead byte are its plane, at least 1, so with 9F they
-- are at least A0. With the bits of 30 a continuation byte becomes B0 to BF.
abbrev second : Bool → Bool → Bool → Bool → ℕ → ℕ → ℕ
second lead before two_before null b six =
    cond (lead || before) (six + cond lead 0x9F 0x80) (bit_or (bit_or b (cond two_before 0x30 0)) (cond null 0x80 0))

-- One lane of `second_vector` is `second`.
second_lane : (lead before two_before null : Bool) (b six : ℕ) →
    cond (top 7 (equal (bit_or (mask lead) (mask before)) 0))
    (bit_or (bit_or b (bit_and (mask two_before) 0x30)) (bit_and (mask null) 0x80))
    (six + bit_or 0x80 (bit_and (mask lead) 0x1F))
    ≡ second lead before two_before null b six
second_lane lead before two_before null b six = grind (arith, nat_tests, common_steps)

module _ (lead before two_before null : ℕ → Bool) (byte six : ℕ → ℕ) where
  -- All lanes of `second_vector` are `second`.
  pub second_lanes : (vs : List ℕ) →
      second_vector (length vs) (map (λ v. mask (lead v)) vs) (map (λ v. mask (before v)) vs) (map (λ v. mask (two_before v)) vs)
      (map (λ v. mask (null v)) vs) (map byte vs) (map six vs)
      ≡ map (λ v. second (lead v) (before v) (two_before v) (null v) (byte v) (six v)) vs
  second_lanes [] = refl
  second_lanes (v ∷ vs) = λ i. second_lane (lead v) (before v) (two_before v) (null v) (byte v) (six v) i ∷ second_lanes vs i

-- Six bits are below 40 (hexadecimal).
six_bits_low : (b next : ℕ) → six_bits b next < 0x40
six_bits_low b next =
    or_lt 6 (bit_and (b * 4 % 0x100) 0x3C) (bit_and (next / 0x10) 3)
    (omega (arith, and_le_r (b * 4 % 0x100) 0x3C)) (omega (arith, and_le_r (next / 0x10) 3))

-- Six bits added to what `high_starts` has fit a byte.
high_fits : (lead : Bool) (six : ℕ) → six < 0x40 → Fits w8 (six + bit_or 0x80 (bit_and (mask lead) 0x1F))
high_fits true six low = record { fits = omega arith }
high_fits false six low = record { fits = omega arith }

-- Adding the six bits overflows no lane.
pub highs_fit : (lead : ℕ → Bool) (b next : ℕ → ℕ) (vs : List ℕ) →
    Each2 (λ a b. Fits w8 (a + b)) (map (λ v. six_bits (b v) (next v)) vs) (high_starts (length vs) (map (λ v. mask (lead v)) vs))
highs_fit lead b next [] = tt
highs_fit lead b next (v ∷ vs) = (high_fits (lead v) _ (six_bits_low (b v) (next v)), highs_fit lead b next vs)

-- The vector of the first of two bytes.
abbrev pub first_vector : ℕ → List ℕ → List ℕ
first_vector n null = sel_l (map (top 7) (zip2 equal null (replicate n 0))) (replicate n 0xED) (replicate n 0xC0)

-- One lane of `first_vector` is C0 for a null, and otherwise ED.
first_lane : (null : Bool) → ◌≡◌ {A = ℕ} (cond (top 7 (equal (mask null) 0)) 0xED 0xC0) (cond null 0xC0 0xED)
first_lane null = grind arith

-- All lanes of `first_vector` are C0 for a null, and otherwise ED.
pub first_lanes : (null : ℕ → Bool) (vs : List ℕ) →
    first_vector (length vs) (map (λ v. mask (null v)) vs) ≡ map (λ v. cond (null v) 0xC0 0xED) vs
first_lanes null [] = refl
first_lanes null (v ∷ vs) = λ i. first_lane (null v) i ∷ first_lanes null vs i

-- The sum of two masks fits a byte if they are not both set.
either_fits : (a c : Bool) → (a && c) ≡ false → Fits w8 (mask a + mask c)
either_fits true true apart = absurd (true≢false apart)
either_fits true false apart = record { fits = omega arith }
either_fits false true apart = record { fits = omega arith }
either_fits false false apart = record { fits = omega arith }

-- If two tests never hold together, the sum of their masks overflows no lane.
pub eithers_fit : (a c : ℕ → Bool) → ((v : ℕ) → (a v && c v) ≡ false) → (vs : List ℕ) →
    Each2 (λ a b. Fits w8 (a + b)) (map (λ v. mask (a v)) vs) (map (λ v. mask (c v)) vs)
eithers_fit a c apart [] = tt
eithers_fit a c apart (v ∷ vs) = (either_fits (a v) (c v) (apart v), eithers_fit a c apart vs)

-- One lane of `doubled_vector` is FF if one of three tests holds.
doubled_lane : (a b c : Bool) → (a && c) ≡ false → eqb (bit_or (mask a + mask c) (mask b)) 0xFF ≡ ((a || b) || c)
doubled_lane a b c apart = grind (arith, nat_tests)

-- The mask of the bytes that become two, as the code computes it.
abbrev pub doubled_vector : List ℕ → List ℕ → List ℕ → List ℕ
doubled_vector lead two_before null = zip2 bit_or (zip2 (λ a b. a + b) lead null) two_before

-- The lanes of `doubled_vector` are the disjunction of three tests.
doubled_lanes : (a b c : ℕ → Bool) → ((v : ℕ) → (a v && c v) ≡ false) → (vs : List ℕ) →
    map (λ x. eqb x 0xFF) (doubled_vector (map (λ v. mask (a v)) vs) (map (λ v. mask (b v)) vs) (map (λ v. mask (c v)) vs))
    ≡ map (λ v. (a v || b v) || c v) vs
doubled_lanes a b c apart [] = refl
doubled_lanes a b c apart (v ∷ vs) = λ i. doubled_lane (a v) (b v) (c v) (apart v) i ∷ doubled_lanes a b c apart vs i

-- The bits of `doubled_vector` say for each byte whether one of three tests holds, if the first and
-- the last never hold together.
pub doubled_bits : (a b c : ℕ → Bool) → ((v : ℕ) → (a v && c v) ≡ false) → (vs : List ℕ) → length vs ≡ 32 →
    mask_l (map (top 7) (zip2 equal (doubled_vector (map (λ v. mask (a v)) vs) (map (λ v. mask (b v)) vs) (map (λ v. mask (c v)) vs)) (replicate 32 255))) % 2 ^ 64
    ≡ mask_l (map (λ v. (a v || b v) || c v) vs)
doubled_bits a b c apart vs long =
    let lanes = doubled_vector (map (λ v. mask (a v)) vs) (map (λ v. mask (b v)) vs) (map (λ v. mask (c v)) vs) in
    let tests_are = doubled_lanes a b c apart vs in
    let all = sym (length-map lanes (λ x. eqb x 0xFF)) ∙ ap length tests_are ∙ length-map vs (λ v. (a v || b v) || c v) ∙ long in
    bitmask_splat w8 eqb lanes 32 255 all (omega arith) ∙ ap mask_l tests_are

-- A lead byte is not null.
pub lead_or_null : (f : Flavor) (b : ℕ) → (is_at_least_f0 b && is_null f b) ≡ false
lead_or_null Cesu8 b = grind (arith, nat_tests)
lead_or_null Mutf8 b = grind (arith, nat_tests)

-- Packing gives, for each offset v in turn, g v and h v if v passes the test t, and otherwise h v.
pub packed_offsets : (t : ℕ → Bool) (g h : ℕ → ℕ) (vs : List ℕ) →
    packed (map t vs) (map g vs) (map h vs) ≡ flat_map (λ v. cond (t v) (g v ∷ h v ∷ []) (h v ∷ [])) vs
packed_offsets t g h [] = refl
packed_offsets t g h (v ∷ vs) = grind (arith, common_steps, packed_offsets t g h vs)
