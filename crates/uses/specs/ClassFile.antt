-- The text constants of a Java class file.
use Rattle.std.specs.Prelude.{◌≡◌, ◌≢◌, ◌⊎◌, ℕ, ◌∷◌, ◌++◌, [], List, Result, IfErr, drop, slice_index}
use Rattle.simd_cesu8.specs.Text.{IsText}
use Rattle.simd_cesu8.specs.Class.{IsUnchangedUtf8}
use Rattle.simd_cesu8.specs.Encoding.{Mutf8}
use Rattle.java_text.specs.Form.{HasForm, java_form, counted, IsTruncated}
use Rattle.java_text.specs.Fault as java
use Rattle.uses.specs.declared.class_file.ConstantFault.{ConstantFault}
use Rattle.uses.specs.declared.class_file.ConstantFault.TheVariants.{OtherTag, Text}

-- The bytes are a constant of the text, followed by `rest`. The constant is the tag 1, the count of
-- the bytes of MUTF-8 in two bytes, and those bytes.
-- (Java Virtual Machine Specification, "The CONSTANT_Utf8_info Structure")
pub record BeginsWithConstant (bytes text rest : List ℕ) : Type 0 where
  pub scalars : IsText text
  pub fits : HasForm text
  pub bytes_are : bytes ≡ 1 ∷ java_form text ++ rest

-- The bytes are no other constant, and no other rest follows.
abbrev pub BeginsOnlyWithConstant : List ℕ → List ℕ → List ℕ → Type 0
BeginsOnlyWithConstant bytes text rest =
    (other more : List ℕ) → BeginsWithConstant bytes other more → (other ≡ text) × (more ≡ rest)

abbrev pub NoConstantBegins : List ℕ → Type 0
NoConstantBegins bytes = (text rest : List ℕ) → ¬ (BeginsWithConstant bytes text rest)

-- A constant of another kind begins the bytes.
abbrev pub HasOtherTag : List ℕ → Type 0
HasOtherTag bytes = (bytes ≢ []) × (slice_index bytes 0 ≢ 1)

-- There is no tag, or there are too few bytes after the tag 1.
abbrev pub IsCutShort : List ℕ → Type 0
IsCutShort bytes = (bytes ≡ []) ⊎ ((slice_index bytes 0 ≡ 1) × IsTruncated (drop 1 bytes))

-- No byte of a constant is missing, and its text has the same bytes in UTF-8.
abbrev pub IsPlainConstant : List ℕ → Type 0
IsPlainConstant bytes = (slice_index bytes 0 ≡ 1) × ¬ (IsTruncated (drop 1 bytes))
    × IsUnchangedUtf8 Mutf8 (counted (drop 1 bytes))

-- If the fault is one of the input, the fact holds.
abbrev pub IfRefused : ConstantFault → Type 0 → Type 0
IfRefused (OtherTag tag) P = P
IfRefused (Text fault) P = java.IfRefused fault P

abbrev pub OnRefused : {T : Type 0} → Result T ConstantFault → Type 0 → Type 0
OnRefused result P = IfErr result (λ fault. IfRefused fault P)
