-- What has to hold for a string that is encoded by a strategy.
use Rattle.std.specs.Prelude.{ℕ, ⊤, List}
use Rattle.cesu8_text.specs.Class.{is_at_least_f0}
use Rattle.cesu8_bytes.specs.Kernels.{AnyIn}
use Rattle.cesu8_encode.specs.declared.strategy.Middle.{Middle}
use Rattle.cesu8_encode.specs.declared.strategy.Middle.TheVariants.{CopyUnchanged, NullChange, AnyChange}

-- `NullChange` is for strings without a byte of F0 or more (hexadecimal), so that only null
-- characters change. The other two are for any string.
abbrev pub FitsMiddle : Middle → List ℕ → Type 0
FitsMiddle CopyUnchanged bytes = ⊤
FitsMiddle NullChange bytes = ¬ (AnyIn is_at_least_f0 bytes)
FitsMiddle AnyChange bytes = ⊤
