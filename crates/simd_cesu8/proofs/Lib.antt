-- The lemmas of this crate, in reading order. `StdUtf8` is for crates that use this one.
pub use Rattle.cesu8_text.proofs.StdUtf8
pub mod Lanes
