-- The lemmas of this crate, for the calls that convert a piece.
pub mod Progresses
