-- The lemmas of this crate: `Written` is for `run`, and `Encoded` for `answer`.
pub mod Written
pub mod Encoded
