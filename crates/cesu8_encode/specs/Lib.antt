-- The definitions that contracts of this crate cite.
pub mod EncodedOffsets
pub mod Encoded
pub mod Strategies
