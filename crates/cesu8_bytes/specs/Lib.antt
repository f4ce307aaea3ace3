-- The definitions that contracts of this crate cite.
pub mod Kernels
pub mod Pairs
pub mod TextChunks
pub mod Puts
pub mod Packing
pub mod Differences
pub mod Padded
