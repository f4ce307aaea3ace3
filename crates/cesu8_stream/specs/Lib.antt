-- The definitions that the contracts of this crate cite, in reading order.
pub mod Written
pub mod Completions
pub mod Streams
pub mod Lossy
pub mod Laws
