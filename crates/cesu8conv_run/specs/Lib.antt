-- The definitions that the contracts of this crate cite, in reading order.
pub mod Conversion
pub mod Steps
pub mod Stream
