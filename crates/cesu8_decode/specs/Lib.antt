-- The definitions that the decoder's contracts cite.
pub mod DecodedOffsets
pub mod Masks
pub mod Errors
pub mod Following
pub mod Decoding
pub mod PutReadings
pub mod Modes
pub mod Prefixes
