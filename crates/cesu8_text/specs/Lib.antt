-- The definitions, in reading order: texts, their encoding, classes of bytes, decoding, laws.
pub mod Text
pub mod Utf16
pub mod Encoding
pub mod Class
pub mod Patterns
pub mod Reading
pub mod Cutting
pub mod Kept
pub mod Slices
pub mod Order
pub mod Laws
pub mod Fronts
