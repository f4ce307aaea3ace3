-- Encodings: their bytes, their lengths in bytes and in code units, that bytes begin with at most
-- one character, and when a text needs encoding.
pub mod Forms
pub mod Encodings
pub mod Lengths
pub mod EncodedLength
pub mod UnitCount
pub mod Patterns
pub mod Found
pub mod Unique
pub mod NeedsEncoding
