-- Decoding offset by offset: which character begins where, what is written for each byte, lengths
-- as sums over the offsets, and which bytes no character covers.
pub mod WidthTests
pub mod WindowOffsets
pub mod CharacterBoundaries
pub mod DecodedText
pub mod SavedTotals
pub mod Savings
pub mod IllFormed
