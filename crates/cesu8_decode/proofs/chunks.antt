-- Text that is decoded or written in parts: chunk by chunk, or first a prefix of whole characters.
-- Also the length of such a prefix, by the classes of adjacent bytes and by masks.
pub mod ReadChunks
pub mod DecodedChunks
pub mod WrittenChunks
pub mod Changed
pub mod DecodedCharacters
pub mod ModeTexts
pub mod SliceReadings
pub mod Strings
pub mod WholeBytes
pub mod FirstBytes
pub mod FollowingBytes
pub mod LongestPrefixes
pub mod EventPrefixes
pub mod MaskPrefixes
pub mod Utf8Parts
pub mod UnchangedPrefixes
pub mod TextAfterPrefix
