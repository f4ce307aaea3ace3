-- The encoder: lengths, which bytes of UTF-8 are encoded otherwise and as what, and what the vectors
-- of the encoder compute of a block.
pub mod EncodedLengths
pub mod RecodedText
pub mod UnchangedBytes
pub mod LowBlocks
pub mod EncodedLanes
pub mod EncodedBlocks
pub mod EncodedRows
pub mod EncodedWindows
