-- Lists of bytes, and their parts as chunks, vectors and words.
pub mod Walks
pub mod EightElements
pub mod Ends
pub mod Stored
pub mod Chunks
pub mod Lanes
pub mod Classes
pub mod Words
pub mod Ascii
pub mod Prefixes
