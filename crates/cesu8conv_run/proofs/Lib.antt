-- The lemmas, in reading order. A folder has the proofs of the functions of a source file.
pub mod Joined
pub mod Steps
pub mod Pieces
pub mod Streams
