-- Vectors that the encoder and the decoder use: loads, eight lanes that one shuffle packs, packing,
-- padding, tables of shuffles, and counts.
pub mod Loads
pub mod Rows
pub mod Packing
pub mod Padded
pub mod Tables
pub mod Counts
