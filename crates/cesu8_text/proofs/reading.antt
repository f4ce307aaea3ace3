-- Strict and lossy readings: which characters stand at which offsets, and greedy cuttings.
pub mod Standing
pub mod Inside
pub mod Stretches
pub mod Marks
pub mod Steps
pub mod Greedy
pub mod Decoding
pub mod Cuttings
pub mod Costs
pub mod Splits
pub mod EncodedTexts
pub mod EncodedBytes
pub mod LossyTexts
pub mod Borrowing
pub mod LossyBorrowing
pub mod KeptTexts
pub mod Worked
