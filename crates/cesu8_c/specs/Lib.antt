-- The definitions that the contracts of the exports cite.
pub mod Answers
pub mod Pieces
