-- Lemmas for `src/pairs.rt`, which reads a surrogate pair and two more bytes as one word.
pub mod PairWords
