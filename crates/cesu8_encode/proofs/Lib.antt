-- The lemmas about the encoder. The folders beside `encoder` prove the functions of `src`.
pub mod encoder
