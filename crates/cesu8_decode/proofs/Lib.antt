-- The lemmas of the decoder, in reading order: what each byte decodes to by the bytes around it,
-- text that is decoded in parts, and the vector code with its masks.
pub mod by_offset
pub mod chunks
pub mod decoder
