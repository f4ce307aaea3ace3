-- In reading order: UTF-8 as std defines it, lists, the UTF-8 of characters, the encoding of texts,
-- the decoding of bytes, and the order of encodings.
pub mod StdUtf8
pub mod lists
pub mod text
pub mod encoding
pub mod reading
pub mod order
